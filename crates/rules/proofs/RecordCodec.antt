-- A record and the request that it says are each other's inverse: read then written gives the same bytes, written then read the same request and items.
-- The head goes by the law of layouts, the items by one law over their width.
use mathlib.Core.Path.{◌≡◌, refl, ap, ◌∙◌}
use mathlib.Core.List.{List, [], ◌∷◌, ◌++◌, map, flat_map, append_assoc}
use Prim.Native.Nat.{ℕ, zero, suc, ◌+◌, ◌*◌, ◌^◌, ◌≤◌, ◌<◌}
use native.Mathlib.Nat.{mul-suc}
use native.Mathlib.Omega.{arith}
use lib.ListN.{length, take, drop, get_or, length-drop, length-map, take-append-drop}
use lib.Seq.{drop_at, length-take-le}
use Rattle.octets.specs.Runs.{Bytes, pieces}
use Rattle.octets.specs.Numbers.{be, to_be}
use Rattle.octets.specs.Fields.{numbers, bytes_of, Fit, field_of}
use Rattle.octets.proofs.RunsLaws.{bytes_take, bytes_drop}
use Rattle.octets.proofs.PiecesLaws.{length-pieces, pieces-flat_map}
use Rattle.octets.proofs.NumbersLaws.{length-to_be, be-to_be, to_be-be}
use Rattle.octets.proofs.FieldsLaws.{numbers_bytes_of, bytes_of_numbers, length_bytes_of}
use Rattle.rules.specs.Layout.{current, mark_field, version_field, record_fields, record_size, item_size, record_mark, record_version}
use Rattle.rules.specs.Record.{request_of, request_numbers, record_bytes, items_of, item_count, zero_byte}
use Rattle.rules.specs.declared.Request.{Request}
use Rattle.rules.proofs.LayoutLaws.{record-size}
use Rattle.rules.proofs.AllLaws.{All, none, more}

-- ---- a run of numbers of one width

run-back : (w n : ℕ) (l : List ℕ) → Bytes l → length l ≡ w * n → flat_map (to_be w) (map be (pieces w n l)) ≡ l
unfolding flat_map pieces
run-back w zero [] b e = refl
run-back w zero (x ∷ l) b e = absurd (omega arith)
run-back w (suc n) l b e =
    let more : w * suc n ≡ w * n + w = mul-suc w n in
    let long : w ≤ length l = omega arith in
    let one : to_be w (be (take w l)) ≡ take w l = rw (length-take-le w l long) at (to_be-be (take w l) (bytes_take w l b)) in
    let rest : length (drop w l) ≡ w * n = rw length-drop (omega arith) in
    rw (one, run-back w n (drop w l) (bytes_drop w l b) rest) (take-append-drop w l)

pub run-again : (w : ℕ) (xs : List ℕ) → All (λ x. x < 256 ^ w) xs → (rest : List ℕ) → map be (pieces w (length xs) (flat_map (to_be w) xs ++ rest)) ≡ xs
run-again w xs a rest =
    ap (map be) (pieces-flat_map w (to_be w) xs (length-to_be w) rest) ∙ each a
  where
    each : {xs : List ℕ} → All (λ x. x < 256 ^ w) xs → map be (map (to_be w) xs) ≡ xs
    each none = refl
    each (more {x} h hs) = rw (be-to_be w x h, each hs)

pub length_items_of : (r : List ℕ) → length (items_of r) ≡ item_count r
unfolding items_of
length_items_of r =
    length-map (pieces (item_size current) (item_count r) (drop record_size r)) be ∙ length-pieces (item_size current) (item_count r) (drop record_size r)

-- ---- the head of a record

module _ (r : List ℕ) (mark : field_of record_fields mark_field r ≡ record_mark) (version : field_of record_fields version_field r ≡ record_version) (zero : zero_byte r ≡ 0) where
  pub numbers-back : request_numbers (request_of r) (item_count r) ≡ numbers record_fields r
  unfolding request_numbers request_of field_of numbers
  numbers-back = rw (mark, version, zero)

  -- read, then written: the same bytes
  pub record-back : Bytes r → length r ≡ record_size + item_size current * item_count r → record_bytes (request_of r) (items_of r) ≡ r
  unfolding record_bytes items_of
  record-back b e =
      let n : length (map be (pieces (item_size current) (item_count r) (drop record_size r))) ≡ item_count r = length_items_of r in
      let head : bytes_of record_fields (request_numbers (request_of r) (item_count r)) ≡ take record_size r =
      ap (bytes_of record_fields) numbers-back ∙ rw record-size at (bytes_of_numbers record_fields r b (rw record-size (omega arith))) in
      let items : flat_map (to_be (item_size current)) (map be (pieces (item_size current) (item_count r) (drop record_size r))) ≡ drop record_size r =
      run-back (item_size current) (item_count r) (drop record_size r) (bytes_drop record_size r b) (rw length-drop (omega arith)) in
      rw (n, head, items) (take-append-drop record_size r)

-- ---- written, then read

module _ (q : Request) (items rest : List ℕ) (fit : Fit record_fields (request_numbers q (length items))) where
  numbers-again : numbers record_fields (record_bytes q items ++ rest) ≡ request_numbers q (length items)
  unfolding record_bytes
  numbers-again = rw append_assoc (numbers_bytes_of record_fields (request_numbers q (length items)) (flat_map (to_be (item_size current)) items ++ rest) fit)

  pub field-again : (k : ℕ) → field_of record_fields k (record_bytes q items ++ rest) ≡ get_or (request_numbers q (length items)) k 0
  unfolding field_of
  field-again k = rw numbers-again

  pub request-again : request_of (record_bytes q items ++ rest) ≡ q
  unfolding request_of request_numbers
  request-again = simp field-again

  pub count-again : item_count (record_bytes q items ++ rest) ≡ length items
  unfolding request_numbers
  count-again = field-again 12

  pub items-again : All (λ x. x < 256 ^ (item_size current)) items → items_of (record_bytes q items ++ rest) ≡ items
  unfolding items_of record_bytes
  items-again a =
      let cut : drop record_size (bytes_of record_fields (request_numbers q (length items)) ++ (flat_map (to_be (item_size current)) items ++ rest)) ≡ flat_map (to_be (item_size current)) items ++ rest =
      drop_at (bytes_of record_fields (request_numbers q (length items))) (flat_map (to_be (item_size current)) items ++ rest) record_size (length_bytes_of record_fields (request_numbers q (length items)) fit ∙ record-size) in
      rw (count-again, append_assoc, cut) (run-again (item_size current) items a rest)

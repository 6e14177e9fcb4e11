-- Parts that are stored one behind the other, or over zeros at another's end, are stored as one: what stands before so many bytes, what stands before the list, an item.
use mathlib.Core.Path.{◌≡◌, refl, ap, ◌∙◌}
use mathlib.Core.Bool.{Bool, true, false}
use mathlib.Core.List.{List, [], ◌∷◌, ◌++◌, flat_map}
use Prim.Native.Nat.{ℕ, ◌+◌, ◌-◌, ◌*◌, ◌/◌, ◌%◌, ◌^◌, ◌<◌, ◌≤◌}
use native.Mathlib.Omega.{arith}
use lib.Dec.{ltb}
use lib.ListN.{length}
use lib.Seq.{sets}
use mir.Val.{bool_byte}
use Rattle.octets.specs.Numbers.{to_be}
use Rattle.octets.proofs.RunsLaws.{sets-run, sets_across}
use Rattle.octets.proofs.NumbersLaws.{length-to_be}
use Rattle.rules.specs.Reply.{Row}
use Rattle.answer.specs.Rows.{rows_in}
use Rattle.answer.proofs.RowsLaws.{length-rows}
use Rattle.aper.specs.Elements.{short_length, long_length}
use Rattle.wire.specs.Messages.{transaction_id, cells_id, count_size}
use Rattle.wire.specs.Readers.{plain_head}
use Rattle.wire.specs.declared.Message.{Message}
use Rattle.wire.specs.declared.Message.TheVariants.{CancelRequest, CancelResponse, WriteReplaceResponse}
use Rattle.responses.specs.ResponseSize.{list_size}
use Rattle.response_write.specs.Parts.{opening, opening_size, enclosed, item_bytes, items_bytes, list_bytes, front_bytes, front_number}
use Rattle.response_write.proofs.LengthLaws.{long-opening}
use Rattle.response_write.proofs.SizeLaws.{length-opening, length-items}

module _ (l : List ℕ) (at : ℕ) where
  -- bytes behind those that were stored
  pub stored_then : {a b : List ℕ} (j : ℕ) (xs ys : List ℕ) → a ≡ sets l at xs → b ≡ sets a j ys → j ≡ at + length xs → b ≡ sets l at (xs ++ ys)
  stored_then j xs ys p q e = rw (q, p) (sets-run xs ys l at j e)

  -- what stands before so many bytes, with a length of two
  pub long-stored : {a b : List ℕ} (start n : ℕ) → start < 256 ^ 2 → short_length ≤ n → n < long_length → a ≡ sets l at (to_be 4 (start * 65536 + 128 + n / 256))
      → b ≡ sets a (at + 3 + 1) (to_be 1 (n % 256))
      → b ≡ sets l at (opening start n)
  long-stored start n two long small p q =
      let four = length-to_be 4 (start * 65536 + 128 + n / 256) in
      rw (long-opening start two n long small) (stored_then (at + 3 + 1) (to_be 4 (start * 65536 + 128 + n / 256)) (to_be 1 (n % 256)) p q (omega arith))

-- ---- what stands before the list

front_bytes_lem : (many t : ℕ) → to_be 8 (front_number many) ++ to_be 1 t ≡ front_bytes many t
front_bytes_lem many t = of (ltb 0 many)
  where
    of : (b : Bool) → to_be 8 ((1 + bool_byte b) * 256 ^ 5 + (transaction_id * 256 ^ 3 + 2 * 256)) ++ to_be 1 t ≡ 0 ∷ 0 ∷ (1 + bool_byte b) ∷ 0 ∷ transaction_id ∷ 0 ∷ 2 ∷ 0 ∷ t ∷ []
    of true = unfold to_be in let same : t / 1 ≡ t = omega arith in rw same
    of false = unfold to_be in let same : t / 1 ≡ t = omega arith in rw same

pub front_stored : (l : List ℕ) {a b c : List ℕ} (at start n many t : ℕ) → a ≡ sets l 0 (opening start n) → b ≡ sets a at (to_be 8 (front_number many))
    → c ≡ sets b (at + 8) (to_be 1 t)
    → at ≡ opening_size n
    → c ≡ sets l 0 (opening start n ++ front_bytes many t)
front_stored l {a} at start n many t p q r e =
    let two = stored_then a at (at + 8) (to_be 8 (front_number many)) (to_be 1 t) q r (rw length-to_be) in
    let long = length-opening start n in
    stored_then l 0 at (opening start n) (front_bytes many t) p (two ∙ ap (sets a at) (front_bytes_lem many t)) (omega arith)

-- ---- the list

module _ (answer : List ℕ) (m : Message) (many : ℕ) where
  list-some : (rows : List Row) → 0 < length rows
      → list_bytes m rows ≡ opening (cells_id m) (list_size m (length rows)) ++ (to_be 2 (length rows - 1) ++ flat_map (item_bytes m) rows)
  unfolding list_bytes enclosed items_bytes
  list-some [] some = absurd (omega arith)
  list-some (w ∷ ws) some = ap (λ (n : ℕ). opening (cells_id m) n ++ items_bytes m (w ∷ ws)) (length-items m (w ∷ ws))

  pub list-stored : (l : List ℕ) (at from : ℕ) {a b c : List ℕ} (size : ℕ) → 0 < many → size ≡ list_size m many
      → a ≡ sets l at (opening (cells_id m) size)
      → from ≡ at + opening_size size
      → b ≡ sets a from (to_be 2 (many - 1))
      → c ≡ sets b (from + 2) (flat_map (item_bytes m) (rows_in answer many))
      → c ≡ sets l at (list_bytes m (rows_in answer many))
  list-stored l at from {a} size some whole p e q r =
      let rows = rows_in answer many in
      let long = length-opening (cells_id m) size in
      let two = stored_then a from (from + 2) (to_be 2 (many - 1)) (flat_map (item_bytes m) rows) q r (rw length-to_be) in
      stored_then l at from (opening (cells_id m) size) (to_be 2 (many - 1) ++ flat_map (item_bytes m) rows) p two (omega arith)
      ∙ rw (list-some rows (rw (length-rows answer many) some), length-rows answer many, whole)

-- ---- an item

-- what stands before its cell, and zeros
head_bytes_lem : (m : Message) → to_be 8 (plain_head m * 256 ^ 4) ≡ (to_be 4 (plain_head m) ++ to_be 1 0) ++ to_be 3 0
unfolding to_be
head_bytes_lem CancelRequest = refl
head_bytes_lem CancelResponse = refl
head_bytes_lem WriteReplaceResponse = refl

module _ (l : List ℕ) (at : ℕ) (m : Message) (w : Row) {a b : List ℕ} (p : a ≡ sets l at (to_be 8 (plain_head m * 256 ^ 4)))
    (q : b ≡ sets a (at + 5) (to_be 8 (w.identity * 16))) where
  -- without its count
  abbrev Plain : List ℕ
  Plain = (to_be 4 (plain_head m) ++ to_be 1 0) ++ to_be 8 (w.identity * 16)

  plain-stored : b ≡ sets l at Plain
  plain-stored =
      let flagged = to_be 4 (plain_head m) ++ to_be 1 0 in
      rw (q, p, head_bytes_lem m) (sets_across flagged (to_be 3 0) (to_be 8 (w.identity * 16)) l at (at + 5) (unfold to_be in refl) (unfold to_be in omega arith))

  item-stored : {e : List ℕ} → e ≡ sets b (at + 13) (to_be (count_size m) w.count) → e ≡ sets l at (item_bytes m w)
  unfolding item_bytes to_be
  item-stored s = stored_then l at (at + 13) Plain (to_be (count_size m) w.count) plain-stored s refl

  -- one that has none
  pub plain_item_lem : count_size m ≡ 0 → b ≡ sets l at (item_bytes m w)
  unfolding to_be
  plain_item_lem e = item-stored (rw e)

  -- one that has one
  pub counted-item : count_size m ≡ 2 → {e : List ℕ} → e ≡ sets b (at + 13) (to_be 2 w.count) → e ≡ sets l at (item_bytes m w)
  counted-item t s = item-stored (rw t s)

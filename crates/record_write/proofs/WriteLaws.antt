-- What the writer stores is the record of the rules: field behind field, item behind item, and the tests 4 to 8 in their order.
-- A store behind a store is one store of both (`sets-run`), so a chain of them stores what the layout gives.
use Rattle.std.specs.Prelude.{Ok, Err}
use mathlib.Core.Path.{◌≡◌, refl, sym, ◌∙◌}
use mathlib.Core.List.{List, [], ◌∷◌, flat_map}
use Prim.Native.Nat.{ℕ, suc, ◌+◌, ◌*◌, ◌<◌, ◌≤◌}
use native.Mathlib.Numerals.{add-one}
use native.Mathlib.Omega.{arith}
use lib.ListN.{length, drop, get_or, length-append, drop_of_length-le}
use lib.Seq.{sets, drop-cons}
use borrow.Author.Tests.{le-leb, lt-leb}
use Rattle.octets.specs.Numbers.{to_be}
use Rattle.octets.specs.Fields.{bytes_of}
use Rattle.octets.proofs.RunsLaws.{sets-run}
use Rattle.octets.proofs.PiecesLaws.{length-flat_map}
use Rattle.octets.proofs.NumbersLaws.{length-to_be}
use Rattle.rules.specs.Layout.{current, longest_period, record_fields, record_size, item_size, record_mark, record_version, most_items}
use Rattle.rules.specs.Record.{request_numbers, record_bytes}
use Rattle.rules.specs.Refusals.{request_verdict, write_verdict, Verdict}
use Rattle.rules.specs.Applied.{fill, filled_by, written}
use Rattle.rules.specs.declared.Request.{Request}
use Rattle.rules.specs.declared.Refusal.{Refusal}
use Rattle.rules.specs.declared.Refusal.TheVariants.{RecordLength, ShortBuffer}
use Rattle.rules.proofs.LayoutLaws.{record-size}
use Rattle.rules.proofs.FitLaws.{length-written}
use Rattle.rules.proofs.VerdictLaws.{write_chain}
use Rattle.rules.proofs.RecordTrips.{AcceptedWriting, writing_accepted}

-- ---- items that are stored

module _ (w : ℕ) (b : List ℕ) (i : ℕ) (xs : List ℕ) (k : ℕ) where
  -- a turn of the loop that stores the numbers of xs from index i on
  pub put_next : k < length xs → sets b i (flat_map (to_be w) (drop k xs)) ≡ sets (sets b i (to_be w (get_or xs k 0))) (i + w) (flat_map (to_be w) (drop (k + 1) xs))
  unfolding flat_map
  put_next h =
      rw (drop-cons xs k 0 h, add-one)
      (sym (sets-run (to_be w (get_or xs k 0)) (flat_map (to_be w) (drop (suc k) xs)) b i (i + w) (rw length-to_be)))

  pub all_put : length xs ≤ k → sets b i (flat_map (to_be w) (drop k xs)) ≡ b
  unfolding flat_map
  all_put h = rw (drop_of_length-le xs h)

-- ---- fields that are stored

-- the numbers of a layout, stored one by one from index i on
unfoldable pub puts : List ℕ → ℕ → List ℕ → List ℕ → List ℕ
puts l i [] vs = l
puts l i (w ∷ ws) [] = l
puts l i (w ∷ ws) (v ∷ vs) = puts (sets l i (to_be w v)) (i + w) ws vs

pub puts_bytes_of : (l : List ℕ) (i : ℕ) (ws vs : List ℕ) → puts l i ws vs ≡ sets l i (bytes_of ws vs)
unfolding puts bytes_of
puts_bytes_of l i [] vs = refl
puts_bytes_of l i (w ∷ ws) [] = refl
puts_bytes_of l i (w ∷ ws) (v ∷ vs) =
    puts_bytes_of (sets l i (to_be w v)) (i + w) ws vs ∙ sets-run (to_be w v) (bytes_of ws vs) l i (i + w) (rw length-to_be)

-- mark and version, in parts that meet within the version
pub mark_put : (l : List ℕ) {a b : List ℕ} → a ≡ sets l 0 (to_be 4 (record_mark * 256)) → b ≡ sets a 4 (to_be 1 record_version)
    → b ≡ sets l 0 (bytes_of record_fields (record_mark ∷ record_version ∷ []))
unfolding to_be bytes_of
mark_put l p q = rw (q, p) (sets-run (to_be 4 (record_mark * 256)) (to_be 1 record_version) l 0 4 refl)

-- all fields of a record: mark and version, and the others behind them
pub fields_put : (q : Request) (n : ℕ) (l : List ℕ) {a b c : List ℕ} → a ≡ sets l 0 (to_be 4 (record_mark * 256)) → b ≡ sets a 4 (to_be 1 record_version)
    → c ≡ puts b 5 (drop 2 record_fields) (drop 2 (request_numbers q n))
    → c ≡ sets l 0 (bytes_of record_fields (request_numbers q n))
unfolding puts request_numbers
fields_put q n l mark version rest =
    rest
    ∙ rw (mark_put l mark version ∙ sym (puts_bytes_of l 0 record_fields (record_mark ∷ record_version ∷ [])))
    (puts_bytes_of l 0 record_fields (request_numbers q n))

-- ---- 4 (n only), 5, 6, 7 and 8 in their order

module _ (q : Request) (items : List ℕ) (room : ℕ) where
  pub many-refused : most_items < length items → Err RecordLength ≡ write_verdict q items room
  many-refused t = rw (write_chain q items room, lt-leb (length items) most_items t)

  module _ (few : length items ≤ most_items) {v : Verdict} (e : v ≡ request_verdict (longest_period current) q items) where
    pub request-refused : {x : Refusal} → v ≡ Err x → Err x ≡ write_verdict q items room
    request-refused t = rw (write_chain q items room, le-leb (length items) most_items few, ← e, t)

    module _ (t : v ≡ Ok tt) where
      pub room-refused : room < record_size + item_size current * length items → Err ShortBuffer ≡ write_verdict q items room
      room-refused h = rw (write_chain q items room, le-leb (length items) most_items few, ← e, t, lt-leb (record_size + item_size current * length items) room h)

      pub writing_allowed : record_size + item_size current * length items ≤ room → (Ok tt) ≡ write_verdict q items room
      writing_allowed h = rw (write_chain q items room, le-leb (length items) most_items few, ← e, t, le-leb (record_size + item_size current * length items) room h)

-- ---- what is written

fields_size : (q : Request) (n : ℕ) → length (bytes_of record_fields (request_numbers q n)) ≡ record_size
unfolding request_numbers
fields_size q n = length-written record_fields (request_numbers q n) refl ∙ record-size

pub bytes-size : (q : Request) (items : List ℕ) → length (record_bytes q items) ≡ record_size + item_size current * length items
unfolding record_bytes
bytes-size q items = rw (length-append, fields_size q (length items), length-flat_map (item_size current) (to_be (item_size current)) items (length-to_be (item_size current)))

-- fields and items, one behind the other
pub one_store : (q : Request) (items l : List ℕ) → sets (sets l 0 (bytes_of record_fields (request_numbers q (length items)))) record_size (flat_map (to_be (item_size current)) items) ≡ sets l 0 (record_bytes q items)
unfolding record_bytes
one_store q items l =
    sets-run (bytes_of record_fields (request_numbers q (length items))) (flat_map (to_be (item_size current)) items) l 0 record_size (omega (arith, fields_size q (length items)))

module _ (q : Request) (items buffer : List ℕ) {v : Verdict} (e : v ≡ write_verdict q items (length buffer)) where
  pub allowed_writing : v ≡ Ok tt → AcceptedWriting q items (length buffer)
  allowed_writing t = writing_accepted q items (length buffer) (sym e ∙ t)

  pub record_put : v ≡ Ok tt → {a b : List ℕ} → a ≡ sets buffer 0 (bytes_of record_fields (request_numbers q (length items)))
      → b ≡ sets a record_size (flat_map (to_be (item_size current)) items)
      → filled_by (Ok (record_size + item_size current * length items)) b ≡ written q items buffer
  unfolding written fill
  record_put t p₁ p₂ = rw (← e, t, bytes-size q items, p₂, p₁, one_store q items buffer)

  pub nothing_put : {x : Refusal} → v ≡ Err x → filled_by (Err x) buffer ≡ written q items buffer
  unfolding written fill
  nothing_put t = rw (← e, t)

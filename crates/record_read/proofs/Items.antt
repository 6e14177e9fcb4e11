-- The items of an accepted record, one by one: what `item` returns is what the record says, and a loop over them meets each once.
-- An item is the piece of the record at its place.
use Rattle.std.specs.Prelude.{Ok}
use mathlib.Core.Path.{◌≡◌, sym, ◌∙◌}
use mathlib.Core.List.{List, [], ◌∷◌}
use Prim.Native.Nat.{ℕ, ◌+◌, ◌*◌, ◌≤◌, ◌<◌}
use native.Mathlib.Numerals.{add-one}
use native.Mathlib.Omega.{arith}
use lib.ListN.{length, drop, get_or, get_or-map, get_or-eq_default}
use lib.Seq.{drop-cons, drop-drop}
use lib.Dec.{ltb}
use borrow.Author.Tests.{le-leb, lt-leb, ltb-true, ltb-false}
use Rattle.octets.specs.Runs.{gets, pieces}
use Rattle.octets.specs.Numbers.{be}
use Rattle.octets.proofs.RunsLaws.{gets_eq}
use Rattle.octets.proofs.PiecesLaws.{pieces-at}
use Rattle.rules.specs.Layout.{current, record_size, item_size}
use Rattle.rules.specs.Record.{item_count, items_of}
use Rattle.rules.specs.Refusals.{record_verdict}
use Rattle.rules.specs.Applied.{item_at}
use Rattle.rules.proofs.TestLaws.{by_test}
use Rattle.rules.proofs.RecordCodec.{length_items_of}
use Rattle.rules.proofs.AcceptedRecordLaws.{record-accepted}

-- ---- any bytes

module _ (r : List ℕ) (k : ℕ) where
  pub item-there : record_size + item_size current * (k + 1) ≤ length r → be (gets r (record_size + item_size current * k) (item_size current)) ≡ item_at r k
  unfolding item_at
  item-there h = rw (le-leb (record_size + item_size current * (k + 1)) (length r) h)

  pub item_missing : length r < record_size + item_size current * (k + 1) → 0 ≡ item_at r k
  unfolding item_at
  item_missing h = rw (lt-leb (record_size + item_size current * (k + 1)) (length r) h)

-- ---- an accepted record

module _ (r : List ℕ) (a : record_verdict current r ≡ Ok tt) (k : ℕ) where
  item_of : k < item_count r → be (gets r (record_size + item_size current * k) (item_size current)) ≡ get_or (items_of r) k 0
  unfolding items_of be
  item_of h =
      let size : length r ≡ record_size + item_size current * item_count r = (record-accepted current r a).size in
      rw (get_or-map be (pieces (item_size current) (item_count r) (drop record_size r)) k [], pieces-at (item_size current) (item_count r) k (drop record_size r) h)
      (rw (drop-drop, gets_eq (item_size current) r (record_size + item_size current * k) (omega arith)))

  -- what `item` returns is the record's item number k, and 0 behind the last
  pub item_at_items_of : item_at r k ≡ get_or (items_of r) k 0
  item_at_items_of =
      let size : length r ≡ record_size + item_size current * item_count r = (record-accepted current r a).size in
      let n : length (items_of r) ≡ item_count r = length_items_of r in
      by_test (ltb k (item_count r))
      (λ t. let h : k < item_count r = ltb-true k (item_count r) t in sym (item-there r k (omega arith)) ∙ item_of h)
      (λ t. let h : item_count r ≤ k = ltb-false k (item_count r) t in sym (item_missing r k (omega arith)) ∙ sym (get_or-eq_default (items_of r) 0 (omega arith)))

  -- a loop that has met k items meets the next
  items-next : k < item_count r → drop k (items_of r) ≡ item_at r k ∷ drop (k + 1) (items_of r)
  items-next h =
      let n : length (items_of r) ≡ item_count r = length_items_of r in
      rw (add-one, item_at_items_of) (drop-cons (items_of r) k 0 (omega arith))

  -- the same, as the loop reads it from the record's bytes
  pub items-read-next : k < item_count r → drop k (items_of r) ≡ be (gets r (record_size + item_size current * k) (item_size current)) ∷ drop (k + 1) (items_of r)
  items-read-next h = rw (item_of h, ← item_at_items_of) (items-next h)

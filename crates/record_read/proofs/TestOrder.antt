-- The tests of a record, 3 to 7 in their order, and what is read where all are passed.
-- What each test found is put into the list of tests.
use Rattle.std.specs.Prelude.{Ok, Err}
use mathlib.Core.Path.{◌≡◌, sym, ◌∙◌}
use mathlib.Core.Bool.{Bool, true, false, not, ◌&&◌}
use mathlib.Core.List.{List}
use Prim.Native.Nat.{ℕ, ◌+◌, ◌*◌, ◌≤◌, ◌<◌}
use lib.Dec.{eqb, leb}
use lib.ListN.{length}
use borrow.Author.Tests.{leb-true, le-leb, lt-leb, eq-eqb, ne_eqb, not-true, not-false}
use Rattle.octets.specs.Fields.{field_of}
use Rattle.rules.specs.Layout.{current, mark_field, record_fields, record_size, item_size, record_mark, most_items}
use Rattle.rules.specs.Record.{version_in, takes_version, longest_asked, request_of, items_of, item_count, zero_byte, record_marked}
use Rattle.rules.specs.Refusals.{Verdict, request_verdict, record_verdict}
use Rattle.rules.specs.Applied.{read_by, reading, read_of}
use Rattle.rules.specs.declared.Request.{Request}
use Rattle.rules.specs.declared.Refusal.{Refusal}
use Rattle.rules.specs.declared.Refusal.TheVariants.{RecordMark, RecordLength, RecordFields}
use Rattle.rules.proofs.TestLaws.{both}

-- ---- 3 to 7 in their order

module _ (r : List ℕ) {marked : Bool} (m : marked ≡ record_marked current r) where
  pub mark-refused : not marked ≡ true → Err RecordMark ≡ record_verdict current r
  unfolding record_verdict
  mark-refused t = rw (← m, not-true marked t)

  module _ (right : not marked ≡ false) where
    pub long_enough : record_size ≤ length r
    unfolding record_marked
    long_enough =
        let h = both (leb record_size (length r) && eqb (field_of record_fields mark_field r) record_mark) (takes_version current (version_in r)) (sym m ∙ not-false marked right) in
        leb-true record_size (length r) (both (leb record_size (length r)) (eqb (field_of record_fields mark_field r) record_mark) h.0).0

    module _ {n : ℕ} (c : n ≡ item_count r) where
      pub many-refused : most_items < n → Err RecordLength ≡ record_verdict current r
      unfolding record_verdict
      many-refused t = rw (← m, not-false marked right, ← c, lt-leb n most_items t)

      pub length-refused : n ≤ most_items → (length r ≡ record_size + item_size current * n → ⊥) → Err RecordLength ≡ record_verdict current r
      unfolding record_verdict
      length-refused few t = rw (← m, not-false marked right, ← c, le-leb n most_items few, ne_eqb (length r) (record_size + item_size current * n) t)

      module _ (few : n ≤ most_items) (size : length r ≡ record_size + item_size current * n) {zero : ℕ} (z : zero ≡ zero_byte r) where
        pub zero-refused : (zero ≡ 0 → ⊥) → Err RecordFields ≡ record_verdict current r
        unfolding record_verdict
        zero-refused t = rw (← m, not-false marked right, ← c, le-leb n most_items few, eq-eqb (length r) (record_size + item_size current * n) size, ← z, ne_eqb zero 0 t)

        pub rest-judged : zero ≡ 0 → request_verdict (longest_asked r) (request_of r) (items_of r) ≡ record_verdict current r
        unfolding record_verdict request_verdict
        rest-judged t = rw (← m, not-false marked right, ← c, le-leb n most_items few, eq-eqb (length r) (record_size + item_size current * n) size, ← z, eq-eqb zero 0 t)

-- ---- what is read

module _ (r : List ℕ) {v : Verdict} (e : v ≡ record_verdict current r) where
  pub read_fields : v ≡ Ok tt → {q : Request} {n : ℕ} → q ≡ request_of r → n ≡ item_count r → read_by (Ok (q, n)) ≡ read_of r
  unfolding read_of reading
  read_fields t q n = rw (← e, t, q, n)

  pub read-nothing : {x : Refusal} → v ≡ Err x → read_by (Err x) ≡ read_of r
  unfolding read_of reading
  read-nothing t = rw (← e, t)

-- Framing does not depend on how the input comes: a record that is taken is the one that the whole input has there.
-- And a record that the end of the input cuts off is the last: the reader gives 3 or 4 for what is there, and both stop the program.
-- The first 26 bytes settle a record's size; what is shorter than its own size is refused by its mark or its length.
use Rattle.std.specs.Prelude.{Some, None, Ok, Err}
use mathlib.Core.Path.{◌≡◌, refl, sym, ◌∙◌}
use mathlib.Core.Bool.{Bool, true, false, ◌&&◌, false≢true}
use mathlib.Core.List.{List, ◌++◌}
use Prim.Native.Nat.{ℕ, ◌+◌, ◌*◌, ◌≤◌, ◌<◌}
use native.Mathlib.Omega.{arith}
use lib.Dec.{eqb, leb}
use lib.ListN.{length, take, length-append}
use lib.Seq.{take-append-le}
use borrow.Author.Tests.{leb-true, le-leb, eqb-true}
use Rattle.octets.specs.Fields.{field_of}
use Rattle.octets.proofs.FieldsLaws.{numbers_append}
use Rattle.rules.specs.Layout.{current, version_number, mark_field, record_fields, record_size, record_mark, item_size, most_items}
use Rattle.rules.specs.Table.{table_marked, legal_table}
use Rattle.rules.specs.Record.{version_in, takes_version, request_of, item_count, items_of, record_marked}
use Rattle.rules.specs.Refusals.{verdict_number, ◌then◌, table_verdict, record_verdict, apply_verdict, Verdict}
use Rattle.rules.specs.Applied.{outcome, applied}
use Rattle.rules.specs.declared.Request.{Request}
use Rattle.rules.proofs.LayoutLaws.{record-size}
use Rattle.rules.proofs.TestLaws.{both, by_test}
use Rattle.rules.proofs.VerdictLaws.{apply_chain}
use Rattle.report_lines.specs.Framing.{own_size, frame_of, stops_at}
use Rattle.report_lines.proofs.FrameLaws.{own-whole, frame-whole, frame-cut}

-- ---- more input changes nothing

count_stays : (held more : List ℕ) → record_size ≤ length held → item_count (held ++ more) ≡ item_count held
unfolding field_of
count_stays held more h = rw (numbers_append record_fields held more (omega (arith, record-size)))

pub own-least : (l : List ℕ) → record_size ≤ own_size l
unfolding own_size
own-least l =
    by_test (leb record_size (length l) && leb (item_count l) most_items) (λ (e : (leb record_size (length l) && leb (item_count l) most_items) ≡ true). rw e (omega arith))
    (λ (e : (leb record_size (length l) && leb (item_count l) most_items) ≡ false). rw e (omega arith))

own_stays : (held more : List ℕ) → record_size ≤ length held → own_size (held ++ more) ≡ own_size held
unfolding own_size
own_stays held more h =
    let n : length (held ++ more) ≡ length held + length more = length-append held more in
    rw (count_stays held more h, le-leb record_size (length held) h, le-leb record_size (length (held ++ more)) (omega arith))

taken-whole : (held : List ℕ) (size : ℕ) → frame_of held false ≡ Some size → (own_size held ≡ size) × (size ≤ length held)
unfolding frame_of
taken-whole held size h =
    by_test (leb (own_size held) (length held))
    (λ (e : leb (own_size held) (length held) ≡ true).
    let some : Some (own_size held) ≡ Some size = rw e at h in
    let same : own_size held ≡ size = cc in
    (same, omega (arith, leb-true (own_size held) (length held) e)))
    (λ (e : leb (own_size held) (length held) ≡ false). let none : None ≡ Some size = rw e at h in cc)

module _ (held more : List ℕ) (size : ℕ) (h : frame_of held false ≡ Some size) where
  pub frame_stays : (ended : Bool) → frame_of (held ++ more) ended ≡ Some size
  frame_stays ended =
      let w = taken-whole held size h in
      let n : length (held ++ more) ≡ length held + length more = length-append held more in
      let s : own_size (held ++ more) ≡ own_size held = own_stays held more (omega (arith, own-least held, w.0, w.1)) in
      sym (frame-whole (held ++ more) size (sym (s ∙ w.0)) ended (omega (arith, w.1)))

  pub record_stays : take size (held ++ more) ≡ take size held
  record_stays = take-append-le size held more (taken-whole held size h).1

-- ---- a record that is cut off

stops_3 : stops_at 3 ≡ true
unfolding stops_at
stops_3 = refl

number_of : (v : Verdict) (q : Request) (items t a : List ℕ) → (outcome current v q items t a).number ≡ verdict_number v
unfolding outcome
number_of (Ok tt) q items t a = refl
number_of (Err x) q items t a = refl

-- a verdict that stops the program does so whatever is tested behind it
stays_stopped : (v w : Verdict) → stops_at (verdict_number v) ≡ true → stops_at (verdict_number (v then w)) ≡ true
unfolding stops_at
stays_stopped (Ok tt) w e = absurd (false≢true e)
stays_stopped (Err x) w e = e

-- and behind the tests of a table, of which each stops it too
table-stops : (t : List ℕ) (w : Verdict) → stops_at (verdict_number w) ≡ true → stops_at (verdict_number (table_verdict current t then w)) ≡ true
unfolding table_verdict stops_at
table-stops t w e =
    by_test (table_marked (version_number current) t)
    (λ (m : table_marked (version_number current) t ≡ true). by_test (legal_table current t) (λ (g : legal_table current t ≡ true). rw (m, g) e) (λ (g : legal_table current t ≡ false). rw (m, g)))
    (λ (m : table_marked (version_number current) t ≡ false). rw m)

stops_4 : stops_at 4 ≡ true
unfolding stops_at
stops_4 = refl

long-marked : (l : List ℕ) → record_marked current l ≡ true → record_size ≤ length l
unfolding record_marked
long-marked l e =
    let m = both (leb record_size (length l) && eqb (field_of record_fields mark_field l) record_mark) (takes_version current (version_in l)) e in
    leb-true record_size (length l) (both (leb record_size (length l)) (eqb (field_of record_fields mark_field l) record_mark) m.0).0

-- what is shorter than its own size is refused by its mark or its length
pub cut-refused : (l : List ℕ) → length l < own_size l → stops_at (verdict_number (record_verdict current l)) ≡ true
unfolding record_verdict
cut-refused l h = by_test (record_marked current l) marked (λ (e : record_marked current l ≡ false). rw e stops_3)
  where
    sized : Bool
    sized = leb (item_count l) most_items && eqb (length l) (record_size + item_size current * item_count l)

    whole : record_size ≤ length l → sized ≡ true → ⊥
    whole k e =
        let b = both (leb (item_count l) most_items) (eqb (length l) (record_size + item_size current * item_count l)) e in
        let o : record_size + item_size current * item_count l ≡ own_size l = own-whole l (item_count l) k refl (leb-true (item_count l) most_items b.0) in
        omega (arith, eqb-true (length l) (record_size + item_size current * item_count l) b.1)

    marked : record_marked current l ≡ true → stops_at (verdict_number (record_verdict current l)) ≡ true
    marked e = by_test sized (λ (s : sized ≡ true). absurd (whole (long-marked l e) s)) (λ (s : sized ≡ false). rw (e, s) stops_4)

-- so the program stops there, whatever its table: all that is left is the record
pub record CutStops (t a l : List ℕ) : Type 0 where
  pub taken : 0 < length l → frame_of l true ≡ Some (length l)
  pub stops : stops_at (applied current t l a).number ≡ true

pub cut-stops : (t a l : List ℕ) → length l < own_size l → CutStops t a l
unfolding applied
cut-stops t a l h =
    record {
      taken = λ (some : 0 < length l). sym (frame-cut l (own_size l) refl some h);
      stops =
          rw (number_of (apply_verdict current t l (length a)) (request_of l) (items_of l) t a, apply_chain current t l (length a))
          (table-stops t _ (stays_stopped (record_verdict current l) _ (cut-refused l h)));
    }

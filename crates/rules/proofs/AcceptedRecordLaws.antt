-- What a record that is accepted gives, test by test; and that it asks for no more than its unit allows.
-- A definition by `&&` is taken apart once, into a record of plain facts.
use Rattle.std.specs.Prelude.{Ok}
use mathlib.Core.Path.{◌≡◌}
use mathlib.Core.Bool.{true, ◌&&◌}
use mathlib.Core.List.{List}
use Prim.Native.Nat.{ℕ, ◌+◌, ◌*◌, ◌≤◌}
use native.Mathlib.Omega.{arith}
use lib.Dec.{eqb, leb}
use lib.ListN.{length}
use borrow.Author.Tests.{leb-true, eqb-true, not-true, le-leb, eq-eqb}
use Rattle.octets.specs.Fields.{field_of}
use Rattle.rules.specs.Layout.{current, Version, version1, version2, version_of, mark_field, record_fields, record_size, item_size, record_mark, most_items, longest_period}
use Rattle.rules.specs.Record.{version_in, takes_version, longest_asked, request_of, items_of, item_count, zero_byte, record_marked, kind_allows, area_fits, cancels_nothing}
use Rattle.rules.specs.Refusals.{record_tests, request_verdict, record_verdict}
use Rattle.rules.proofs.TestLaws.{both}
use Rattle.rules.proofs.LayoutLaws.{longest-most}
use Rattle.rules.proofs.VerdictLaws.{all_held, accepted-request, allowed_longer}

-- by a unit of a version
pub record AcceptedRecord (v : Version) (r : List ℕ) : Type 0 where
  pub long : record_size ≤ length r
  pub mark : field_of record_fields mark_field r ≡ record_mark
  pub version : takes_version v (version_in r) ≡ true
  pub few : item_count r ≤ most_items
  pub size : length r ≡ record_size + item_size current * item_count r
  pub zero : zero_byte r ≡ 0
  pub request : request_verdict (longest_asked r) (request_of r) (items_of r) ≡ Ok tt

pub record-accepted : (v : Version) (r : List ℕ) → record_verdict v r ≡ Ok tt → AcceptedRecord v r
unfolding record_verdict record_marked
record-accepted v r e =
    let h = all_held (record_tests v r) e in
    let f = both (eqb (zero_byte r) 0 && kind_allows (request_of r)) (area_fits (request_of r) (length (items_of r))) h.1.1.0 in
    let z = both (eqb (zero_byte r) 0) (kind_allows (request_of r)) f.0 in
    let m₂ = both (leb record_size (length r) && eqb (field_of record_fields mark_field r) record_mark) (takes_version v (version_in r)) h.0 in
    let m₁ = both (leb record_size (length r)) (eqb (field_of record_fields mark_field r) record_mark) m₂.0 in
    let l₁ = both (leb (item_count r) most_items) (eqb (length r) (record_size + item_size current * item_count r)) h.1.0 in
    record {
      long = leb-true record_size (length r) m₁.0;
      mark = eqb-true (field_of record_fields mark_field r) record_mark m₁.1;
      version = m₂.1;
      few = leb-true (item_count r) most_items l₁.0;
      size = eqb-true (length r) (record_size + item_size current * item_count r) l₁.1;
      zero = eqb-true (zero_byte r) 0 z.0;
      request =
          accepted-request (longest_asked r) (request_of r) (items_of r)
          (record {
            kind = z.1;
            area = f.1;
            limits = h.1.1.1.0;
            some = not-true (cancels_nothing (request_of r)) h.1.1.1.1.0;
          });
    }

pub accepted-record : (v : Version) (r : List ℕ) → AcceptedRecord v r → record_verdict v r ≡ Ok tt
unfolding record_verdict request_verdict record_marked
accepted-record v r a =
    rw (le-leb record_size (length r) a.long, eq-eqb _ _ a.mark, a.version, le-leb _ _ a.few, eq-eqb _ _ a.size, eq-eqb _ _ a.zero) a.request

-- so no record asks for more than its unit allows
asked : (v : Version) (n : ℕ) → takes_version v n ≡ true → (longest_period (version_of n)).0 ≤ (longest_period v).0
asked version1 n e =
    let h = both (leb 1 n) (leb n 1) e in
    let one : n ≡ 1 = omega (arith, leb-true 1 n h.0, leb-true n 1 h.1) in
    rw one (omega arith)
asked version2 n e = longest-most (version_of n)

pub within-own : (v : Version) (r : List ℕ) → AcceptedRecord v r → request_verdict (longest_period v) (request_of r) (items_of r) ≡ Ok tt
within-own v r a = allowed_longer _ _ (request_of r) (items_of r) (asked v (version_in r) a.version) a.request

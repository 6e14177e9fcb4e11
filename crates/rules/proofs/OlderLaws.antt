-- What is judged as a table of an older version is judged by the rules of the version that it says, which is version 1 today.
-- By the cases of `is_older`: an older version's number is 1 today, and bytes that say another have neither mark.
use Rattle.std.specs.Prelude.{Ok}
use mathlib.Core.Path.{◌≡◌, refl, sym, ap, ◌∙◌}
use mathlib.Core.Bool.{◌&&◌, false≢true, and-false}
use mathlib.Core.List.{List}
use Prim.Native.Nat.{ℕ, ◌<◌}
use lib.Dec.{eqb, leb, ltb}
use lib.ListN.{length}
use borrow.Author.Tests.{ltb-true, eq-eqb, ne_eqb}
use Rattle.octets.specs.Fields.{field_of}
use Rattle.rules.specs.Layout.{version1, current, version_number, version_of, is_older, mark_field, version_field, header_fields, table_mark}
use Rattle.rules.specs.Table.{own_version, table_marked, older_marked}
use Rattle.rules.specs.Refusals.{older_tests, table_verdict, older_verdict}
use Rattle.rules.proofs.TestLaws.{both, by_test}
use Rattle.rules.proofs.VerdictLaws.{all_held}
use Rattle.rules.proofs.LayoutLaws.{older-one, older-number}

pub older-verdict : (t : List ℕ) → older_verdict t ≡ table_verdict version1 t
unfolding older_verdict table_verdict older_marked table_marked
older-verdict t =
    let n : ℕ = field_of header_fields version_field t in
    by_test (is_older n)
    (λ e. rw (older-one n e))
    (λ e. rw (e, ne_eqb n 1 (λ h. absurd (false≢true (sym e ∙ ap is_older h))), and-false))

-- what is accepted is a legal table of its own version, an older one
pub record OlderTable (t : List ℕ) : Type 0 where
  pub older : version_number (own_version t) < version_number current
  pub legal : table_verdict (own_version t) t ≡ Ok tt

pub older-table : (t : List ℕ) → older_verdict t ≡ Ok tt → OlderTable t
unfolding older_verdict older_marked table_verdict table_marked
older-table t e =
    let n : ℕ = field_of header_fields version_field t in
    let held = all_held (older_tests t) e in
    let m = both (leb 5 (length t) && eqb (field_of header_fields mark_field t) table_mark) (is_older n) held.0 in
    let own : version_number (version_of n) ≡ n = older-number n m.1 in
    record {
      older = rw own (ltb-true n (version_number current) (both (leb 1 n) (ltb n (version_number current)) m.1).1);
      legal = rw (own, m.0, eq-eqb n n refl, held.1.0);
    }

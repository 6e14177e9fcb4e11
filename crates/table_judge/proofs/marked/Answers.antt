-- `marked` says whether bytes start with a table's mark and version.
-- Fewer than five bytes do not; else the wide read and the byte say what the first two fields do: `mark_and_version`.
use mathlib.Core.Path.{◌∙◌}
use Prim.Native.Nat.{◌≤◌}
use native.Mathlib.Omega.{arith}
use borrow.Author.Tests.{le-leb, lt-leb}
use lib.ListN.{length}
use Rattle.octets.specs.Fields.{offset}
use Rattle.octets.proofs.FieldsLaws.{field_at}
use Rattle.octets.proofs.MarkLaws.{mark_and_version}
use Rattle.rules.specs.Layout.{header_fields, mark_field, version_field, table_mark}
use Rattle.rules.specs.Table.{table_marked}
use Rattle.table_judge.proofs.marked.Goals as goal

pub returns-then-table-lt-CELLS_AT : goal.returns-then-table-lt-CELLS_AT
unfolding table_marked
returns-then-table-lt-CELLS_AT c = rw (lt-leb 5 (length c.args.table.now) (omega (arith, c.if-table-lt-CELLS_AT.true)))

pub returns : goal.returns
unfolding table_marked offset
returns c =
    let t = c.args.table.now in
    let long : 5 ≤ length t = omega (arith, c.if-table-lt-CELLS_AT.false) in
    rw (c.get.ensures, c.get-2.ensures)
    (mark_and_version t (λ i. (c.type_inv.table i).fits) table_mark _ (omega arith)
    ∙ rw (le-leb 5 (length t) long, ← field_at header_fields mark_field t (omega (arith, long)), ← field_at header_fields version_field t (omega (arith, long))))

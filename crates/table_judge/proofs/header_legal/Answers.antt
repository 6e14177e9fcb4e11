-- `header_legal` says whether the header, mark and version apart, and the length are those of a table.
-- A header that is not whole has the wrong length; else each read is a field.
use native.Mathlib.Omega.{arith}
use Rattle.octets.specs.Fields.{offset}
use Rattle.octets.proofs.FieldsLaws.{field_at}
use Rattle.rules.specs.Layout.{header_fields, cells_in_header, places_in_header, zero_in_header}
use Rattle.table_judge.specs.Judge.{legal_header}
use Rattle.table_judge.proofs.ReadLaws.{header-short, cells-most}
use Rattle.table_judge.proofs.header_legal.Goals as goal

pub returns-then-table-lt-HEADER : goal.returns-then-table-lt-HEADER
returns-then-table-lt-HEADER c = header-short _ _ c.if-table-lt-HEADER.true

pub overflow_mul-result : goal.overflow_mul-result
overflow_mul-result c = let few = cells-most c.get-count.ensures c.requires in omega arith

pub overflow_add-result : goal.overflow_add-result
overflow_add-result c = let few = cells-most c.get-count.ensures c.requires in omega arith

pub returns : goal.returns
unfolding legal_header offset
returns c =
    let t = c.args.table.now in
    let long = c.if-table-lt-HEADER.false in
    rw (
      c.get-count.ensures,
      c.get.ensures,
      c.get-2.ensures,
      ← field_at header_fields cells_in_header t (omega (arith, long)),
      ← field_at header_fields places_in_header t (omega (arith, long)),
      ← field_at header_fields zero_in_header t (omega (arith, long)),
    )

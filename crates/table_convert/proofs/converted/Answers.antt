-- `converted` leaves and answers what `conversion` says of an accepted table: 8, else the same cells, whole.
-- Each way out is the case of the verdict that its test leads to; few cells make every sum fit.
use native.Mathlib.Omega.{arith}
use Rattle.table_convert.specs.Wide.{wide_cell}
use Rattle.table_convert.proofs.ConvertLaws.{old-size, old-few, old-count, room-short, table-converted}
use Rattle.table_convert.proofs.converted.Goals as goal

pub get-count-requires : goal.get-count-requires
get-count-requires c = let size = old-size _ c.requires in omega arith

pub returns-then-table-length : goal.returns-then-table-length
returns-then-table-length c = room-short _ c.requires _ c.get-count.ensures (omega (arith, c.if-table-length.true))

pub put_header-requires : goal.put_header-requires
put_header-requires c =
    let few = old-few _ c.requires in
    let count = old-count _ c.requires c.get-count.ensures in
    (omega arith, omega arith)

pub slice_bounds-put_cells-count : goal.slice_bounds-put_cells-count
slice_bounds-put_cells-count c = let size = old-size _ c.requires in omega arith

pub slice_bounds-put_cells-start : goal.slice_bounds-put_cells-start
slice_bounds-put_cells-start c = let size = old-size _ c.requires in omega arith

pub put_cells-requires-clause-runs_whole : goal.put_cells-requires-clause-runs_whole
put_cells-requires-clause-runs_whole c =
    let size = old-size _ c.requires in
    let few = old-count _ c.requires c.get-count.ensures in
    omega arith

pub returns : goal.returns
returns c =
    table-converted _ c.requires (λ i. (c.type_inv.old i).fits) _ c.get-count.ensures (omega (arith, c.if-table-length.false))
    c.put_header.ensures (c.put_cells.ensures wide_cell (λ cell run left e. e))

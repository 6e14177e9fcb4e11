-- `widen` leaves the widened cell.
-- The head, and behind it the places: `cell_widened`.
use mathlib.Core.Path.{sym}
use native.Mathlib.Omega.{arith}
use Rattle.table_convert.proofs.CellStoreLaws.{head-long, cell_widened}
use Rattle.table_convert.proofs.wide.widen.Goals as goal

pub slice_bounds-put_head-end : goal.slice_bounds-put_head-end
slice_bounds-put_head-end c = sym (head-long c.args.cell.now c.requires.1)

pub put_head-requires : goal.put_head-requires
put_head-requires c = (head-long c.args.cell.now c.requires.1, omega arith)

pub returns : goal.returns
returns c =
    cell_widened c.args.wide.now c.args.cell.now c.requires.0 c.requires.1 c.put_head.ensures c.widen_places.ensures

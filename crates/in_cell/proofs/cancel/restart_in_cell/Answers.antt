-- `restart_in_cell` leaves the cell with no place and one row, count 0.
-- What `free_all` and `report` leave is what the rule says: `told`.
use mathlib.Core.Path.{refl}
use mathlib.Core.List.{[]}
use Rattle.rules.specs.InCell.{restart}
use Rattle.in_cell.proofs.RowsLaws.{told}
use Rattle.in_cell.proofs.cancel.restart_in_cell.Goals as goal

pub returns : goal.returns
unfolding restart
returns c =
    told _ c.args.cell.now c.args.out.now [] 0 refl _ _ c.free_all.ensures c.report.ensures

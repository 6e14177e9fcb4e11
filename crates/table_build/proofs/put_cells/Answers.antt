-- `put_cells` stores a cell for each run behind the header, and nothing else.
-- The invariant, `CellsLeft`: what is stored is, with what is left, the whole.
use Rattle.std.proofs.Common.{rules}
use Rattle.table_build.proofs.BuildLaws.{cells-start, cells_on, cells-end}
use Rattle.table_build.proofs.put_cells.Goals as goal

pub loop-k-init : goal.loop-k-init
loop-k-init g c made is_maker = cells-start _ _ _ _ _

pub loop-k-preserved : goal.loop-k-preserved
loop-k-preserved g c made is_maker =
    cells_on (c.loop-k.invariant made is_maker) c.loop-k-test.true _ (is_maker _ _ _ c.make.ensures) (search rules) (search rules)

pub returns : goal.returns
returns g c made is_maker = cells-end (c.loop-k.invariant made is_maker) c.loop-k-test.false

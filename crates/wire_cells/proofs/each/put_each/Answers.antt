-- `put_each` stores the cells of a list from an index on, and nothing else. The invariant, `Coming`: storing all of them into the bytes as they were is storing
-- those that are still to come into them as they are. The list is whole: every turn finds an entry, and a cell's.
use native.Mathlib.Omega.{arith}
use native.Mathlib.Nat.{sub-zero}
use Rattle.wire_cells.proofs.ComeLaws.{coming_start, coming_entry, coming_next}
use Rattle.wire_cells.proofs.each.put_each.Goals as goal

pub loop-init : goal.loop-init
loop-init g c =
    rw sub-zero
    (coming_start _ _ _ _ g.met.F.Form.sized _ _ c.requires.judged_list c.cell_count-end.ensures.counts c.requires.has_room)

pub cell_at-cell-requires : goal.cell_at-cell-requires
cell_at-cell-requires g c = coming_entry _ _ _ _ g.met.F.Form.sized _ _ c.loop.invariant (omega arith)

pub loop-preserved : goal.loop-preserved
loop-preserved g c =
    rw c.SIZE-to.ensures
    (coming_next _ _ _ _ g.met.F.Form.sized _ _ c.loop.invariant (omega arith) _ c.cell_at-cell.ensures _ c.put.ensures (omega arith) (omega arith))

pub returns : goal.returns
returns g c = c.loop.invariant.done (omega arith)

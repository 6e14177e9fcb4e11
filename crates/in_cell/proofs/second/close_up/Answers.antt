-- `close_up` leaves the cell with the places that have not ended.
-- The invariant, `Closing`, says what is left to be done; a turn asks the last of the places that are left, and drops it or not.
use mathlib.Core.Path.{sym, ◌∙◌}
use native.Mathlib.Omega.{arith}
use Rattle.in_cell.proofs.Passing.{live-below, free-past}
use Rattle.in_cell.proofs.Closing.{close_starts, close_free, close_goes, close_stays, close_ends}
use Rattle.in_cell.proofs.second.close_up.Goals.{else-is_live-via-then-is_live+else-ended, else-is_live-via-else-is_live}
use Rattle.in_cell.proofs.second.close_up.Goals as goal

pub loop-k-init : goal.loop-k-init
loop-k-init c = close_starts c.args.cell.now (λ i. (c.type_inv.cell i).fits) c.requires

pub loop-k-preserved-then-ended : goal.loop-k-preserved-then-ended
loop-k-preserved-then-ended c =
    let live = live-below c.is_live.ensures c.if-is_live.true in
    close_goes c.loop-k.invariant (omega arith) live (sym c.ended.ensures ∙ c.if-ended.true) _ c.drop_place.ensures

pub loop-k-preserved : goal.loop-k-preserved
loop-k-preserved c =
    let asked = c.is_live.ensures in
    elim c.else-is_live.branch [
      | else-is_live-via-then-is_live+else-ended w ↦ close_stays c.loop-k.invariant (omega arith) (live-below asked w.if-is_live.true) (sym w.ended.ensures ∙ w.if-ended.false)
      | else-is_live-via-else-is_live w ↦ close_free c.loop-k.invariant (omega arith) (free-past asked w.if-is_live.false)
    ]

pub returns : goal.returns
returns c = close_ends c.loop-k.invariant c.loop-k-test.false

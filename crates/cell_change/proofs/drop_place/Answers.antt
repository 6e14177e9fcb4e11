-- `drop_place` leaves the cell without place k; the places behind it close up.
-- The invariant, `Moving`, says what is still to be moved; a turn moves one place, and zeros over the last one end it.
use native.Mathlib.Omega.{arith}
use borrow.Author.Rules.{rules}
use Prim.Native.Nat.{◌-◌}
use Rattle.rules.specs.Layout.{current, place_size, cell_size}
use Rattle.cell_change.proofs.Freeing.{filled}
use Rattle.cell_change.proofs.Moving.{move_starts, move_step, move_ends}
use Rattle.cell_change.proofs.drop_place.Goals as goal

pub loop-to-init : goal.loop-to-init
loop-to-init c = move_starts _ _ c.requires

pub loop-to-preserved : goal.loop-to-preserved
loop-to-preserved c = move_step c.loop-to.invariant c.loop-to-test.true _ (omega arith) _ c.copy_within.ensures.after

pub returns : goal.returns
returns c =
    let m = c.loop-to.invariant in
    let size = m.size in
    move_ends m c.loop-to-test.false _
    (filled c.loop-to.cell _ (cell_size current - place_size current) (place_size current) (omega arith) (c.fill.ensures.after (λ y e. search rules)))

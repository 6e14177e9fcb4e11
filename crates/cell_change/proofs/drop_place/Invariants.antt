use Rattle.cell_read.specs.Places.{live_places, with_places, without}
use Rattle.cell_change.proofs.Moving.{Moving}
use Rattle.cell_change.proofs.drop_place.Given as goal

abbrev pub invariant-loop-to : goal.invariant-loop-to
invariant-loop-to l = Moving (with_places l.initial.cell (without l.k (live_places l.initial.cell))) l.cell l.to

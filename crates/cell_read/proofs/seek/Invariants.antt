use Rattle.cell_read.specs.Places.{live_places}
use Rattle.cell_read.proofs.SeekLaws.{Seeking}
use Rattle.cell_read.proofs.seek.Given as goal

abbrev pub invariant-loop-k : goal.invariant-loop-k
invariant-loop-k l = Seeking l.wanted (live_places l.cell) l.k

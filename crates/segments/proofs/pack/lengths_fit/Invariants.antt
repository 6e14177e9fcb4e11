use Rattle.segments.proofs.LengthsLaws.{StillToFit}
use Rattle.segments.proofs.pack.lengths_fit.Given as goal

abbrev pub invariant-loop-size : goal.invariant-loop-size
invariant-loop-size l = StillToFit l.lengths l.bytes l.left l.size-index

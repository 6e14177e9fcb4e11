use Rattle.segments.proofs.Packing.{Packing}
use Rattle.segments.proofs.pack.put_segments.Given as goal

abbrev pub invariant-loop-size : goal.invariant-loop-size
invariant-loop-size l = Packing l.bytes l.lengths l.initial.list l.list l.from l.at l.size-index

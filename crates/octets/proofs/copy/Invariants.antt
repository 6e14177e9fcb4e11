use Prim.Native.Nat.{◌*◌}
use Rattle.octets.proofs.CopyLaws.{Copying}
use Rattle.octets.proofs.copy.Given as goal

abbrev pub invariant-loop-k : goal.invariant-loop-k
invariant-loop-k l = Copying l.initial.to l.at l.from l.to (16 * l.k)

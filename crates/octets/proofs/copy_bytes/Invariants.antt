use Rattle.octets.proofs.CopyLaws.{Copying}
use Rattle.octets.proofs.copy_bytes.Given as goal

abbrev pub invariant-loop-i : goal.invariant-loop-i
invariant-loop-i l = Copying l.initial.to l.at l.from l.to l.i

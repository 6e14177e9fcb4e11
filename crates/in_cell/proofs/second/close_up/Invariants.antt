use Rattle.in_cell.proofs.Closing.{Closing}
use Rattle.in_cell.proofs.second.close_up.Given as goal

abbrev pub invariant-loop-k : goal.invariant-loop-k
invariant-loop-k l = Closing l.initial.cell l.cell l.k

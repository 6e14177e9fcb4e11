use Rattle.in_cell.proofs.Ticking.{Ticking}
use Rattle.in_cell.proofs.second.all_later.Given as goal

abbrev pub invariant-loop-k : goal.invariant-loop-k
invariant-loop-k l = Ticking l.initial.cell l.initial.out l.cell l.out l.k l.rows l.gone

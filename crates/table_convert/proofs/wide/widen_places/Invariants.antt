use Rattle.table_convert.proofs.CellStoreLaws.{PlacesLeft}
use Rattle.table_convert.proofs.wide.widen_places.Given as goal

abbrev pub invariant-loop-k : goal.invariant-loop-k
invariant-loop-k l = PlacesLeft l.initial.wide l.cell l.wide l.k

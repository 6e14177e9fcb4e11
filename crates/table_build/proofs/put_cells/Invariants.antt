use Rattle.table_build.specs.Build.{IsMaker}
use Rattle.table_build.proofs.BuildLaws.{CellsLeft}
use Rattle.table_build.proofs.put_cells.Given as goal

abbrev pub invariant-loop-k : goal.invariant-loop-k
invariant-loop-k g l = (made : _) → IsMaker g.F.Fn l.make made → CellsLeft made l.size l.count l.initial.table l.runs l.table l.k

use Rattle.rules.specs.Layout.{current}
use Rattle.rules.specs.Identity.{identity_number}
use Rattle.table_judge.specs.Judge.{IsTest}
use Rattle.table_judge.proofs.OrderLaws.{RunsLeft}
use Rattle.table_judge.proofs.runs_legal.Given as goal

abbrev pub invariant-loop-k : goal.invariant-loop-k
invariant-loop-k g l = (test : _) → IsTest g.F.Fn l.legal test → RunsLeft current test l.size l.count l.runs l.k (identity_number l.least)

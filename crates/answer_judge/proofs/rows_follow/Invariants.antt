use Rattle.answer_judge.proofs.RowsLeftLaws.{RowsLeft}
use Rattle.answer_judge.proofs.rows_follow.Given as goal

abbrev pub invariant-loop-k : goal.invariant-loop-k
invariant-loop-k l = RowsLeft l.counted l.answer l.many l.k l.least

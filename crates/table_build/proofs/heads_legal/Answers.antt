-- `heads_legal` says whether heads may be built on.
-- Each way out is the first test of `legal_heads` that fails; the last call answers the rest.
use mathlib.Core.Path.{sym}
use borrow.Author.Tests.{eq-eqb, ne_eqb}
use Rattle.rules.specs.Layout.{current}
use Rattle.rules.specs.Table.{legal_head}
use Rattle.rules.specs.Refusals.{legal_heads}
use Rattle.table_judge.specs.Judge.{legal_runs}
use Rattle.table_judge.proofs.OrderLaws.{head_small}
use Rattle.table_build.proofs.heads_legal.Goals as goal

pub returns-then-heads-ne0 : goal.returns-then-heads-ne0
unfolding legal_heads
returns-then-heads-ne0 c = rw (ne_eqb _ 0 c.if-heads-ne0.true)

pub returns-then-not-count : goal.returns-then-not-count
unfolding legal_heads
returns-then-not-count c = rw (eq-eqb _ 0 c.if-heads-ne0.false, c.if-not-count.true)

pub runs_legal-requires-clause-has_a_next : goal.runs_legal-requires-clause-has_a_next
runs_legal-requires-clause-has_a_next c run legal = head_small current run.now (sym legal)

pub returns : goal.returns
unfolding legal_heads legal_runs
returns c = rw (eq-eqb _ 0 c.if-heads-ne0.false, c.if-not-count.false, c.runs_legal.ensures (legal_head current) (λ run r e. e))

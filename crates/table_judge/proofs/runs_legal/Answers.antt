-- `runs_legal` says whether every run is legal and the runs ascend by NR CGI.
-- The invariant, `RunsLeft`, speaks of the runs still to come and of the least NR CGI that may follow.
use mathlib.Core.Path.{sym, ◌∙◌}
use borrow.Author.Tests.{ltb-true, ltb-false}
use Rattle.rules.specs.Layout.{current}
use Rattle.table_judge.proofs.OrderLaws.{runs-start, runs-below, runs-wrong, runs_on, runs-end}
use Rattle.table_judge.proofs.runs_legal.Goals as goal

pub loop-k-init : goal.loop-k-init
loop-k-init g c test answers = runs-start current _ _ _ _

pub returns-then-below : goal.returns-then-below
returns-then-below g c test answers =
    sym (runs-below current (c.loop-k.invariant test answers) c.loop-k-test.true _ c.identity_at-identity.ensures (ltb-true _ _ (sym c.below.ensures ∙ c.if-below.true)))

pub returns-then-not-legal : goal.returns-then-not-legal
returns-then-not-legal g c test answers =
    sym (runs-wrong current (c.loop-k.invariant test answers) c.loop-k-test.true (sym (answers _ _ c.if-not-legal.ensures)))

pub next-least-requires : goal.next-least-requires
next-least-requires g c = rw c.identity_at-identity.ensures (c.requires.has_a_next _ c.if-not-legal.ensures)

pub loop-k-preserved : goal.loop-k-preserved
loop-k-preserved g c test answers =
    rw c.next-least.ensures
    (runs_on current (c.loop-k.invariant test answers) c.loop-k-test.true _ c.identity_at-identity.ensures (ltb-false _ _ (sym c.below.ensures ∙ c.if-below.false)) (sym (answers _ _ c.if-not-legal.ensures)))

pub returns : goal.returns
returns g c test answers = sym (runs-end current (c.loop-k.invariant test answers) c.loop-k-test.false)

-- `new_place` returns the place that a Write-Replace makes.
-- By the test for a primary, field by field.
use native.Mathlib.Omega.{arith}
use borrow.Author.Tests.{eq-eqb, ne_eqb}
use Rattle.rules.specs.Layout.{primary_sib}
use Rattle.rules.specs.InCell.{new_place}
use Rattle.start.proofs.new_place.Goals as goal

pub returns-then-request-eq-PRIMARY_SIB : goal.returns-then-request-eq-PRIMARY_SIB
unfolding new_place
returns-then-request-eq-PRIMARY_SIB c = rw (eq-eqb c.args.request.sib primary_sib (omega (arith, c.if-request-eq-PRIMARY_SIB.true)))

pub returns : goal.returns
unfolding new_place
returns c = rw (ne_eqb c.args.request.sib primary_sib (λ e. omega (arith, e, c.if-request-eq-PRIMARY_SIB.false)))

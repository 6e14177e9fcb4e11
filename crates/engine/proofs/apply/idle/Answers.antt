-- `idle` is the zero rules, asked of a Write-Replace.
-- By what `starts_nothing` ensures.
use borrow.Author.Tests.{eq-eqb, ne_eqb}
use Rattle.engine.specs.Walk.{is_idle}
use Rattle.engine.proofs.apply.idle.Goals as goal

pub returns-then-request-eq-WRITE_REPLACE : goal.returns-then-request-eq-WRITE_REPLACE
unfolding is_idle
returns-then-request-eq-WRITE_REPLACE c = rw (eq-eqb _ _ c.if-request-eq-WRITE_REPLACE.true, c.starts_nothing.ensures)

pub returns-else-request-eq-WRITE_REPLACE : goal.returns-else-request-eq-WRITE_REPLACE
unfolding is_idle
returns-else-request-eq-WRITE_REPLACE c = rw (ne_eqb _ _ c.if-request-eq-WRITE_REPLACE.false)

-- `element_at` answers with the element at the index: each case is a law of `StepLaws`.
use native.Mathlib.Omega.{arith}
use Rattle.aper.proofs.StepLaws.{head-cut, padding-set, length_bad, nothing-inside, contents-cut, one-there}
use Rattle.aper.proofs.element_at.Goals as goal

pub returns-then-s-at-lt3 : goal.returns-then-s-at-lt3
returns-then-s-at-lt3 c = head-cut _ _ c.requires c.if-s-at-lt3.true

pub returns-then-bits-ne0 : goal.returns-then-bits-ne0
returns-then-bits-ne0 c = padding-set _ _ _ _ (omega arith) c.get-id.ensures c.get-bits.ensures c.if-bits-ne0.true

pub returns-in_err-of : goal.returns-in_err-of
returns-in_err-of c = rw c.from_residual.ensures (length_bad _ _ _ _ (omega arith) c.get-id.ensures c.get-bits.ensures c.if-bits-ne0.false c.in_err-of.ensures)

pub returns-then-of-eq0 : goal.returns-then-of-eq0
returns-then-of-eq0 c = nothing-inside _ _ _ _ (omega arith) c.get-id.ensures c.get-bits.ensures c.if-bits-ne0.false _ c.in_ok-of.ensures c.if-of-eq0.true

pub returns-then-s-start : goal.returns-then-s-start
returns-then-s-start c = contents-cut _ _ _ _ (omega arith) c.get-id.ensures c.get-bits.ensures c.if-bits-ne0.false _ c.in_ok-of.ensures c.if-s-start.true

pub returns : goal.returns
returns c = one-there _ _ _ _ (omega arith) c.get-id.ensures c.get-bits.ensures c.if-bits-ne0.false _ c.in_ok-of.ensures c.if-of-eq0.false c.if-s-start.false

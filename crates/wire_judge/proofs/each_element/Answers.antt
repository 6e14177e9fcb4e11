-- `each_element` walks over all elements of a message: between two of them, what is still to come decides, on top of the account of what was seen.
use native.Mathlib.Nat.{sub-zero}
use native.Mathlib.Omega.{arith}
use Rattle.wire_judge.proofs.TurnLaws.{turn-none}
use Rattle.wire_judge.proofs.ElementsLaws.{walk-short, walk-extended, walk_start, turn_broken, turn_on, walk-behind, walk-whole}
use Rattle.wire_judge.proofs.each_element.Goals as goal

pub returns-then-s-lt-FIRST_AT : goal.returns-then-s-lt-FIRST_AT
returns-then-s-lt-FIRST_AT g c = walk-short _ _ (λ i. (c.type_inv.s i).fits) c.if-s-lt-FIRST_AT.true

pub returns-then-get-ne0 : goal.returns-then-get-ne0
returns-then-get-ne0 g c = walk-extended _ _ _ c.if-s-lt-FIRST_AT.false c.get.ensures c.if-get-ne0.true

pub loop-init : goal.loop-init
loop-init g c =
    rw (c.nothing-kept.ensures, sub-zero)
    (walk_start _ _ _ c.if-s-lt-FIRST_AT.false c.get.ensures c.if-get-ne0.false _ c.get-end.ensures)

pub element_at-requires : goal.element_at-requires
element_at-requires g c = c.loop.invariant.walking.within

pub returns-in_err-element : goal.returns-in_err-element
returns-in_err-element g c =
    rw c.from_residual.ensures
    (turn_broken _ _ c.loop.invariant (omega arith) (turn-none _ _ _ _ c.loop.invariant.lies c.in_err-element.ensures 0))

pub with-requires-clause-lies : goal.with-requires-clause-lies
with-requires-clause-lies g c = c.loop.invariant.lies

pub returns-in-None : goal.returns-in-None
returns-in-None g c = turn_broken _ _ c.loop.invariant (omega arith) (c.in-None.ensures c.loop.at c.in_ok-element.ensures)

pub loop-preserved : goal.loop-preserved
loop-preserved g c =
    turn_on _ _ c.loop.invariant (omega arith) (omega arith) _ _ (c.in-Some.ensures c.loop.at c.in_ok-element.ensures)

pub returns-then-at-s : goal.returns-then-at-s
returns-then-at-s g c = walk-behind _ _ c.loop.invariant (omega arith) c.if-at-s.true

pub returns : goal.returns
returns g c = walk-whole _ _ c.loop.invariant (omega arith) c.if-at-s.false

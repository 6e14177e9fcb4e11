-- `places_legal` says whether the four places of a cell are legal.
-- The invariant, `PlacesLeft`, speaks of the places still to come and of the last three texts.
use mathlib.Core.Path.{sym, ◌∙◌}
use native.Mathlib.Omega.{arith}
use Rattle.table_judge.proofs.PlacesLaws.{places-start, places-free, places-wrong, places_on, places-end}
use Rattle.table_judge.proofs.places_legal.Goals as goal

pub loop-k-init : goal.loop-k-init
loop-k-init c = places-start _ (λ i. (c.type_inv.places i).fits) c.requires

pub returns-then-get-eq0 : goal.returns-then-get-eq0
returns-then-get-eq0 c =
    c.all_free.ensures
    ∙ sym (places-free c.loop-k.invariant (omega (arith, c.loop-k-test.true)) _ c.get.ensures c.if-get-eq0.true)

pub returns-then-not-live_legal-ne : goal.returns-then-not-live_legal-ne
returns-then-not-live_legal-ne c =
    sym (places-wrong c.loop-k.invariant (omega (arith, c.loop-k-test.true)) _ c.get.ensures c.if-get-eq0.false _ c.get-in-loop-k.ensures _ c.live_legal.ensures (rw (← c.ne.ensures, ← c.ne-in-loop-k.ensures, ← c.ne-in-loop-k-2.ensures) c.if-not-live_legal-ne.true))

pub loop-k-preserved : goal.loop-k-preserved
loop-k-preserved c =
    places_on c.loop-k.invariant (omega (arith, c.loop-k-test.true)) _ c.get.ensures c.if-get-eq0.false _ c.get-in-loop-k.ensures _ c.live_legal.ensures (rw (← c.ne.ensures, ← c.ne-in-loop-k.ensures, ← c.ne-in-loop-k-2.ensures) c.if-not-live_legal-ne.false)
    (omega arith) (omega arith)

pub returns : goal.returns
returns c = sym (places-end c.loop-k.invariant (omega (arith, c.loop-k-test.false)))

-- `segment` hands back the bytes that `locate` found, where they lie.
-- By the part: the first buffer, a part of the list, or nothing.
use mathlib.Core.Path.{ap, ◌∙◌}
use native.Mathlib.Omega.{arith}
use Rattle.segments.specs.Segments.{lent_from}
use Rattle.segments.proofs.PartLaws.{hand_first, hand_listed, hand_nothing, listed-within, lent-first, lent-listed}
use Rattle.segments.proofs.read.segment.Goals as goal

pub overflow_add-result : goal.overflow_add-result
overflow_add-result c =
    let e = rw c.in-Ok-Listed.field-0-is at c.in-Ok-Listed.ensures in
    record { fits = omega (arith, listed-within _ _ (λ i. (c.type_inv.more i).fits) _ _ _ e) }

pub slice_bounds-result-end : goal.slice_bounds-result-end
slice_bounds-result-end c =
    let e = rw c.in-Ok-Listed.field-0-is at c.in-Ok-Listed.ensures in
    omega (arith, listed-within _ _ (λ i. (c.type_inv.more i).fits) _ _ _ e)

pub returns-in-Ok-First : goal.returns-in-Ok-First
returns-in-Ok-First c =
    let e = rw c.in-Ok-First.field-0-is at c.in-Ok-First.ensures in
    (hand_first _ _ _ _ e, lent-first _ _ _ _ ∙ ap (lent_from _ _) e)

pub returns-in-Ok-Listed : goal.returns-in-Ok-Listed
returns-in-Ok-Listed c =
    let e = rw c.in-Ok-Listed.field-0-is at c.in-Ok-Listed.ensures in
    (hand_listed _ _ (λ i. (c.type_inv.more i).fits) _ _ _ e, lent-listed _ _ _ _ ∙ ap (lent_from _ _) e)

pub returns-in-Err : goal.returns-in-Err
returns-in-Err c =
    (hand_nothing _ _ (λ i. (c.type_inv.more i).fits) _ _ c.in-Err.ensures, lent-first _ _ _ _ ∙ ap (lent_from _ _) c.in-Err.ensures)

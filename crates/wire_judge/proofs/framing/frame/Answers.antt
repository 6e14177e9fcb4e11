-- `frame` answers with what the outer frame says: the message's own by one test (`frame-own`), anything else as `other_frame` does.
use Rattle.std.specs.Prelude.{None}
use mathlib.Core.Path.{refl}
use Rattle.aper.proofs.CriticalityLaws.{criticality_test}
use Rattle.wire_judge.proofs.FrameLaws.{frame-own, frame-not-own}
use Rattle.wire_judge.proofs.framing.frame.Goals as goal

pub other_frame-requires : goal.other_frame-requires
other_frame-requires c = frame-not-own _ _ None (rw c.in-None.is at c.element_at.ensures) refl

pub returns-then-element-frame_id : goal.returns-then-element-frame_id
returns-then-element-frame_id c =
    let read = rw c.in-Some.is at c.element_at.ensures in
    frame-own c.args.m _ (λ i. (c.type_inv.s i).fits) _ _ _ _ read _ c.frame_id.ensures (rw (c.is_ok.ensures.value, criticality_test _ _ c.try_from.ensures) at c.if-element-frame_id.true)

pub other_frame-requires-in-Some : goal.other_frame-requires-in-Some
other_frame-requires-in-Some c =
    let read = rw c.in-Some.is at c.element_at.ensures in
    frame-not-own _ _ _ read (rw (← c.frame_id.ensures) (rw (c.is_ok.ensures.value, criticality_test _ _ c.try_from.ensures) at c.if-element-frame_id.false))

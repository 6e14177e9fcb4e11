-- `other_frame` answers with what the outer frame says: choice and procedure code are read as an element's id, and that is not the message's own.
use native.Mathlib.Omega.{arith}
use Prim.Native.Nat.{◌≤◌}
use lib.ListN.{length}
use Rattle.octets.specs.Runs.{Bytes}
use Rattle.wire_judge.proofs.FrameLaws.{frame-empty, frame-padding, frame-outside, framing-plain, other-own}
use Rattle.wire_judge.proofs.framing.other_frame.Goals as goal

pub returns-then-s-eq0 : goal.returns-then-s-eq0
returns-then-s-eq0 c = frame-empty _ _ c.if-s-eq0.true

pub returns-then-choice-ne0 : goal.returns-then-choice-ne0
returns-then-choice-ne0 c = frame-padding _ _ (omega (arith, c.if-s-eq0.false)) c.get-choice.ensures _ c.if-choice-ne0.true

pub returns : goal.returns
returns c =
    let bytes : Bytes c.args.s.now = λ i. (c.type_inv.s i).fits in
    let some : 1 ≤ length c.args.s.now = omega (arith, c.if-s-eq0.false) in
    frame-outside _ _ 0 _ _ (framing-plain _ _ some c.get-choice.ensures c.if-choice-ne0.false c.if-choice.false) _ c.outside.ensures
    (λ e read small ends. other-own c.args.m _ bytes _ _ _ _ _ some c.get-choice.ensures read c.if-choice-ne0.false c.requires small ends)

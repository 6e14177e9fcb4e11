-- `note_at` answers with the fields of the notification at the index. Its number is three reads, one behind the other; the cases are laws of `NoteLaws`.
use native.Mathlib.Omega.{arith}
use Rattle.wire.proofs.NoteLaws.{note-cut, note-extended, note-padding, note-there}
use Rattle.wire.proofs.note_at.Goals as goal

pub returns-then-s-at-lt5 : goal.returns-then-s-at-lt5
returns-then-s-at-lt5 c = note-cut _ _ c.requires c.if-s-at-lt5.true

pub returns-then-n-ge-EXTENDED : goal.returns-then-n-ge-EXTENDED
returns-then-n-ge-EXTENDED c = note-extended _ _ _ _ _ (omega arith) c.get-front.ensures c.get-middle.ensures c.get-back.ensures c.if-n-ge-EXTENDED.true

pub returns-then-n-ne0 : goal.returns-then-n-ne0
returns-then-n-ne0 c = note-padding _ _ _ _ _ (omega arith) c.get-front.ensures c.get-middle.ensures c.get-back.ensures c.if-n-ge-EXTENDED.false c.if-n-ne0.true

pub returns : goal.returns
returns c = note-there _ _ _ _ _ (omega arith) c.get-front.ensures c.get-middle.ensures c.get-back.ensures c.if-n-ge-EXTENDED.false c.if-n-ne0.false

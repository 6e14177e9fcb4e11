-- `notification` tells of a notification: its five bytes, then its extensions, and nothing behind them. Each case is a law of `NotificationLaws`.
use Rattle.wire.proofs.NoteLaws.{note_present}
use Rattle.wire.proofs.NotificationLaws.{note-none, extensions-none, notification-behind, notification-there}
use Rattle.wire.proofs.notification.Goals as goal

pub returns-in_err-note : goal.returns-in_err-note
returns-in_err-note c = rw c.from_residual.ensures (note-none _ c.in_err-note.ensures)

pub given_at-requires-clause-one_bit : goal.given_at-requires-clause-one_bit
given_at-requires-clause-one_bit c = note_present _ _ _ c.in_ok-note.ensures

pub returns-in_err-extensions : goal.returns-in_err-extensions
returns-in_err-extensions c = rw c.from_residual-in_err-extensions.ensures (extensions-none _ _ c.in_ok-note.ensures c.in_err-extensions.ensures)

pub returns-then-extensions-part : goal.returns-then-extensions-part
returns-then-extensions-part c = notification-behind _ _ c.in_ok-note.ensures _ c.in_ok-extensions.ensures c.if-extensions-part.true

pub returns : goal.returns
returns c = notification-there _ _ c.in_ok-note.ensures _ c.in_ok-extensions.ensures c.if-extensions-part.false

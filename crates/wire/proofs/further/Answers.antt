-- `further` tells what only a cancel request's elements tell: the id names the reader that was called.
use Rattle.wire.proofs.HearLaws.{requested-tells, indicator-tells, notification-tells, unknown-tells}
use Rattle.wire.proofs.further.Goals as goal

pub returns-then-id-eq-REQUESTED : goal.returns-then-id-eq-REQUESTED
returns-then-id-eq-REQUESTED c = requested-tells _ _ c.requested.result c.if-id-eq-REQUESTED.true c.requested.ensures

pub returns-then-id-eq-CANCEL_ALL : goal.returns-then-id-eq-CANCEL_ALL
returns-then-id-eq-CANCEL_ALL c = indicator-tells _ _ c.indicator.result c.if-id-eq-CANCEL_ALL.true c.indicator.ensures

pub returns-then-id-eq-NOTIFICATION : goal.returns-then-id-eq-NOTIFICATION
returns-then-id-eq-NOTIFICATION c = notification-tells _ _ c.notification.result c.if-id-eq-NOTIFICATION.true c.notification.ensures

pub returns : goal.returns
returns c = unknown-tells _ _ c.if-id-eq-REQUESTED.false c.if-id-eq-CANCEL_ALL.false c.if-id-eq-NOTIFICATION.false

-- `hear` tells what the element of a cancel request with an id tells: the id names the reader that was called.
use Rattle.std.specs.Prelude.{Some, None}
use Rattle.wire.specs.declared.Heard.TheVariants.{Transaction}
use Rattle.wire.specs.declared.Message.TheVariants.{CancelRequest}
use Rattle.wire.proofs.HearLaws.{transaction-tells, beside_tells}
use Rattle.wire.proofs.hear.Goals as goal

pub returns-in_err-transaction : goal.returns-in_err-transaction
returns-in_err-transaction c = rw c.from_residual.ensures (transaction-tells CancelRequest _ _ None c.if-id-eq-TRANSACTION.true c.in_err-transaction.ensures)

pub returns-then-id-eq-TRANSACTION : goal.returns-then-id-eq-TRANSACTION
returns-then-id-eq-TRANSACTION c = transaction-tells CancelRequest _ _ (Some (Transaction c.in_ok-transaction.field-0)) c.if-id-eq-TRANSACTION.true c.in_ok-transaction.ensures

pub returns : goal.returns
returns c = beside_tells CancelRequest _ _ c.in_request.result c.if-id-eq-TRANSACTION.false c.in_request.ensures

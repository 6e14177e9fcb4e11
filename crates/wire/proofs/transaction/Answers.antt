-- `transaction` tells the transaction identifier: a byte 0 and the number, by the laws of contents of a fixed number of bytes.
use native.Mathlib.Omega.{arith}
use Rattle.wire.proofs.FixedLaws.{byte_at, transaction-length, transaction-extended, transaction-there}
use Rattle.wire.proofs.transaction.Goals as goal

pub returns-in-0 : goal.returns-in-0
returns-in-0 c = transaction-there _ (omega arith) _ (byte_at _ 0) (omega arith) _ (byte_at _ 1) (c.type_inv.part 1).fits

pub returns-in_default : goal.returns-in_default
returns-in_default c = transaction-length _ (λ e. omega arith)

pub returns-in_default-2 : goal.returns-in_default-2
returns-in_default-2 c = transaction-extended _ (omega arith) _ (byte_at _ 0) (λ e. omega arith)

pub returns-in_default-3 : goal.returns-in_default-3
returns-in_default-3 c = transaction-length _ (λ e. omega arith)

-- `indicator` tells of cancel-all: one byte 0, by the laws of contents of a fixed number of bytes.
use native.Mathlib.Omega.{arith}
use Rattle.wire.proofs.FixedLaws.{byte_at, indicator-length, indicator-set, indicator-there}
use Rattle.wire.proofs.indicator.Goals as goal

pub returns-in-0 : goal.returns-in-0
returns-in-0 c = indicator-there _ _ (omega arith) (byte_at _ 0) (omega arith)

pub returns-in_default : goal.returns-in_default
returns-in_default c = indicator-length _ (λ e. omega arith)

pub returns-in_default-2 : goal.returns-in_default-2
returns-in_default-2 c = indicator-set _ _ (omega arith) (byte_at _ 0) (λ e. omega arith)

pub returns-in_default-3 : goal.returns-in_default-3
returns-in_default-3 c = indicator-length _ (λ e. omega arith)

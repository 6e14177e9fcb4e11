-- `write` leaves the bytes of the number.
-- They are what the library's `to_be_bytes` gives: `stored_is`.
use mathlib.Core.Path.{◌∙◌}
use native.Mathlib.Omega.{arith}
use Rattle.octets.proofs.NumbersLaws.{stored_is}
use Rattle.octets.proofs.number.U64Number.write.Goals as goal

pub returns : goal.returns
returns c = stored_is 8 c.args.self (c.copy_from_slice.ensures.after ∙ c.to_be_bytes.ensures) (omega arith) (omega arith)

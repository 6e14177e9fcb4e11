-- `write` leaves the byte of the number.
-- The definition at the width 1 is the number itself.
use mathlib.Core.List.{[], ◌∷◌}
use native.Mathlib.Nat.{div-one}
use native.Mathlib.Omega.{arith}
use Rattle.octets.specs.Numbers.{to_be}
use Rattle.octets.proofs.PartsLaws.{sets_over}
use Rattle.octets.proofs.number.U8Number.write.Goals as goal

pub returns : goal.returns
unfolding to_be
returns c = rw div-one (sets_over (c.args.self ∷ []) c.args.bytes.now (omega arith))

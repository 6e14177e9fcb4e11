-- `turned64` returns the number with its eight bytes turned round.
-- The bytes of the definition are those of the library: `to_be_is`.
use mathlib.Core.Path.{ap}
use native.Mathlib.Omega.{arith}
use Rattle.octets.specs.Turned.{le, turned}
use Rattle.octets.proofs.NumbersLaws.{to_be_is}
use Rattle.octets.proofs.turned64.Goals as goal

pub returns : goal.returns
unfolding turned le
returns c = omega (arith, ap le (to_be_is 8 c.args.x (omega arith)))

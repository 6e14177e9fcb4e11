-- `read` returns the number that the bytes say.
-- The definition at the width 4 is the sum that the library makes.
use native.Mathlib.Omega.{arith}
use Rattle.octets.specs.Runs.{gets}
use Rattle.octets.specs.Numbers.{be}
use Rattle.octets.proofs.NumbersLaws.{be_all}
use Rattle.octets.proofs.number.U32Number.read.Goals as goal

pub returns : goal.returns
unfolding be gets
returns c = omega (arith, be_all 4 c.args.bytes.now c.requires)

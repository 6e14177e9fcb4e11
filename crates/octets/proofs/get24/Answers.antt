-- `get24` returns the number that the three bytes at the index say.
-- The definition at the width 3 is the sum that the library makes.
use Prim.Native.Nat.{suc, ◌+◌}
use mathlib.Core.Path.{◌≡◌}
use native.Mathlib.Numerals.{add-one}
use native.Mathlib.Omega.{arith}
use Rattle.octets.specs.Runs.{gets}
use Rattle.octets.specs.Numbers.{be}
use Rattle.octets.proofs.get24.Goals as goal

pub returns : goal.returns
unfolding be gets
returns c =
    let third : suc (suc c.args.at) ≡ c.args.at + 2 = omega arith in
    rw (third, ← add-one c.args.at) (omega arith)

-- `says64` says whether the eight bytes at the index say the number that was turned.
-- What they say is turned and compared: `eqb-turned` at the width 8.
use native.Mathlib.Omega.{arith}
use Rattle.octets.proofs.TurnedLaws.{eqb-turned}
use Rattle.octets.proofs.says64.Goals as goal

pub returns : goal.returns
returns c =
    rw (c.turned64.ensures, ← c.get.ensures)
    (eqb-turned 8 c.get.result c.args.key (omega arith) (omega arith))

use Prim.Native.Nat.{◌+◌, ◌*◌, ◌-◌}
use mathlib.Core.Path.{◌≡◌}
use mathlib.Core.List.{map}
use lib.ListN.{drop}
use Rattle.octets.specs.Numbers.{be}
use Rattle.octets.specs.Runs.{pieces}
use Rattle.octets.specs.Turned.{turned}
use Rattle.octets.specs.Joined.{joined}
use Rattle.octets.proofs.any64.Given as goal

-- all of the numbers joined are those still to come joined to what was loaded so far, its bytes turned
abbrev pub invariant-loop-k : goal.invariant-loop-k
invariant-loop-k l = joined 0 (map be (pieces 8 l.n (drop l.at l.s))) ≡ joined (turned 8 l.any) (map be (pieces 8 (l.n - l.k) (drop (l.at + 8 * l.k) l.s)))

use Prim.Native.Nat.{ℕ}
use mathlib.Core.Path.{◌≡◌}
use mathlib.Core.List.{List, ◌++◌}
use lib.ListN.{length, drop}
use Rattle.report_lines.specs.Text.{digits, hex_places}
use Rattle.report_lines.proofs.text.hex.Given as goal

pub record Spelt (n : ℕ) (text : List ℕ) (rest k : ℕ) : Type 0 where
  pub long : length text ≡ hex_places
  -- the digits that are left of what is left of the number, and those that are there, are the number's
  pub stored : digits 16 k rest ++ drop k text ≡ digits 16 hex_places n

abbrev pub invariant-loop-k : goal.invariant-loop-k
invariant-loop-k l = Spelt l.n l.text l.rest l.k

-- Numbers joined: each bit that is set in any of them.
use Rattle.std.specs.Prelude.{List, [], ◌∷◌, ℕ}
use Rattle.std.specs.Int.Bits.{bit_or}

-- the bits of a, and those of every number in the list
unfoldable pub joined : ℕ → List ℕ → ℕ
joined a [] = a
joined a (x ∷ xs) = joined (bit_or a x) xs

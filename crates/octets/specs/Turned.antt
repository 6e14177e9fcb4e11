-- Numbers with their bytes turned round, least significant first: what the machine loads and stores at once, and so the way by which code reads and writes big-endian numbers.
use Rattle.std.specs.Prelude.{List, [], ◌∷◌, ℕ, zero, suc, ◌+◌, ◌*◌, ◌/◌, ◌%◌}
use Rattle.octets.specs.Numbers.{to_be}

-- the number that bytes say, least significant byte first
unfoldable pub le : List ℕ → ℕ
le [] = 0
le (b ∷ bs) = b + 256 * le bs

-- the w bytes of a number below 256 ^ w, least significant first
unfoldable pub to_le : ℕ → ℕ → List ℕ
to_le zero v = []
to_le (suc w) v = v % 256 ∷ to_le w (v / 256)

-- the number with its w bytes turned round
unfoldable pub turned : ℕ → ℕ → ℕ
turned w v = le (to_be w v)

-- A layout is the list of its fields' widths, in order and with no gaps. What bytes say by a layout, and the bytes of numbers.
use Rattle.std.specs.Prelude.{List, [], ◌∷◌, ◌++◌, ℕ, zero, suc, ◌+◌, ◌^◌, ◌<◌, get_or, take, drop}
use Rattle.octets.specs.Numbers.{be, to_be}

-- how many bytes a layout has
unfoldable pub size : List ℕ → ℕ
size [] = 0
size (w ∷ ws) = w + size ws

-- where field k starts: behind those before it
unfoldable pub offset : List ℕ → ℕ → ℕ
offset ws zero = 0
offset [] (suc k) = 0
offset (w ∷ ws) (suc k) = w + offset ws k

-- the numbers that bytes say, field by field
unfoldable pub numbers : List ℕ → List ℕ → List ℕ
numbers [] l = []
numbers (w ∷ ws) l = be (take w l) ∷ numbers ws (drop w l)

-- the number in field k, counted from 0
unfoldable pub field_of : List ℕ → ℕ → List ℕ → ℕ
field_of ws k l = get_or (numbers ws l) k 0

-- the bytes of numbers, field by field
unfoldable pub bytes_of : List ℕ → List ℕ → List ℕ
bytes_of [] vs = []
bytes_of (w ∷ ws) [] = []
bytes_of (w ∷ ws) (v ∷ vs) = to_be w v ++ bytes_of ws vs

-- one number for each field, below the limit that its width sets
pub data Fit : List ℕ → List ℕ → Type 0 where
  none : Fit [] []
  field : {w v : ℕ} {ws vs : List ℕ} → v < 256 ^ w → Fit ws vs → Fit (w ∷ ws) (v ∷ vs)

-- a list filled up with z to n elements
unfoldable pub padded : {A : Type 0} → ℕ → A → List A → List A
padded zero z xs = []
padded (suc n) z [] = z ∷ padded n z []
padded (suc n) z (x ∷ xs) = x ∷ padded n z xs

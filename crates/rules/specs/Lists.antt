-- Words for lists that document 01's sentences use.
use Rattle.std.specs.Prelude.{Bool, true, false, cond, ◌&&◌, ◌||◌, ℕ, ◌+◌, eqb, ltb, leb}
use mathlib.Core.List.{List, [], ◌∷◌, flat_map}

unfoldable pub every : {A : Type 0} → (A → Bool) → List A → Bool
every f [] = true
every f (x ∷ xs) = f x && every f xs

unfoldable pub any : {A : Type 0} → (A → Bool) → List A → Bool
any f [] = false
any f (x ∷ xs) = f x || any f xs

-- how many there are up to and including the first that f holds of, or all without one
unfoldable pub up_to : {A : Type 0} → (A → Bool) → List A → ℕ
up_to f [] = 0
up_to f (x ∷ xs) = 1 + cond (f x) 0 (up_to f xs)

-- those that f holds of, in order
unfoldable pub those : {A : Type 0} → (A → Bool) → List A → List A
those f xs = flat_map (λ x. cond (f x) (x ∷ []) []) xs

unfoldable pub zeros : List ℕ → Bool
zeros xs = every (λ x. eqb x 0) xs

unfoldable pub one_of : ℕ → List ℕ → Bool
one_of x xs = any (eqb x) xs

unfoldable pub above : ℕ → List ℕ → Bool
above x [] = true
above x (y ∷ ys) = ltb x y && above y ys

-- strictly ascending
unfoldable pub ascending : List ℕ → Bool
ascending [] = true
ascending (x ∷ xs) = above x xs

-- ascending, with repeats
unfoldable pub rising : List ℕ → Bool
rising [] = true
rising (x ∷ xs) = every (leb x) xs && rising xs

abbrev pub larger : ℕ → ℕ → ℕ
larger a b = cond (ltb a b) b a

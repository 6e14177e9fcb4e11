-- Laws of lists that are filled up: an element read, stored, added or taken out.
-- By the list, one element at a time.
use mathlib.Core.Path.{◌≡◌, refl, ap}
use mathlib.Core.List.{List, [], ◌∷◌, ◌++◌}
use Prim.Native.Nat.{ℕ, zero, suc, ◌<◌, ◌≤◌}
use native.Mathlib.Omega.{arith}
use lib.ListN.{length, get_or, take, drop, set}
use Rattle.octets.specs.Fields.{padded}

module _ {A : Type 0} (z : A) where
  pub get_or-padded : (n k : ℕ) (xs : List A) (d : A) → k < length xs → k < n → get_or (padded n z xs) k d ≡ get_or xs k d
  unfolding padded
  get_or-padded zero k xs d h few = absurd (omega arith)
  get_or-padded (suc n) k [] d h few = absurd (omega arith)
  get_or-padded (suc n) zero (x ∷ xs) d h few = refl
  get_or-padded (suc n) (suc k) (x ∷ xs) d h few = get_or-padded n k xs d (omega arith) (omega arith)

  -- behind what is there
  pub get_or-spare : (n k : ℕ) (xs : List A) (d : A) → length xs ≤ k → k < n → get_or (padded n z xs) k d ≡ z
  unfolding padded
  get_or-spare zero k xs d h few = absurd (omega arith)
  get_or-spare (suc n) zero [] d h few = refl
  get_or-spare (suc n) (suc k) [] d h few = get_or-spare n k [] d (omega arith) (omega arith)
  get_or-spare (suc n) zero (x ∷ xs) d h few = absurd (omega arith)
  get_or-spare (suc n) (suc k) (x ∷ xs) d h few = get_or-spare n k xs d (omega arith) (omega arith)

  pub set-padded : (n k : ℕ) (xs : List A) (x : A) → k < length xs → set (padded n z xs) k x ≡ padded n z (set xs k x)
  unfolding padded
  set-padded zero k xs x h = refl
  set-padded (suc n) k [] x h = absurd (omega arith)
  set-padded (suc n) zero (y ∷ xs) x h = refl
  set-padded (suc n) (suc k) (y ∷ xs) x h = ap (λ (r : List A). y ∷ r) (set-padded n k xs x (omega arith))

  -- one more, behind what is there
  pub padded-more : (n : ℕ) (xs : List A) (x : A) → length xs < n → set (padded n z xs) (length xs) x ≡ padded n z (xs ++ (x ∷ []))
  unfolding padded
  padded-more zero xs x h = absurd (omega arith)
  padded-more (suc n) [] x h = refl
  padded-more (suc n) (y ∷ xs) x h = ap (λ (r : List A). y ∷ r) (padded-more n xs x (omega arith))

  -- one less: what is behind it moves up, and another z fills up
  pub padded_less : (n k : ℕ) (xs : List A) → k < length xs → length xs ≤ n
      → take k (padded n z xs) ++ (drop (suc k) (padded n z xs) ++ (z ∷ [])) ≡ padded n z (take k xs ++ drop (suc k) xs)
  unfolding padded
  padded_less zero k xs h few = absurd (omega arith)
  padded_less (suc n) k [] h few = absurd (omega arith)
  padded_less (suc n) zero (x ∷ xs) h few = padded-again n xs (omega arith)
    where
      padded-again : (n : ℕ) (xs : List A) → length xs ≤ n → padded n z xs ++ (z ∷ []) ≡ padded (suc n) z xs
      padded-again zero [] h = refl
      padded-again zero (x ∷ xs) h = absurd (omega arith)
      padded-again (suc n) [] h = ap (λ (r : List A). z ∷ r) (padded-again n [] (omega arith))
      padded-again (suc n) (x ∷ xs) h = ap (λ (r : List A). x ∷ r) (padded-again n xs (omega arith))
  padded_less (suc n) (suc k) (x ∷ xs) h few = ap (λ (r : List A). x ∷ r) (padded_less n k xs (omega arith) (omega arith))

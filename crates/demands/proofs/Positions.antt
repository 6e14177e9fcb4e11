-- What stands at a position of a list: there is something exactly below the list's length, so places and origins lie in their lists.
-- By the list and the position together.
use mathlib.Core.Path.{◌≡◌, refl, ◌∙◌}
use mathlib.Core.Option.{some}
use mathlib.Core.List.{List, [], ◌∷◌}
use Prim.Native.Nat.{ℕ, zero, suc, ◌<◌}
use native.Mathlib.Omega.{arith}
use lib.ListN.{length, get_elem?}
use Rattle.rules.proofs.AllLaws.{All, none, more}
use Rattle.demands.specs.Demand3.{Call, Permuted}

pub position_in : {A : Type 0} (l : List A) (k : ℕ) {a : A} → get_elem? l k ≡ some a → k < length l
position_in [] k e = absurd (let z : ◌≡◌ {A = ℕ} 0 1 = cc in omega arith)
position_in (x ∷ l) zero e = omega arith
position_in (x ∷ l) (suc k) e = omega (arith, position_in l k e)

pub position_some : {A : Type 0} (l : List A) (k : ℕ) → k < length l → (a : A) × (get_elem? l k ≡ some a)
position_some [] k h = absurd (omega arith)
position_some (x ∷ l) zero h = (x, refl)
position_some (x ∷ l) (suc k) h = position_some l k (omega arith)

-- what holds of whatever stands at a position holds of each element
pub all_positions : {A : Type 0} {P : A → Type 0} (l : List A) → ((k : ℕ) (a : A) → get_elem? l k ≡ some a → P a) → All P l
all_positions [] h = none
all_positions (x ∷ l) h = more (h zero x refl) (all_positions l (λ k a e. h (suc k) a e))

-- ---- of two lists in another order

module _ {xs ys : List Call} (p : Permuted xs ys) where
  pub place_in : (i : ℕ) → i < length xs → p.place i < length ys
  place_in i h = position_in ys (p.place i) (p.moved i h ∙ (position_some xs i h).1)

  pub origin_in : (k : ℕ) → k < length ys → p.origin k < length xs
  origin_in k h = position_in xs (p.origin k) (p.came k h ∙ (position_some ys k h).1)

-- Every permutation of the library, made of exchanges of neighbours, is one of positions.
-- By how the permutation is made; each kind of making has its own places.
use mathlib.Core.Path.{◌≡◌, refl, sym, ap, ◌∙◌}
use mathlib.Core.Option.{some}
use mathlib.Core.List.{List, ◌∷◌, Permᴰ}
use Prim.Native.Nat.{ℕ, zero, suc, ◌<◌}
use native.Mathlib.Omega.{arith}
use lib.ListN.{length, get_elem?}
use Rattle.demands.specs.Demand3.{Call, Permuted, EveryPermutation}
use Rattle.demands.specs.Demand3Samples.{exchanged}
use Rattle.demands.proofs.Positions.{place_in, origin_in}

-- the same behind a first call
abbrev behind : (ℕ → ℕ) → ℕ → ℕ
behind f zero = zero
behind f (suc i) = suc (f i)

behind-at : {a b : Call} → a ≡ b → (xs ys : List Call) (f : ℕ → ℕ) → ((i : ℕ) → i < length xs → get_elem? ys (f i) ≡ get_elem? xs i)
    → (i : ℕ) → i < length (a ∷ xs) → get_elem? (b ∷ ys) (behind f i) ≡ get_elem? (a ∷ xs) i
behind-at e xs ys f h zero l = ap some (sym e)
behind-at e xs ys f h (suc i) l = h i (omega arith)

behind_undone : (f g : ℕ → ℕ) (n : ℕ) → ((i : ℕ) → i < n → g (f i) ≡ i) → (i : ℕ) → i < suc n → behind g (behind f i) ≡ i
behind_undone f g n h zero l = refl
behind_undone f g n h (suc i) l = ap suc (h i (omega arith))

-- the first two exchanged
exchanged-at : {a b c d : Call} (l : List Call) → a ≡ d → b ≡ c → (i : ℕ) → get_elem? (c ∷ d ∷ l) (exchanged i) ≡ get_elem? (a ∷ b ∷ l) i
exchanged-at l p q zero = ap some (sym p)
exchanged-at l p q (suc zero) = ap some (sym q)
exchanged-at l p q (suc (suc i)) = refl

exchanged_undone : (i : ℕ) → exchanged (exchanged i) ≡ i
exchanged_undone zero = refl
exchanged_undone (suc zero) = refl
exchanged_undone (suc (suc i)) = refl

pub permuted : {xs ys : List Call} → Permᴰ xs ys → Permuted xs ys
permuted Permᴰ.nil =
    record {
      place = λ i. i;
      origin = λ i. i;
      moved = λ i h. refl;
      came = λ i h. refl;
      there_and_back = λ i h. refl;
      back_and_there = λ i h. refl;
    }
permuted (Permᴰ.cons {l₁ = xs} {l₂ = ys} e p) =
    let q = permuted p in
    record {
      place = behind q.place;
      origin = behind q.origin;
      moved = behind-at e xs ys q.place q.moved;
      came = behind-at (sym e) ys xs q.origin q.came;
      there_and_back = behind_undone q.place q.origin (length xs) q.there_and_back;
      back_and_there = behind_undone q.origin q.place (length ys) q.back_and_there;
    }
permuted (Permᴰ.swap {l = l} e d) =
    record {
      place = exchanged;
      origin = exchanged;
      moved = λ i h. exchanged-at l e d i;
      came = λ k h. exchanged-at l (sym d) (sym e) k;
      there_and_back = λ i h. exchanged_undone i;
      back_and_there = λ k h. exchanged_undone k;
    }
permuted (Permᴰ.trans p q) =
    let u = permuted p in
    let v = permuted q in
    record {
      place = λ i. v.place (u.place i);
      origin = λ k. u.origin (v.origin k);
      moved = λ i h. v.moved (u.place i) (place_in u i h) ∙ u.moved i h;
      came = λ k h. u.came (v.origin k) (origin_in v k h) ∙ v.came k h;
      there_and_back = λ i h. ap u.origin (v.there_and_back (u.place i) (place_in u i h)) ∙ u.there_and_back i h;
      back_and_there = λ k h. ap v.place (u.back_and_there (v.origin k) (origin_in v k h)) ∙ v.back_and_there k h;
    }

pub every_permutation : EveryPermutation
every_permutation xs ys = permuted

-- Summaries: of nothing and of a value, of a value that is all of the bytes, and what gathering marks comes to.
use mathlib.Core.Path.{◌≡◌, refl, sym, ap, subst, ◌∙◌}
use mathlib.Core.Bool.{Bool, ◌||◌}
use mathlib.Core.List.{List, [], ◌∷◌}
use Prim.Native.Nat.{ℕ}
use Rattle.rules.specs.Lists.{any}
use Rattle.rules.proofs.TestLaws.{or_assoc, or-false}
use Rattle.formats.specs.Format.{Found, nothing, found, all_of}
use Rattle.formats.specs.Summary.{summed, gathered, or_marked}

-- ---- nothing is no value

abbrev IsFound : {A : Type 0} → Found A → Type 0
IsFound nothing = ⊥
IsFound (found a r) = Unit {0}

pub nothing-found : {A : Type 0} (a : A) (r : List ℕ) → nothing ≡ found a r → ⊥
nothing-found {A} a r e = subst IsFound (sym e) tt

pub found-value : {A : Type 0} (x y : A) (r s : List ℕ) → found x r ≡ found y s → x ≡ y
found-value {A} x y r s e = ap value e
  where
    value : Found A → A
    value nothing = x
    value (found a q) = a

pub found-rest : {A : Type 0} (x y : A) (r s : List ℕ) → found x r ≡ found y s → r ≡ s
found-rest {A} x y r s e = ap rest e
  where
    rest : Found A → List ℕ
    rest nothing = r
    rest (found a q) = q

-- ---- a summary of a summary, and equal summaries

module _ {A B : Type 0} where
  pub summed_same : (f g : A → B) → ((a : A) → f a ≡ g a) → (x : Found A) → summed f x ≡ summed g x
  summed_same f g e nothing = refl
  summed_same f g e (found a r) = ap (λ (b : B). found b r) (e a)

  pub summed-nothing : (g : A → B) (x : Found A) → summed g x ≡ nothing → x ≡ nothing
  summed-nothing g nothing e = refl
  summed-nothing g (found a r) e = absurd (nothing-found (g a) r (sym e))

  pub summed_all : (g : A → B) (x : Found A) (r : List ℕ) → all_of (summed g x) r ≡ summed g (all_of x r)
  summed_all g nothing r = refl
  summed_all g (found a []) r = refl
  summed_all g (found a (b ∷ bs)) r = refl

-- ---- marks

pub gathered-marks : {A : Type 0} (marks : A → Bool) (seen : Bool) (xs : List A) → gathered (or_marked marks) seen xs ≡ (seen || any marks xs)
unfolding gathered any
gathered-marks marks seen [] = sym (or-false seen)
gathered-marks marks seen (x ∷ xs) = gathered-marks marks (seen || marks x) xs ∙ or_assoc seen (marks x) (any marks xs)

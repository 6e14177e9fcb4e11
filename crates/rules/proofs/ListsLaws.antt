-- Laws of the words for lists: every, any, those, and what is made of each element.
-- Each goes by the list.
use mathlib.Core.Path.{◌≡◌, refl}
use mathlib.Core.Bool.{Bool, true, false, cond, not, false≢true}
use mathlib.Core.List.{List, [], ◌∷◌, ◌++◌, flat_map}
use Prim.Native.Nat.{ℕ, zero, suc, ◌+◌, ◌≤◌, ◌<◌}
use native.Mathlib.Omega.{arith}
use lib.ListN.{length, get_or, length-append, replicate}
use borrow.Author.Tests.{eqb-true}
use lib.Dec.{eqb}
use Rattle.rules.specs.Lists.{every, any, those, zeros, up_to}
use Rattle.rules.proofs.TestLaws.{both, and-true, by_test, or_else, else_or, neither}

-- ---- every

pub every_append : {A : Type 0} (f : A → Bool) (xs ys : List A) → every f xs ≡ true → every f ys ≡ true → every f (xs ++ ys) ≡ true
unfolding every
every_append f [] ys p q = q
every_append f (x ∷ xs) ys p q =
    let h = both (f x) (every f xs) p in
    and-true (f x) (every f (xs ++ ys)) h.0 (every_append f xs ys h.1 q)

-- what f makes of each: every result is fine if every origin gives fine ones only
pub every-flat_map : {A B : Type 0} (f : A → List B) (g : A → Bool) (h : B → Bool) (xs : List A) → ((x : A) → g x ≡ true → every h (f x) ≡ true) → every g xs ≡ true
    → every h (flat_map f xs) ≡ true
unfolding every flat_map
every-flat_map f g h [] k p = refl
every-flat_map f g h (x ∷ xs) k p =
    let s = both (g x) (every g xs) p in
    every_append h (f x) (flat_map f xs) (k x s.0) (every-flat_map f g h xs k s.1)

-- zeros are a run of 0
pub zeros-replicate : (xs : List ℕ) → zeros xs ≡ true → xs ≡ replicate (length xs) 0
unfolding zeros every
zeros-replicate [] p = refl
zeros-replicate (x ∷ xs) p =
    let h = both (eqb x 0) (every (λ y. eqb y 0) xs) p in
    let e : x ≡ 0 = eqb-true x 0 h.0 in
    rw (e, ← zeros-replicate xs h.1)

pub replicate-zeros : (n : ℕ) → zeros (replicate n 0) ≡ true
unfolding zeros every
replicate-zeros zero = refl
replicate-zeros (suc n) = replicate-zeros n

-- ---- any

pub any_append : {A : Type 0} (f : A → Bool) (xs ys : List A) → any f xs ≡ false → any f ys ≡ false → any f (xs ++ ys) ≡ false
unfolding any
any_append f [] ys p q = q
any_append f (x ∷ xs) ys p q =
    let h = neither (f x) (any f xs) p in
    rw (h.0, any_append f xs ys h.1 q)

pub some_append : {A : Type 0} (f : A → Bool) (xs ys : List A) → any f xs ≡ true → any f (xs ++ ys) ≡ true
unfolding any
some_append f [] ys p = absurd (false≢true p)
some_append f (x ∷ xs) ys p = else_or (f x) (any f (xs ++ ys)) (λ n. some_append f xs ys (or_else (f x) (any f xs) p n))

pub some-behind : {A : Type 0} (f : A → Bool) (xs ys : List A) → any f ys ≡ true → any f (xs ++ ys) ≡ true
unfolding any
some-behind f [] ys p = p
some-behind f (x ∷ xs) ys p = else_or (f x) (any f (xs ++ ys)) (λ n. some-behind f xs ys p)

-- what f makes of each: none of the results is meant if no origin is
pub any-flat_map : {A B : Type 0} (f : A → List B) (g : A → Bool) (h : B → Bool) (xs : List A) → ((x : A) → g x ≡ false → any h (f x) ≡ false) → any g xs ≡ false
    → any h (flat_map f xs) ≡ false
unfolding any flat_map
any-flat_map f g h [] k p = refl
any-flat_map f g h (x ∷ xs) k p =
    let s = neither (g x) (any g xs) p in
    any_append h (f x) (flat_map f xs) (k x s.0) (any-flat_map f g h xs k s.1)

pub some_at : {A : Type 0} (f : A → Bool) (xs : List A) (k : ℕ) (d : A) → k < length xs → f (get_or xs k d) ≡ true → any f xs ≡ true
unfolding any
some_at f [] k d h p = absurd (omega arith)
some_at f (x ∷ xs) zero d h p = rw p
some_at f (x ∷ xs) (suc k) d h p = else_or (f x) (any f xs) (λ n. some_at f xs k d (omega arith) p)

-- what f makes of one that is meant is meant
pub some-flat_map : {A B : Type 0} (f : A → List B) (g : A → Bool) (h : B → Bool) (xs : List A) → ((x : A) → g x ≡ true → any h (f x) ≡ true) → any g xs ≡ true
    → any h (flat_map f xs) ≡ true
unfolding any flat_map
some-flat_map f g h [] k p = absurd (false≢true p)
some-flat_map f g h (x ∷ xs) k p =
    by_test (g x)
    (λ t. some_append h (f x) (flat_map f xs) (k x t))
    (λ t. some-behind h (f x) (flat_map f xs) (some-flat_map f g h xs k (or_else (g x) (any g xs) p t)))

-- the same of two tests that say the same of each
module _ {A : Type 0} (p q : A → Bool) (same : (x : A) → p x ≡ q x) where
  pub any_same : (xs : List A) → any p xs ≡ any q xs
  unfolding any
  any_same [] = refl
  any_same (x ∷ xs) = rw (same x, any_same xs)

  pub up_to_same : (xs : List A) → up_to p xs ≡ up_to q xs
  unfolding up_to
  up_to_same [] = refl
  up_to_same (x ∷ xs) = rw (same x, up_to_same xs)

-- ---- what f makes of each, where that is little

pub few-flat_map : {A B : Type 0} (f : A → List B) → ((x : A) → length (f x) ≤ 1) → (xs : List A) → length (flat_map f xs) ≤ length xs
unfolding flat_map
few-flat_map f k [] = omega arith
few-flat_map f k (x ∷ xs) = rw length-append (omega (arith, k x, few-flat_map f k xs))

pub few-cond : {A : Type 0} (b : Bool) (x : A) → length (cond b (x ∷ []) []) ≤ 1
few-cond true x = omega arith
few-cond false x = omega arith

pub every-cond : {A : Type 0} (f : A → Bool) (b : Bool) (x : A) → (b ≡ true → f x ≡ true) → every f (cond b (x ∷ []) []) ≡ true
unfolding every
every-cond f true x k = and-true (f x) true (k refl) refl
every-cond f false x k = refl

-- ---- where f holds of none

pub none_made : {A B : Type 0} (f : A → Bool) (h : A → List B) (xs : List A) → any f xs ≡ false → flat_map (λ x. cond (f x) (h x) []) xs ≡ []
unfolding any flat_map
none_made f h [] p = refl
none_made f h (x ∷ xs) p =
    let n = neither (f x) (any f xs) p in
    rw (n.0, none_made f h xs n.1)

pub all_those : {A : Type 0} (f : A → Bool) (xs : List A) → any f xs ≡ false → those (λ x. not (f x)) xs ≡ xs
unfolding any those flat_map
all_those f [] p = refl
all_those f (x ∷ xs) p =
    let n = neither (f x) (any f xs) p in
    rw (n.0, all_those f xs n.1)

-- of each, f holds or it is left
pub made_left : {A B : Type 0} (f : A → Bool) (h : A → B) (xs : List A) → length (flat_map (λ x. cond (f x) (h x ∷ []) []) xs) + length (those (λ x. not (f x)) xs) ≡ length xs
unfolding those flat_map
made_left f h [] = refl
made_left f h (x ∷ xs) = by_test (f x) (λ t. rw t (omega (arith, made_left f h xs))) (λ t. rw t (omega (arith, made_left f h xs)))

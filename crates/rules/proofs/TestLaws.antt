-- Laws of tests joined by `&&`, `||`, `not` and `cond`, and of the larger of two numbers.
-- Each goes by the truth of one test.
use mathlib.Core.Path.{◌≡◌, refl, sym}
use mathlib.Core.Bool.{Bool, true, false, cond, ◌&&◌, ◌||◌, false≢true}
use Prim.Native.Nat.{ℕ, ◌≤◌}
use native.Mathlib.Omega.{arith}
use borrow.Author.Tests.{ltb-true, ltb-false}
use mir.Val.{bool_byte}
use lib.Dec.{ltb}
use Rattle.rules.specs.Lists.{larger}

pub both : (a b : Bool) → a && b ≡ true → (a ≡ true) × (b ≡ true)
both true b e = (refl, e)
both false b e = absurd (false≢true e)

-- a test as a number
pub one-most : (b : Bool) → bool_byte b ≤ 1
one-most true = omega arith
one-most false = omega arith

pub and-true : (a b : Bool) → a ≡ true → b ≡ true → a && b ≡ true
and-true a b p q = rw (p, q)

-- ---- more tests than two, and tests that are known

pub or_assoc : (a b c : Bool) → ((a || b) || c) ≡ (a || (b || c))
or_assoc true b c = refl
or_assoc false b c = refl

pub and_assoc : (a b c : Bool) → ((a && b) && c) ≡ (a && (b && c))
and_assoc true b c = refl
and_assoc false b c = refl

pub or-false : (a : Bool) → (a || false) ≡ a
or-false true = refl
or-false false = refl

pub or_true : (a : Bool) → (a || true) ≡ true
or_true true = refl
or_true false = refl

pub and_with-true : (a : Bool) → (a && true) ≡ a
and_with-true true = refl
and_with-true false = refl

pub cond_cases : {A B : Type 0} (f : A → B) (b : Bool) (x y : A) → f (cond b x y) ≡ cond b (f x) (f y)
cond_cases f true x y = refl
cond_cases f false x y = refl

-- what holds of both answers to a test holds of the answer
pub cond_either : {A : Type 0} (P : A → Type 0) (b : Bool) (x y : A) → (b ≡ true → P x) → (b ≡ false → P y) → P (cond b x y)
cond_either P true x y p q = p refl
cond_either P false x y p q = q refl

-- ---- cases

-- either way a test turns out
pub by_test : {P : Type 0} (b : Bool) → (b ≡ true → P) → (b ≡ false → P) → P
by_test true p q = p refl
by_test false p q = q refl

pub or_else : (a b : Bool) → a || b ≡ true → a ≡ false → b ≡ true
or_else true b e n = absurd (false≢true (sym n))
or_else false b e n = e

pub else_or : (a b : Bool) → (a ≡ false → b ≡ true) → a || b ≡ true
else_or true b k = refl
else_or false b k = k refl

pub neither : (a b : Bool) → a || b ≡ false → (a ≡ false) × (b ≡ false)
neither true b e = absurd (false≢true (sym e))
neither false b e = (refl, e)

pub larger-left : (a b : ℕ) → a ≤ larger a b
larger-left a b = cond_either (λ n. a ≤ n) (ltb a b) b a (λ e. omega (arith, ltb-true a b e)) (λ e. omega arith)

pub larger_right : (a b : ℕ) → b ≤ larger a b
larger_right a b = cond_either (λ n. b ≤ n) (ltb a b) b a (λ e. omega arith) (λ e. omega (arith, ltb-false a b e))

pub larger-most : (a b c : ℕ) → a ≤ c → b ≤ c → larger a b ≤ c
larger-most a b c p q = cond_either (λ n. n ≤ c) (ltb a b) b a (λ e. q) (λ e. p)

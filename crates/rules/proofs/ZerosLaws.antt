-- Fields that are zero, one by one; and what a wide read tells of them: a number is 0 exactly if all its bytes are, and runs of zeros side by side are one.
-- By the fields, and by the bytes, one digit to the base 256 at a time.
use mathlib.Core.Path.{◌≡◌, refl, ap, ◌∙◌}
use mathlib.Core.Bool.{Bool, true, false, cond, ◌&&◌, ◌||◌, and_assoc}
use mathlib.Core.List.{List, [], ◌∷◌, ◌++◌}
use Prim.Native.Nat.{ℕ, zero, suc, ◌+◌, ◌*◌, ◌^◌, ◌<◌}
use native.Mathlib.Nat.{suc-mul, zero-mul}
use native.Mathlib.Omega.{arith}
use borrow.Author.Tests.{ne_eqb}
use lib.Dec.{eqb, eqb-suc-zero}
use lib.ListN.{length}
use Rattle.octets.specs.Runs.{gets}
use Rattle.octets.specs.Numbers.{be}
use Rattle.octets.proofs.RunsLaws.{gets_run}
use Rattle.octets.proofs.NumbersLaws.{pow_pos256}
use Rattle.rules.specs.Lists.{every, zeros}

-- ---- fields

pub zeros-none : zeros [] ≡ true
unfolding zeros every
zeros-none = refl

pub zeros-more : (x : ℕ) (xs : List ℕ) → zeros (x ∷ xs) ≡ eqb x 0 && zeros xs
unfolding zeros every
zeros-more x xs = refl

-- zero where a test fails
pub zeros_unless : (b : Bool) (xs : List ℕ) → zeros (cond b [] xs) ≡ b || zeros xs
unfolding zeros every
zeros_unless true xs = refl
zeros_unless false xs = refl

-- ---- bytes

sum_zero : (b k x : ℕ) → 0 < k → eqb (b * k + x) 0 ≡ eqb b 0 && eqb x 0
sum_zero zero k x h = let e : zero * k + x ≡ x = rw zero-mul (omega arith) in ap (λ (y : ℕ). eqb y 0) e
sum_zero (suc b) k x h =
    rw (suc-mul, eqb-suc-zero b) (ne_eqb (b * k + k + x) 0 (λ (e : b * k + k + x ≡ 0). omega arith))

pub be-zero : (bs : List ℕ) → eqb (be bs) 0 ≡ zeros bs
unfolding be zeros every
be-zero [] = refl
be-zero (b ∷ bs) = sum_zero b (256 ^ length bs) (be bs) (pow_pos256 (length bs)) ∙ rw (be-zero bs)

zeros_append : (us vs : List ℕ) → zeros (us ++ vs) ≡ zeros us && zeros vs
unfolding zeros every
zeros_append [] vs = refl
zeros_append (u ∷ us) vs = rw (zeros_append us vs, and_assoc)

-- two runs of a list, the second behind the first
pub zeros-run : (m n : ℕ) (l : List ℕ) (i j : ℕ) → j ≡ i + m → zeros (gets l i m) && zeros (gets l j n) ≡ zeros (gets l i (m + n))
zeros-run m n l i j e = rw (← gets_run m l i j n e, zeros_append)

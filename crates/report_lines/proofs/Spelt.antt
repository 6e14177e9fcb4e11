-- A decimal number reads back: the value of its digits is the number, so no two numbers are printed alike.
-- Each digit that is split off is the remainder, and the digits before it are those of the quotient.
use mathlib.Core.Path.{◌≡◌, refl}
use mathlib.Core.Bool.{true, false, cond}
use mathlib.Core.List.{List, [], ◌∷◌, ◌++◌}
use Prim.Native.Nat.{ℕ, zero, suc, ◌+◌, ◌-◌, ◌*◌, ◌/◌, ◌%◌, ◌^◌, ◌≤◌, ◌<◌}
use native.Mathlib.Nat.{add_comm, div-add-mod', div-lt_iff_lt-mul, mod-lt, mul_comm, pow-zero, pow-succ'}
use native.Mathlib.Numerals.{add-one}
use native.Mathlib.Omega.{arith}
use lib.Dec.{ltb}
use borrow.Author.Tests.{ltb-true, ltb-false, lt-ltb, le-ltb}
use Rattle.rules.proofs.TestLaws.{by_test}
use Rattle.report_lines.specs.Text.{glyph, digits, places, decimal}

-- what a digit's code says
unfoldable pub digit_of : ℕ → ℕ
digit_of g = cond (ltb g 58) (g - 48) (g - 87)

-- what digits say, behind those that said so much
unfoldable pub value_of : ℕ → ℕ → List ℕ → ℕ
value_of base before [] = before
value_of base before (g ∷ gs) = value_of base (before * base + digit_of g) gs

value-last : (base before : ℕ) (gs : List ℕ) (g : ℕ) → value_of base before (gs ++ (g ∷ [])) ≡ value_of base before gs * base + digit_of g
unfolding value_of
value-last base before [] g = refl
value-last base before (x ∷ gs) g = value-last base (before * base + digit_of x) gs g

digit_back : (d : ℕ) → d < 16 → digit_of (glyph d) ≡ d
unfolding digit_of glyph
digit_back d h =
    by_test (ltb d 10)
    (λ (e : ltb d 10 ≡ true). rw (e, lt-ltb (48 + d) 58 (omega (arith, ltb-true d 10 e))) (omega arith))
    (λ (e : ltb d 10 ≡ false). rw (e, le-ltb (87 + d) 58 (omega (arith, ltb-false d 10 e))) (omega arith))

pub digits-back : (base k n : ℕ) → 0 < base → base ≤ 16 → n < base ^ k → value_of base 0 (digits base k n) ≡ n
unfolding digits value_of
digits-back base zero n h m l = omega (arith, pow-zero base)
digits-back base (suc k) n h m l =
    let q : n / base < base ^ k = (div-lt_iff_lt-mul {x = n} {y = base ^ k} h).1 (rw (pow-succ' base k, mul_comm base (base ^ k)) at l) in
    let r : n % base < base = mod-lt n h in
    rw
    (value-last base 0 (digits base k (n / base)) (glyph (n % base)), digits-back base k (n / base) h m q, digit_back (n % base) (omega arith))
    (div-add-mod' n base)

-- as many digits as are counted hold the number
places_hold : (k n : ℕ) → n < 10 ^ suc k → n < 10 ^ places k n
unfolding places
places_hold zero n h = h
places_hold (suc k) n h =
    by_test (ltb n 10)
    (λ (e : ltb n 10 ≡ true). rw e (ltb-true n 10 e))
    (λ (e : ltb n 10 ≡ false).
    let q : n / 10 < 10 ^ suc k = (div-lt_iff_lt-mul {x = n} {y = 10 ^ suc k} (omega arith)).1 (rw (pow-succ' 10 (suc k), mul_comm 10 (10 ^ suc k)) at h) in
    let m : n < 10 ^ places k (n / 10) * 10 = (div-lt_iff_lt-mul {x = n} {y = 10 ^ places k (n / 10)} (omega arith)).0 (places_hold k (n / 10) q) in
    rw (e, add_comm 1 (places k (n / 10)), add-one (places k (n / 10)), pow-succ' 10 (places k (n / 10)), mul_comm 10 (10 ^ places k (n / 10))) m)

-- every number of 32 bits is below the limit
pub decimal-back : (n : ℕ) → n < 10 ^ 10 → value_of 10 0 (decimal n) ≡ n
unfolding decimal
decimal-back n h = digits-back 10 (places 9 n) n (omega arith) (omega arith) (places_hold 9 n h)

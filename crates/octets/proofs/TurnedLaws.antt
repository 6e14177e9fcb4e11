-- Laws of numbers with their bytes turned round: turned twice they are what they were, and a comparison may turn either side.
-- By induction over the bytes, as in NumbersLaws: the number that bytes say in one order, turned, is the one that they say in the other.
use mathlib.Core.Path.{◌≡◌, refl, sym, ap, ◌∙◌}
use mathlib.Core.Bool.{Bool, true, false}
use mathlib.Core.List.{List, [], ◌∷◌, ◌++◌}
use Prim.Native.Nat.{ℕ, suc, ◌+◌, ◌*◌, ◌/◌, ◌%◌, ◌^◌, ◌<◌}
use native.Mathlib.Nat.{pow-succ', div-one, mul_assoc, mul-add, mul_comm, add_assoc, add_comm}
use native.Mathlib.Numerals.{add-one}
use native.Mathlib.Omega.{arith}
use borrow.Author.Tests.{eqb-true, eqb-false, eq-eqb, ne_eqb}
use lib.Dec.{eqb}
use lib.ListN.{length}
use Rattle.octets.specs.Runs.{Bytes}
use Rattle.octets.specs.Numbers.{be, to_be}
use Rattle.octets.specs.Turned.{le, turned}
use Rattle.octets.proofs.NumbersLaws.{length-to_be, bytes-to_be, be-to_be, to_be_add}

pub le_append : (us vs : List ℕ) → le (us ++ vs) ≡ le us + 256 ^ length us * le vs
unfolding le
le_append [] vs = omega arith
le_append (u ∷ us) vs = rw (le_append us vs, pow-succ') (simp (mul-add, mul_assoc, add_assoc))

pub le_lt : (bs : List ℕ) → Bytes bs → le bs < 256 ^ length bs
unfolding le
le_lt [] h = omega arith
le_lt (b ∷ bs) h =
    let lt : le bs < 256 ^ length bs = le_lt bs (λ i. h (suc i)) in
    let b0 : b < 256 = h 0 in
    rw pow-succ' (omega arith)

pub turned_lt : (w v : ℕ) → v < 256 ^ w → turned w v < 256 ^ w
unfolding turned
turned_lt w v h = rw length-to_be at (le_lt (to_be w v) (bytes-to_be w v h))

-- each part turned, and the parts in the other order
pub turned-run : (u w v : ℕ) → v < 256 ^ (u + w) → turned w (v % 256 ^ w) * 256 ^ u + turned u (v / 256 ^ w) ≡ turned (u + w) v
unfolding turned
turned-run u w v h =
    rw (← to_be_add u w v h, le_append, length-to_be, mul_comm (256 ^ u), add_comm (le (to_be u (v / 256 ^ w))))

turned_none : turned 0 0 ≡ 0
unfolding turned le to_be
turned_none = refl

turned-one : (v : ℕ) → turned 1 v ≡ v
unfolding turned le to_be
turned-one v = rw div-one (omega arith)

-- what bytes say least significant first, turned, is what they say most significant first
pub turned_le : (bs : List ℕ) → Bytes bs → turned (length bs) (le bs) ≡ be bs
unfolding le be
turned_le [] h = turned_none
turned_le (b ∷ bs) h =
    let b0 : b < 256 = h 0 in
    let lo : (b + 256 * le bs) % 256 ≡ b = omega arith in
    let hi : (b + 256 * le bs) / 256 ≡ le bs = omega arith in
    let lt : b + 256 * le bs < 256 ^ (length bs + 1) = rw add-one (le_lt (b ∷ bs) h) in
    sym (rw (add-one, lo, hi, turned-one, turned_le bs (λ i. h (suc i))) at (turned-run (length bs) 1 (b + 256 * le bs) lt))

pub turned-twice : (w v : ℕ) → v < 256 ^ w → turned w (turned w v) ≡ v
unfolding turned
turned-twice w v h = rw length-to_be at (turned_le (to_be w v) (bytes-to_be w v h)) ∙ be-to_be w v h

-- ---- compared

pub eqb-turned : (w a b : ℕ) → a < 256 ^ w → b < 256 ^ w → eqb (turned w a) b ≡ eqb a (turned w b)
eqb-turned w a b ha hb = go (eqb (turned w a) b) refl
  where
    go : (t : Bool) → eqb (turned w a) b ≡ t → t ≡ eqb a (turned w b)
    go true e = sym (eq-eqb _ _ (sym (turned-twice w a ha) ∙ ap (turned w) (eqb-true _ _ e)))
    go false e = sym (ne_eqb _ _ (λ q. eqb-false _ _ e (ap (turned w) q ∙ turned-twice w b hb)))

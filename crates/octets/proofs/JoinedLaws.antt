-- Laws of numbers that are joined: their bytes may be turned before or after, and a loop meets them one by one.
-- By induction over the width; one digit to the base 256 is 8 bits, so `or_block`, `or_shr` and `or_mod` take a number apart.
use mathlib.Core.Path.{◌≡◌, refl, sym, ap, ap₂, ◌∙◌}
use mathlib.Core.List.{List, map}
use Prim.Native.Nat.{ℕ, zero, suc, ◌+◌, ◌*◌, ◌-◌, ◌/◌, ◌%◌, ◌^◌, ◌<◌, ◌≤◌}
use native.Mathlib.Nat.{pow-succ', mod-lt, div-lt_iff_lt-mul, zero-div, zero-mod}
use native.Mathlib.Omega.{arith}
use lib.Bits.{bit_or, or_zero_l, or_shr, or_mod, or_block}
use lib.ListN.{length, drop}
use lib.Pow.{pow-add}
use Rattle.octets.specs.Runs.{gets, pieces, Bytes}
use Rattle.octets.specs.Numbers.{be, to_be}
use Rattle.octets.specs.Turned.{le, turned}
use Rattle.octets.specs.Joined.{joined}
use Rattle.octets.proofs.NumbersLaws.{pow_pos256, be-gets_lt}
use Rattle.octets.proofs.TurnedLaws.{turned_lt, turned-twice}
use Rattle.octets.proofs.PiecesLaws.{pieces-next, pieces_none}

-- ---- turned

pow_bits : (w : ℕ) → 256 ^ w ≡ 2 ^ (8 * w)
pow_bits zero = refl
pow_bits (suc w) =
    let e : 8 * suc w ≡ 8 + 8 * w = omega arith in
    rw (e, pow-add, pow-succ' 256 w, pow_bits w)

or_digit : (r s x y : ℕ) → r < 256 → s < 256 → bit_or (r + 256 * x) (s + 256 * y) ≡ bit_or r s + 256 * bit_or x y
or_digit r s x y hr hs =
    let a : r + 256 * x ≡ x * 2 ^ 8 + r = omega arith in
    let b : s + 256 * y ≡ y * 2 ^ 8 + s = omega arith in
    let c : bit_or x y * 2 ^ 8 + bit_or r s ≡ bit_or r s + 256 * bit_or x y = omega arith in
    ap₂ bit_or a b ∙ or_block 8 x y r s hr hs ∙ c

-- the bytes turned round, before or after
turned_or : (w a b : ℕ) → a < 256 ^ w → b < 256 ^ w → turned w (bit_or a b) ≡ bit_or (turned w a) (turned w b)
unfolding turned to_be le
turned_or zero a b ha hb = sym (or_zero_l 0)
turned_or (suc w) a b ha hb =
    let pos : 0 < 256 ^ w = pow_pos256 w in
    let hi : bit_or a b / 256 ^ w ≡ bit_or (a / 256 ^ w) (b / 256 ^ w) = rw (pow_bits w) (or_shr a b (8 * w)) in
    let lo : bit_or a b % 256 ^ w ≡ bit_or (a % 256 ^ w) (b % 256 ^ w) = rw (pow_bits w) (or_mod a b (8 * w)) in
    let la : a / 256 ^ w < 256 = (div-lt_iff_lt-mul pos).1 (rw pow-succ' at ha) in
    let lb : b / 256 ^ w < 256 = (div-lt_iff_lt-mul pos).1 (rw pow-succ' at hb) in
    let back = turned_or w (a % 256 ^ w) (b % 256 ^ w) (mod-lt a pos) (mod-lt b pos) in
    ap₂ (λ (x y : ℕ). x + 256 * y) hi (ap (λ (v : ℕ). le (to_be w v)) lo ∙ back)
    ∙ sym (or_digit (a / 256 ^ w) (b / 256 ^ w) (le (to_be w (a % 256 ^ w))) (le (to_be w (b % 256 ^ w))) la lb)

turned-nothing : (w : ℕ) → turned w 0 ≡ 0
unfolding turned to_be le
turned-nothing zero = refl
turned-nothing (suc w) =
    let hi : 0 / 256 ^ w ≡ 0 = zero-div (256 ^ w) in
    let lo : 0 % 256 ^ w ≡ 0 = zero-mod (256 ^ w) in
    rw (hi, lo, turned-nothing w)

-- ---- met one by one

-- a turn of the loop that joins the big-endian numbers of l, each turned
pub joined-next : (w : ℕ) (l : List ℕ) → Bytes l → (any at left : ℕ) → any < 256 ^ w → 0 < left → at + w ≤ length l
    → joined (turned w any) (map be (pieces w left (drop at l)))
    ≡ joined (turned w (bit_or any (turned w (be (gets l at w))))) (map be (pieces w (left - 1) (drop (at + w) l)))
unfolding joined
joined-next w l bytes any at left fits more within =
    let x = be (gets l at w) in
    let lt : x < 256 ^ w = be-gets_lt w at l bytes in
    rw (pieces-next w left l at more within, turned_or w any (turned w x) fits (turned_lt w x lt), turned-twice w x lt)

pub joined-none : (w any left : ℕ) (l : List ℕ) → left ≤ 0 → joined any (map be (pieces w left l)) ≡ any
unfolding joined
joined-none w any left l h = rw (pieces_none w left l h)

-- nothing is turned into nothing
pub joined-first : (w : ℕ) (xs : List ℕ) → joined 0 xs ≡ joined (turned w 0) xs
joined-first w xs = rw (turned-nothing w)

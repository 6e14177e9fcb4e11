-- What the writer joins: fields that are tested at once, and items one by one.
-- By the first field, and by the first of the items that are left.
use mathlib.Core.Path.{◌≡◌, refl}
use Rattle.std.specs.List.{fold}
use mathlib.Core.Bool.{◌&&◌}
use mathlib.Core.List.{List, [], ◌∷◌}
use Prim.Native.Nat.{ℕ, zero, suc, ◌+◌, ◌<◌, ◌≤◌}
use native.Mathlib.Numerals.{add-one}
use native.Mathlib.Omega.{arith}
use lib.Bits.{bit_or, or_zero_l}
use lib.Dec.{eqb}
use lib.ListN.{length, drop, get_or, drop_of_length-le}
use lib.Seq.{drop-cons}
use borrow.Author.Tests.{ne_eqb}
use Rattle.octets.specs.Joined.{joined}
use Rattle.std.proofs.lemmas.Nat.{le_or_l}

-- ---- fields that are zero

-- two fields in one test
pub both_zero : (a b : ℕ) → eqb (bit_or a b) 0 ≡ eqb a 0 && eqb b 0
both_zero zero b = rw (or_zero_l b)
both_zero (suc a) b =
    rw (ne_eqb (suc a) 0 (λ e. omega arith)) (ne_eqb (bit_or (suc a) b) 0 (λ e. omega (arith, le_or_l (suc a) b)))

-- ---- items

pub joined_fold : (a : ℕ) (xs : List ℕ) → joined a xs ≡ fold bit_or a xs
unfolding joined
joined_fold a [] = refl
joined_fold a (x ∷ xs) = joined_fold (bit_or a x) xs

-- met one by one
pub joined-more : (a : ℕ) (xs : List ℕ) (k : ℕ) → k < length xs → joined a (drop k xs) ≡ joined (bit_or a (get_or xs k 0)) (drop (k + 1) xs)
unfolding joined
joined-more a xs k h = rw (drop-cons xs k 0 h, add-one)

pub joined_all : (a : ℕ) (xs : List ℕ) (k : ℕ) → length xs ≤ k → joined a (drop k xs) ≡ a
unfolding joined
joined_all a xs k h = rw (drop_of_length-le xs h)

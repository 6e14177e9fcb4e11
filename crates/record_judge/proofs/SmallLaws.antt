-- Items are judged all at once: joined, they are below their area's end exactly where each of them is, because every such end is a power of 2.
-- One item at a time, by whether it is below; and then by the area.
use mathlib.Core.Path.{◌≡◌, refl, sym, ◌∙◌}
use mathlib.Core.Bool.{Bool, true, false, ◌&&◌, and_assoc, and-true}
use mathlib.Core.List.{List, [], ◌∷◌}
use Prim.Native.Nat.{ℕ, ◌^◌}
use native.Mathlib.Omega.{arith}
use lib.Bits.{bit_or, or_lt}
use lib.Dec.{ltb}
use borrow.Author.Tests.{ltb-true, ltb-false, lt-ltb, le-ltb}
use Rattle.octets.specs.Joined.{joined}
use Rattle.std.proofs.lemmas.Nat.{le_or_l, le_or_r}
use Rattle.rules.specs.Lists.{every}
use Rattle.rules.specs.Record.{item_end_in, item_end}
use Rattle.rules.proofs.KindAreaLaws.{area_by_lem}

two-small : (k a x : ℕ) → ltb (bit_or a x) (2 ^ k) ≡ ltb a (2 ^ k) && ltb x (2 ^ k)
two-small k a x = go (ltb a (2 ^ k)) (ltb x (2 ^ k)) refl refl
  where
    go : (p q : Bool) → ltb a (2 ^ k) ≡ p → ltb x (2 ^ k) ≡ q → ltb (bit_or a x) (2 ^ k) ≡ p && q
    go true true e f = lt-ltb (bit_or a x) (2 ^ k) (or_lt k a x (ltb-true a (2 ^ k) e) (ltb-true x (2 ^ k) f))
    go true false e f = le-ltb (bit_or a x) (2 ^ k) (omega (arith, le_or_r a x, ltb-false x (2 ^ k) f))
    go false q e f = le-ltb (bit_or a x) (2 ^ k) (omega (arith, le_or_l a x, ltb-false a (2 ^ k) e))

joined_small : (k a : ℕ) (xs : List ℕ) → ltb (joined a xs) (2 ^ k) ≡ ltb a (2 ^ k) && every (λ x. ltb x (2 ^ k)) xs
unfolding joined every
joined_small k a [] = sym (and-true (ltb a (2 ^ k)))
joined_small k a (x ∷ xs) =
    joined_small k (bit_or a x) xs ∙ rw (two-small k a x) (and_assoc (ltb a (2 ^ k)) (ltb x (2 ^ k)) (every (λ y. ltb y (2 ^ k)) xs))

pub all_small : (area : ℕ) (xs : List ℕ) → ltb (joined 0 xs) (item_end area) ≡ every (λ x. ltb x (item_end area)) xs
all_small area xs =
    area_by_lem (λ a. ltb (joined 0 xs) (item_end_in a) ≡ every (λ x. ltb x (item_end_in a)) xs) area
    (λ _. joined_small 24 0 xs) (λ _. joined_small 60 0 xs) (λ _. joined_small 48 0 xs) (λ _. joined_small 24 0 xs) (joined_small 24 0 xs)

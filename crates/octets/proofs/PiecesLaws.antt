-- Laws of pieces of one size: a list cut and put together again, and pieces met one by one by a loop that walks over them.
-- By the number of pieces; the piece that a loop stands at is a run of the list, and the rest are those behind it.
use mathlib.Core.Path.{◌≡◌, refl, ap, ◌∙◌}
use mathlib.Core.List.{List, [], ◌∷◌, ◌++◌, map, flat_map, append_assoc}
use Prim.Native.Nat.{ℕ, zero, suc, ◌+◌, ◌*◌, ◌-◌, ◌≤◌, ◌<◌}
use native.Mathlib.Nat.{add_comm, mul-zero, mul-suc, suc-sub-suc, sub-zero}
use native.Mathlib.Omega.{arith}
use lib.ListN.{length, get_or, take, drop, length-append}
use lib.Seq.{take_all, take-add, take_at, drop_at, drop-drop}
use Rattle.octets.specs.Runs.{gets, pieces}
use Rattle.octets.proofs.RunsLaws.{gets_eq}

-- so many of one size are one less, and one
pub one_less_lem : (size : ℕ) {left : ℕ} → 0 < left → size * left ≡ size * (left - 1) + size
one_less_lem size {left} some = let e : left ≡ suc (left - 1) = omega arith in ap (λ n. size * n) e ∙ mul-suc size (left - 1)

-- ---- cut and put together

pub length-pieces : (w n : ℕ) (l : List ℕ) → length (pieces w n l) ≡ n
unfolding pieces
length-pieces w zero l = refl
length-pieces w (suc n) l = ap suc (length-pieces w n (drop w l))

-- piece k, by what it holds
pub pieces-at : (w n k : ℕ) (l : List ℕ) → k < n → get_or (pieces w n l) k [] ≡ take w (drop (w * k) l)
unfolding pieces
pieces-at w zero k l h = absurd (omega arith)
pieces-at w (suc n) zero l h = rw mul-zero
pieces-at w (suc n) (suc k) l h = rw (pieces-at w n k (drop w l) (omega arith), drop-drop, mul-suc, add_comm w)

-- the pieces, one behind the other, are the front that they were cut from
pieces_front : (w n : ℕ) (l : List ℕ) → flat_map (λ p. p) (pieces w n l) ≡ take (w * n) l
unfolding pieces flat_map
pieces_front w zero l = rw mul-zero
pieces_front w (suc n) l = rw (pieces_front w n (drop w l), mul-suc, add_comm (w * n), take-add)

pub pieces_flat : (w n : ℕ) (l : List ℕ) → length l ≡ w * n → flat_map (λ p. p) (pieces w n l) ≡ l
pieces_flat w n l e = pieces_front w n l ∙ take_all (w * n) l (omega arith)

-- lists of one length, one behind the other, are cut where they were joined
pub pieces-flat_map : {A : Type 0} (w : ℕ) (f : A → List ℕ) (xs : List A) → ((x : A) → length (f x) ≡ w)
    → (rest : List ℕ) → pieces w (length xs) (flat_map f xs ++ rest) ≡ map f xs
unfolding pieces flat_map
pieces-flat_map w f [] e rest = refl
pieces-flat_map w f (x ∷ xs) e rest =
    rw (append_assoc, take_at (f x) (flat_map f xs ++ rest) w (e x), drop_at (f x) (flat_map f xs ++ rest) w (e x), pieces-flat_map w f xs e rest)

pub length-flat_map : {A : Type 0} (w : ℕ) (f : A → List ℕ) (xs : List A) → ((x : A) → length (f x) ≡ w)
    → length (flat_map f xs) ≡ w * length xs
unfolding flat_map
length-flat_map w f [] e = rw mul-zero
length-flat_map w f (x ∷ xs) e = rw (length-append, e x, length-flat_map w f xs e, mul-suc, add_comm w)

-- ---- met one by one

pub pieces_more : (w left at : ℕ) (l : List ℕ) → 0 < left → pieces w left (drop at l) ≡ take w (drop at l) ∷ pieces w (left - 1) (drop (at + w) l)
unfolding pieces
pieces_more w zero at l h = absurd (omega arith)
pieces_more w (suc n) at l h = rw (drop-drop w at l, suc-sub-suc, sub-zero)

-- the same, the piece read at its index
pub pieces-next : (w n : ℕ) (l : List ℕ) (i : ℕ) → 0 < n → i + w ≤ length l → pieces w n (drop i l) ≡ gets l i w ∷ pieces w (n - 1) (drop (i + w) l)
pieces-next w n l i h fits = rw (gets_eq w l i fits) (pieces_more w n i l h)

pub pieces_none : (w n : ℕ) (l : List ℕ) → n ≤ 0 → pieces w n l ≡ []
unfolding pieces
pieces_none w zero l h = refl
pieces_none w (suc n) l h = absurd (omega arith)

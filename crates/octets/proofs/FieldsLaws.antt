-- Laws of layouts: what is written by a list of widths is read back, what is read is written again, and where each field stands; and of lists that are filled up.
-- By induction over the list of widths, one field at a time, so they hold for any layout; a record cites them with its own widths.
use mathlib.Core.Path.{◌≡◌, refl, ap}
use mathlib.Core.List.{List, [], ◌∷◌, ◌++◌, append_assoc}
use Prim.Native.Nat.{ℕ, zero, suc, ◌+◌, ◌-◌, ◌≤◌}
use native.Mathlib.Nat.{sub-zero, zero-sub, suc-sub-suc}
use native.Mathlib.Omega.{arith}
use lib.ListN.{length, get_or, take, drop, replicate, length-append, length-drop}
use lib.Seq.{take-take, take-nil, take-add, take_at, drop_at, take-append-le, drop-append-le, length-take-le}
use Rattle.std.proofs.lemmas.List.{drop-replicate}
use Rattle.octets.specs.Runs.{gets, Bytes}
use Rattle.octets.specs.Numbers.{be, to_be}
use Rattle.octets.specs.Fields.{size, offset, numbers, field_of, bytes_of, Fit, none, field, padded}
use Rattle.octets.proofs.RunsLaws.{gets_eq, gets-drop, bytes_take, bytes_drop, bytes_append}
use Rattle.octets.proofs.NumbersLaws.{length-to_be, be-to_be, be_lt, to_be-be, bytes-to_be}

-- ---- numbers to bytes and back

pub length_bytes_of : (ws vs : List ℕ) → Fit ws vs → length (bytes_of ws vs) ≡ size ws
unfolding bytes_of size
length_bytes_of [] [] none = refl
length_bytes_of (w ∷ ws) (v ∷ vs) (field h f) = rw (length-append, length-to_be, length_bytes_of ws vs f)
length_bytes_of [] (v ∷ vs) x'' = elim x'' [ ]
length_bytes_of (w ∷ ws) [] x3 = elim x3 [ ]

pub bytes_bytes_of : (ws vs : List ℕ) → Fit ws vs → Bytes (bytes_of ws vs)
unfolding bytes_of
bytes_bytes_of [] [] none = λ i. omega arith
bytes_bytes_of (w ∷ ws) (v ∷ vs) (field h f) =
    bytes_append (to_be w v) (bytes_of ws vs) (bytes-to_be w v h) (bytes_bytes_of ws vs f)
bytes_bytes_of [] (v ∷ vs) x'' = elim x'' [ ]
bytes_bytes_of (w ∷ ws) [] x3 = elim x3 [ ]

-- what was written is read back, whatever stands behind it
pub numbers_bytes_of : (ws vs rest : List ℕ) → Fit ws vs → numbers ws (bytes_of ws vs ++ rest) ≡ vs
unfolding numbers bytes_of
numbers_bytes_of [] [] rest none = refl
numbers_bytes_of (w ∷ ws) (v ∷ vs) rest (field h f) =
    let e : length (to_be w v) ≡ w = length-to_be w v in
    rw (append_assoc, take_at (to_be w v) (bytes_of ws vs ++ rest) w e, drop_at (to_be w v) (bytes_of ws vs ++ rest) w e, be-to_be w v h, numbers_bytes_of ws vs rest f)
numbers_bytes_of [] (v ∷ vs) rest x'' = elim x'' [ ]
numbers_bytes_of (w ∷ ws) [] rest x3 = elim x3 [ ]

-- what was read is written again as it stood
pub bytes_of_numbers : (ws l : List ℕ) → Bytes l → size ws ≤ length l → bytes_of ws (numbers ws l) ≡ take (size ws) l
unfolding numbers bytes_of size
bytes_of_numbers [] l h fits = refl
bytes_of_numbers (w ∷ ws) l h fits =
    let e : length (take w l) ≡ w = length-take-le w l (omega arith) in
    let t : to_be w (be (take w l)) ≡ take w l = rw e at (to_be-be (take w l) (bytes_take w l h)) in
    let d : length (drop w l) ≡ length l - w = length-drop w l in
    rw (t, bytes_of_numbers ws (drop w l) (bytes_drop w l h) (omega arith), take-add)

-- what bytes say is below the limits of the widths
pub fit-numbers : (ws l : List ℕ) → Bytes l → size ws ≤ length l → Fit ws (numbers ws l)
unfolding numbers size
fit-numbers [] l h fits = none
fit-numbers (w ∷ ws) l h fits =
    let e : length (take w l) ≡ w = length-take-le w l (omega arith) in
    let d : length (drop w l) ≡ length l - w = length-drop w l in
    field (rw e at (be_lt (take w l) (bytes_take w l h))) (fit-numbers ws (drop w l) (bytes_drop w l h) (omega arith))

-- ---- the numbers that bytes say

pub length-numbers : (ws l : List ℕ) → length (numbers ws l) ≡ length ws
unfolding numbers
length-numbers [] l = refl
length-numbers (w ∷ ws) l = ap suc (length-numbers ws (drop w l))

-- field k, by where it stands
pub field_at : (ws : List ℕ) (k : ℕ) (l : List ℕ) → offset ws k + get_or ws k 0 ≤ length l → field_of ws k l ≡ be (gets l (offset ws k) (get_or ws k 0))
unfolding field_of numbers offset be gets
field_at [] k l fits = refl
field_at (w ∷ ws) zero l fits = rw (gets_eq w l 0 fits)
field_at (w ∷ ws) (suc k) l fits =
    let d : length (drop w l) ≡ length l - w = length-drop w l in
    rw (field_at ws k (drop w l) (omega arith), gets-drop)

-- a field ends within the layout
pub field-within : (ws : List ℕ) (k : ℕ) → offset ws k + get_or ws k 0 ≤ size ws
unfolding offset size
field-within [] zero = omega arith
field-within [] (suc k) = omega arith
field-within (w ∷ ws) zero = omega arith
field-within (w ∷ ws) (suc k) = omega (arith, field-within ws k)

drop-take : (w n : ℕ) (l : List ℕ) → drop w (take n l) ≡ take (n - w) (drop w l)
drop-take zero n l = rw sub-zero
drop-take (suc w) zero l = rw zero-sub
drop-take (suc w) (suc n) [] = rw take-nil
drop-take (suc w) (suc n) (x ∷ l) = rw suc-sub-suc (drop-take w n l)

-- only the layout's own bytes count
pub numbers-take : (ws l : List ℕ) (n : ℕ) → size ws ≤ n → numbers ws (take n l) ≡ numbers ws l
unfolding numbers size
numbers-take [] l n h = refl
numbers-take (w ∷ ws) l n h =
    rw (take-take w n l (omega arith), drop-take w n l, numbers-take ws (drop w l) (n - w) (omega arith))

pub numbers_append : (ws a rest : List ℕ) → size ws ≤ length a → numbers ws (a ++ rest) ≡ numbers ws a
unfolding numbers size
numbers_append [] a rest h = refl
numbers_append (w ∷ ws) a rest h =
    let d : length (drop w a) ≡ length a - w = length-drop w a in
    rw (take-append-le w a rest (omega arith), drop-append-le w a rest (omega arith), numbers_append ws (drop w a) rest (omega arith))

be-take-zeros : (w n : ℕ) → be (take w (replicate n 0)) ≡ 0
unfolding be
be-take-zeros zero n = refl
be-take-zeros (suc w) zero = refl
be-take-zeros (suc w) (suc n) = rw (be-take-zeros w n) (omega arith)

pub numbers-zeros : (ws : List ℕ) (n : ℕ) → numbers ws (replicate n 0) ≡ replicate (length ws) 0
unfolding numbers
numbers-zeros [] n = refl
numbers-zeros (w ∷ ws) n = rw (be-take-zeros w n, drop-replicate {X = ℕ} w n 0, numbers-zeros ws (n - w))

-- ---- filled up

module _ {A : Type 0} where
  pub length-padded : (n : ℕ) (z : A) (xs : List A) → length (padded n z xs) ≡ n
  unfolding padded
  length-padded zero z xs = refl
  length-padded (suc n) z [] = ap suc (length-padded n z [])
  length-padded (suc n) z (x ∷ xs) = ap suc (length-padded n z xs)

  pub padded_append : (n : ℕ) (z : A) (xs : List A) → length xs ≤ n → padded n z xs ≡ xs ++ replicate (n - length xs) z
  unfolding padded
  padded_append zero z [] h = refl
  padded_append zero z (x ∷ xs) h = absurd (omega arith)
  padded_append (suc n) z [] h = rw (padded_append n z [] (omega arith), sub-zero, sub-zero)
  padded_append (suc n) z (x ∷ xs) h = rw (padded_append n z xs (omega arith), suc-sub-suc)

  pub take-padded : (n : ℕ) (z : A) (xs : List A) → length xs ≤ n → take (length xs) (padded n z xs) ≡ xs
  take-padded n z xs h = rw (padded_append n z xs h) (take_at xs (replicate (n - length xs) z) (length xs) refl)

  pub drop-padded : (n : ℕ) (z : A) (xs : List A) → length xs ≤ n → drop (length xs) (padded n z xs) ≡ replicate (n - length xs) z
  drop-padded n z xs h = rw (padded_append n z xs h) (drop_at xs (replicate (n - length xs) z) (length xs) refl)

-- What the judge's reads tell of the rules that they test: a free place by three wide reads, the emergency areas by their number, a head and a header by their parts.
-- Wide reads of zeros are joined by `zeros-run`; for the areas the definition computes once their number is known.
use mathlib.Core.Path.{◌≡◌, refl, sym, ap, ◌∙◌}
use mathlib.Core.Bool.{Bool, false, ◌&&◌, and_assoc, and-true, and-false}
use mathlib.Core.List.{List, [], ◌∷◌}
use Prim.Native.Nat.{ℕ, ◌+◌, ◌*◌, ◌/◌, ◌%◌, ◌≤◌, ◌<◌}
use native.Mathlib.Nat.{add-zero, mul-le-mul_right}
use native.Mathlib.Omega.{arith}
use borrow.Author.Tests.{ne_eqb, lt-leb}
use lib.Dec.{eqb, ltb}
use lib.ListN.{length, take, drop, length-drop}
use lib.Seq.{length-take-le, take_all}
use Rattle.octets.specs.Runs.{gets, Bytes}
use Rattle.octets.specs.Numbers.{be}
use Rattle.octets.specs.Fields.{offset, numbers, field_of}
use Rattle.octets.proofs.RunsLaws.{gets_eq, gets-gets}
use Rattle.octets.proofs.NumbersLaws.{be-gets_lt, be-run}
use Rattle.octets.proofs.FieldsLaws.{field_at}
use Rattle.rules.specs.Lists.{every, zeros, above, ascending}
use Rattle.rules.specs.Layout.{current, head_fields, identity_in_head, header_size, head_size, cell_end}
use Rattle.rules.specs.Table.{head_of, areas_used, all_areas, legal_head, is_free, cell_count, identity_at}
use Rattle.rules.proofs.ZerosLaws.{be-zero, zeros-run}
use Rattle.table_judge.specs.Judge.{legal_areas, legal_header}

-- ---- a free place

abbrev word : List ℕ → ℕ → ℕ
word l i = be (gets l i 4)

abbrev long : List ℕ → ℕ → ℕ
long l i = be (gets l i 8)

pub free-wide : (l : List ℕ) (i : ℕ) → eqb (long l i) 0 && eqb (long l (i + 8)) 0 && eqb (long l (i + 16)) 0 ≡ is_free (gets l i 24)
unfolding is_free
free-wide l i = simp be-zero (rw (zeros-run 8 8 l i (i + 8) refl, zeros-run 16 8 l i (i + 16) refl))

-- ---- the emergency areas, by their number

abbrev area : List ℕ → ℕ → ℕ
area l i = be (gets l i 3)

pub areas-at : (l : List ℕ) → length l ≡ head_size current → area l 12 ∷ area l 15 ∷ area l 18 ∷ area l 21 ∷ [] ≡ all_areas current l
unfolding offset field_of numbers
areas-at l whole =
    rw (
      ← field_at (head_fields current) 3 l (omega (arith, whole)),
      ← field_at (head_fields current) 4 l (omega (arith, whole)),
      ← field_at (head_fields current) 5 l (omega (arith, whole)),
      ← field_at (head_fields current) 6 l (omega (arith, whole)),
    )

-- all four are zero
pub areas-none : (l : List ℕ)
    → eqb (be (gets l 12 8)) 0 && eqb (word l 20) 0 ≡ legal_areas 0 (area l 12 ∷ area l 15 ∷ area l 18 ∷ area l 21 ∷ [])
unfolding legal_areas ascending zeros every
areas-none l = same_bytes ∙ simp (and-true, and_assoc)
  where
    same_bytes : eqb (be (gets l 12 8)) 0 && eqb (word l 20) 0 ≡ eqb (area l 12) 0 && eqb (area l 15) 0 && eqb (area l 18) 0 && eqb (area l 21) 0
    same_bytes = simp be-zero (rw (zeros-run 8 4 l 12 20 refl, zeros-run 3 3 l 12 15 refl, zeros-run 6 3 l 12 18 refl, zeros-run 9 3 l 12 21 refl))

-- all but the first are
behind-one : (l : List ℕ) → eqb (be (gets l 15 1)) 0 && eqb (be (gets l 16 8)) 0 ≡ eqb (area l 15) 0 && eqb (area l 18) 0 && eqb (area l 21) 0
behind-one l = simp be-zero (rw (zeros-run 1 8 l 15 16 refl, zeros-run 3 3 l 15 18 refl, zeros-run 6 3 l 15 21 refl))

-- the last two are
behind-two : (l : List ℕ) → eqb (be (gets l 18 2)) 0 && eqb (word l 20) 0 ≡ eqb (area l 18) 0 && eqb (area l 21) 0
behind-two l = simp be-zero (rw (zeros-run 2 4 l 18 20 refl, zeros-run 3 3 l 18 21 refl))

module _ (a b c d : ℕ) where
  one-used : eqb b 0 && eqb c 0 && eqb d 0 ≡ legal_areas 1 (a ∷ b ∷ c ∷ d ∷ [])
  unfolding legal_areas ascending above zeros every
  one-used = simp (and-true, and_assoc)

  two-used : ltb a b && eqb c 0 && eqb d 0 ≡ legal_areas 2 (a ∷ b ∷ c ∷ d ∷ [])
  unfolding legal_areas ascending above zeros every
  two-used = simp (and-true, and_assoc)

  pub areas-three : ltb a b && ltb b c && eqb d 0 ≡ legal_areas 3 (a ∷ b ∷ c ∷ d ∷ [])
  unfolding legal_areas ascending above zeros every
  areas-three = simp (and-true, and_assoc)

  pub areas-four : ltb a b && ltb b c && ltb c d ≡ legal_areas 4 (a ∷ b ∷ c ∷ d ∷ [])
  unfolding legal_areas ascending above zeros every
  areas-four = simp (and-true, and_assoc)

pub areas-one : (l : List ℕ) → eqb (be (gets l 15 1)) 0 && eqb (be (gets l 16 8)) 0 ≡ legal_areas 1 (area l 12 ∷ area l 15 ∷ area l 18 ∷ area l 21 ∷ [])
areas-one l = behind-one l ∙ one-used (area l 12) (area l 15) (area l 18) (area l 21)

pub areas-two : (l : List ℕ) → ltb (area l 12) (area l 15) && eqb (be (gets l 18 2)) 0 && eqb (word l 20) 0 ≡ legal_areas 2 (area l 12 ∷ area l 15 ∷ area l 18 ∷ area l 21 ∷ [])
areas-two l =
    let t = ltb (area l 12) (area l 15) in
    and_assoc t (eqb (be (gets l 18 2)) 0) (eqb (word l 20) 0)
    ∙ ap (λ (z : Bool). t && z) (behind-two l)
    ∙ sym (and_assoc t (eqb (area l 18) 0) (eqb (area l 21) 0))
    ∙ two-used (area l 12) (area l 15) (area l 18) (area l 21)

pub areas-more : (used : ℕ) (areas : List ℕ) → 4 < used → false ≡ legal_areas used areas
unfolding legal_areas
areas-more used areas h = rw (lt-leb used 4 h)

-- ---- three of four bytes

module _ (l : List ℕ) (bytes : Bytes l) (i : ℕ) {x : ℕ} (e : x ≡ be (gets l i 4)) where
  pub upper_three : x / 256 ≡ be (gets l i 3)
  upper_three = omega (arith, e, be-run 3 1 l i (i + 3) refl, be-gets_lt 1 (i + 3) l bytes)

  pub lower_three : x % 16777216 ≡ be (gets l (i + 1) 3)
  lower_three = omega (arith, e, be-run 1 3 l i (i + 1) refl, be-gets_lt 3 (i + 1) l bytes)

-- ---- a head, a header

pub head_parts : (b : List ℕ) → length b ≡ head_size current → ltb (identity_at current b) cell_end && legal_areas (areas_used current b) (all_areas current b) ≡ legal_head current b
unfolding legal_head legal_areas head_of
head_parts b long = rw (take_all (head_size current) b (omega arith)) (simp and_assoc)

-- what stands first in the head from an index on
pub identity-read : (l : List ℕ) (at : ℕ) → at + head_size current ≤ length l → be (gets l at 8) ≡ identity_at current (drop at l)
unfolding head_of offset
identity-read l at fits =
    let long : length (take (head_size current) (drop at l)) ≡ head_size current = length-take-le (head_size current) (drop at l) (rw length-drop (omega arith)) in
    let first = field_at (head_fields current) identity_in_head (take (head_size current) (drop at l)) (omega (arith, long)) in
    rw (first, ← gets_eq (head_size current) l at fits, gets-gets 8 (head_size current) l at 0 (omega arith), add-zero)

pub header-short : (size : ℕ) (t : List ℕ) → length t < header_size → false ≡ legal_header size t
unfolding legal_header
header-short size t h = rw (ne_eqb (length t) (header_size + size * cell_count t) (λ e. omega arith), and-false)

-- n cells of a bytes take no more than n of the largest
pub cells-most : {a k n x : ℕ} → n ≡ x → a ≤ k → a * n ≤ k * n
cells-most {n} e h = mul-le-mul_right n h

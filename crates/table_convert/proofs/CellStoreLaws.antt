-- What the converter stores of a cell is the widened cell, and what it reads of the periods is whether each is short.
-- The four places, written out, lie one behind the other, and stores one behind the other are one store.
use mathlib.Core.Path.{◌≡◌, refl, sym, ap, ◌∙◌}
use mathlib.Core.Bool.{Bool, true, false, ◌&&◌, and-true, and-false, and_assoc}
use mathlib.Core.List.{List, [], ◌∷◌, flat_map, append-nil}
use Prim.Native.Nat.{ℕ, zero, suc, ◌+◌, ◌-◌, ◌*◌, ◌≤◌, ◌<◌}
use native.Mathlib.Omega.{arith}
use lib.Dec.{leb}
use Rattle.std.proofs.lemmas.Bool.{le-leb, lt-leb, leb-true, leb-false}
use Rattle.std.specs.Bool.{MatchBool}
use Rattle.std.specs.List.{range_with_len, AllWithin, HoldsAt}
use borrow.Rule.Slice.PartMut.{put_mid}
use lib.ListN.{length, get_or, take, drop, length-drop, drop_of_length-le}
use lib.Seq.{sets, length-sets, length-take-le, take_at, drop-length}
use Rattle.octets.specs.Runs.{gets, pieces}
use Rattle.octets.specs.Numbers.{be}
use Rattle.octets.specs.Fields.{field_of}
use Rattle.octets.proofs.RunsLaws.{length-gets, gets-gets, sets-run, sets_front}
use Rattle.octets.proofs.PiecesLaws.{pieces-next, pieces_none}
use Rattle.rules.specs.Lists.{every}
use Rattle.rules.specs.Layout.{version1, current, period_in_place, place_fields, place_size, places_per_cell, head_size, cell_size, longest_period}
use Rattle.rules.specs.Table.{place_runs}
use Rattle.rules.proofs.TestLaws.{by_test}
use Rattle.table_convert.specs.Wide.{wide_place, wide_places, wide_cell, short_period, short_periods}
use Rattle.table_convert.proofs.WideLaws.{length-wide}
use Rattle.table_convert.proofs.WideCellLaws.{length-wide_places}
use Rattle.table_convert.proofs.StoreLaws.{period-at}

pub head-long : (cell : List ℕ) → length cell ≡ cell_size version1 → length (take (head_size version1) cell) ≡ head_size version1
head-long cell long = length-take-le (head_size version1) cell (omega arith)

-- the four places of a cell, written out
four-places : (cell : List ℕ) → length cell ≡ cell_size version1
    → place_runs version1 cell ≡ gets cell 24 20 ∷ gets cell 44 20 ∷ gets cell 64 20 ∷ gets cell 84 20 ∷ []
four-places cell long =
    rw (
      pieces-next 20 4 cell 24 (omega arith) (omega arith),
      pieces-next 20 3 cell 44 (omega arith) (omega arith),
      pieces-next 20 2 cell 64 (omega arith) (omega arith),
      pieces-next 20 1 cell 84 (omega arith) (omega arith),
      pieces_none 20 0 (drop 104 cell) (omega arith),
    )

-- the places widened one by one: wide is what k of them left
pub record PlacesLeft (wide₀ cell wide : List ℕ) (k : ℕ) : Type 0 where
  pub same : sets wide₀ 0 (wide_places cell) ≡ sets wide (place_size current * k) (flat_map wide_place (pieces (place_size version1) (places_per_cell - k) (drop (head_size version1 + place_size version1 * k) cell)))

pub places-start : (wide cell : List ℕ) → PlacesLeft wide cell wide 0
unfolding wide_places
places-start wide cell = record { same = refl }

pub places_on : {wide₀ cell wide : List ℕ} {k : ℕ} → PlacesLeft wide₀ cell wide k → k < places_per_cell → length cell ≡ cell_size version1
    → (new : List ℕ) → new ≡ sets wide (place_size current * k) (wide_place (gets cell (head_size version1 + place_size version1 * k) (place_size version1))) → PlacesLeft wide₀ cell new (k + 1)
unfolding flat_map
places_on {cell} {wide} {k} p more long new e =
    let from = head_size version1 + place_size version1 * k in
    let place = wide_place (gets cell from (place_size version1)) in
    let next : head_size version1 + place_size version1 * (k + 1) ≡ from + place_size version1 = omega arith in
    let fewer : places_per_cell - (k + 1) ≡ places_per_cell - k - 1 = omega arith in
    record {
      same = p.same ∙ rw (e, next, fewer, pieces-next (place_size version1) (places_per_cell - k) cell from (omega arith) (omega (arith, long)))
          (sym (sets-run place _ wide (place_size current * k) (place_size current * (k + 1)) (rw length-wide (omega arith))));
    }

pub places-end : {wide₀ cell wide : List ℕ} {k : ℕ} → PlacesLeft wide₀ cell wide k → places_per_cell ≤ k → length wide₀ ≡ place_size current * places_per_cell → wide ≡ wide_places cell
unfolding flat_map
places-end {wide₀} {cell} {wide} {k} p end room =
    let whole : length (wide_places cell) ≡ length wide₀ = length-wide_places cell ∙ sym room in
    let none = pieces_none (place_size version1) (places_per_cell - k) (drop (head_size version1 + place_size version1 * k) cell) (omega arith) in
    sym (sym (rw (sets_front wide₀ (wide_places cell) (omega arith), whole, drop-length wide₀) (append-nil (wide_places cell))) ∙ p.same ∙ rw none)

-- the head stored, and then what is behind it: a after the head, z what was lent after its places
pub cell_widened : (wide cell : List ℕ) → length wide ≡ cell_size current → length cell ≡ cell_size version1 → {a z : List ℕ} → a ≡ sets wide 0 (take (head_size version1) cell)
    → z ≡ wide_places cell → put_mid (head_size current) (length a - head_size current) a z ≡ wide_cell cell
unfolding wide_cell
cell_widened wide cell room long {a} {z} p q =
    let h = head-long cell long in
    let l : length a ≡ cell_size current = rw (p, length-sets) room in
    let head = take (head_size version1) cell in
    let front : take (head_size current) a ≡ head = rw (p, sets_front wide head (omega arith)) (take_at head (drop (length head) wide) (head_size current) h) in
    rw (front, q, drop_of_length-le (drop (head_size current) a) {i = length a - head_size current} (rw length-drop (omega arith)), append-nil)

-- ---- the periods

-- whether the period of place k is short
abbrev pub short_at : List ℕ → ℕ → Bool
short_at cell k = short_period (gets cell (head_size version1 + place_size version1 * k) (place_size version1))

-- what is read there, wherever the place begins
period-read : (cell : List ℕ) (i : ℕ) → be (gets cell (i + 8) 2) ≡ field_of (place_fields version1) period_in_place (gets cell i (place_size version1))
period-read cell i = sym (ap be (gets-gets 2 (place_size version1) cell i 8 (omega arith))) ∙ period-at (gets cell i (place_size version1)) (length-gets (place_size version1) cell i)

-- a test says it that holds within the limit and fails above it: by two bounds, so that the test may be spelled in another way
pub short-read : (cell : List ℕ) (k : ℕ) {a b : ℕ} → let period = be (gets cell (head_size version1 + place_size version1 * k + 8) 2) in
    (a ≤ b → period ≤ (longest_period version1).0) → (b < a → (longest_period version1).0 < period) → leb a b ≡ short_at cell k
unfolding short_period
short-read cell k {a} {b} low high =
    rw (← period-read cell (head_size version1 + place_size version1 * k))
    (by_test (leb a b) (λ t. t ∙ sym (le-leb _ (longest_period version1).0 (low (leb-true a b t)))) (λ f. f ∙ sym (lt-leb _ (longest_period version1).0 (high (leb-false a b f)))))

pub each-period : (cell : List ℕ) → length cell ≡ cell_size version1 → short_at cell 0 && short_at cell 1 && short_at cell 2 && short_at cell 3 ≡ short_periods cell
unfolding short_periods every
each-period cell long = rw (four-places cell long) (simp (and-true, and_assoc))

pub periods : (cell : List ℕ) → length cell ≡ cell_size version1 → (r : Bool) → MatchBool r (AllWithin (λ k. short_at cell k ≡ true) (range_with_len 0 4) 0 4) ((k : ℕ) × (k < 4) × HoldsAt (λ k. short_at cell k ≡ false) (range_with_len 0 4) k)
    → r ≡ short_periods cell
periods cell long true m =
    let short : (k : ℕ) → k < 4 → short_at cell (get_or (range_with_len 0 4) k 0) ≡ true = λ k h. m k 0 (omega arith) h in
    sym (sym (each-period cell long) ∙ rw (short 0 (omega arith), short 1 (omega arith), short 2 (omega arith), short 3 (omega arith)))
periods cell long false (k, h, long_one) = sym (sym (each-period cell long) ∙ not_all k h (long_one 0))
  where
    not_all : (k : ℕ) → k < 4 → short_at cell (get_or (range_with_len 0 4) k 0) ≡ false → short_at cell 0 && short_at cell 1 && short_at cell 2 && short_at cell 3 ≡ false
    not_all zero h e = rw e
    not_all (suc zero) h e = rw e (simp and-false)
    not_all (suc (suc zero)) h e = rw e (simp and-false)
    not_all (suc (suc (suc zero))) h e = rw e (simp and-false)
    not_all (suc (suc (suc (suc k)))) h e = absurd (omega arith)

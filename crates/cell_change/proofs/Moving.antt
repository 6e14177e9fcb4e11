-- A place less: what is behind it moves down, a place a turn, and the last becomes free.
-- What is still to be moved is the invariant; with no run left behind the hole, it is the cell without the place.
use mathlib.Core.Path.{◌≡◌, refl, sym, ap, ◌∙◌}
use mathlib.Core.List.{List, [], ◌∷◌, ◌++◌, map, map-append, append_assoc, append-nil}
use Prim.Native.Nat.{ℕ, suc, ◌+◌, ◌-◌, ◌<◌, ◌≤◌}
use native.Mathlib.Numerals.{add-one}
use native.Mathlib.Omega.{arith}
use borrow.Rule.Slice.PartMut.{put_mid}
use lib.ListN.{length, take, drop, length-append, length-map, length-drop, take-append-drop, drop_of_length-le}
use lib.Seq.{paste, length-paste, length-take-le, take_at, drop_at, drop-drop}
use Rattle.octets.proofs.FieldsLaws.{length-padded}
use Rattle.rules.specs.Layout.{current, head_size, place_size, places_per_cell, cell_size}
use Rattle.rules.specs.Table.{place_bytes, free_bytes}
use Rattle.rules.specs.declared.Place.{Place}
use Rattle.rules.proofs.JoinedLaws.{joined_less}
use Rattle.rules.proofs.MapLaws.{map-take, map-drop}
use Rattle.rules.proofs.PaddedLaws.{padded_less}
use Rattle.rules.proofs.PlacesCodec.{runs_of}
use Rattle.cell_read.specs.Places.{live_places, with_places, LiveAt, without, place_from}
use Rattle.cell_read.proofs.PlacesLaws.{head-long, live-few}
use Rattle.cell_read.proofs.PlaceBytesLaws.{wide_runs, with_places-runs}

module _ (c : List ℕ) (k : ℕ) (at : LiveAt c k) where
  less_runs : take k (runs_of current (live_places c)) ++ (drop (suc k) (runs_of current (live_places c)) ++ (free_bytes current ∷ [])) ≡ runs_of current (without k (live_places c))
  unfolding without
  less_runs =
      let ps : List Place = live_places c in
      let m : length (map (place_bytes current) ps) ≡ length ps = length-map ps (place_bytes current) in
      let few : length ps ≤ places_per_cell = live-few c in
      let live = at.live in
      rw (add-one k, map-append (place_bytes current) (take k ps) (drop (suc k) ps), map-take (place_bytes current) k ps, map-drop (place_bytes current) (suc k) ps)
      (padded_less (free_bytes current) places_per_cell k (map (place_bytes current) ps) (omega arith) (omega arith))

  dropped : take (place_from k) c ++ (drop (place_from k + place_size current) c ++ free_bytes current) ≡ with_places c (without k (live_places c))
  dropped =
      let ps : List Place = live_places c in
      let n : length (runs_of current ps) ≡ places_per_cell = length-padded places_per_cell (free_bytes current) (map (place_bytes current) ps) in
      let few = at.few in
      ap (λ (l : List ℕ). take (place_from k) l ++ (drop (place_from k + place_size current) l ++ free_bytes current)) (at.formed.whole ∙ with_places-runs c ps)
      ∙ joined_less (place_size current) (wide_runs ps) (take (head_size current) c) (free_bytes current) (head_size current) k (place_from k) (head-long c at.formed.size) (omega arith) refl
      ∙ rw less_runs (sym (with_places-runs c (without k ps)))

-- what is behind a place moves down, a place a turn: with c as it is now, what is still to be done
pub record Moving (goal c : List ℕ) (to : ℕ) : Type 0 where
  pub size : length c ≡ cell_size current
  pub few : to < places_per_cell
  pub left : goal ≡ take (place_from to) c ++ (drop (place_from to + place_size current) c ++ free_bytes current)

pub move_starts : (c : List ℕ) (k : ℕ) → LiveAt c k → Moving (with_places c (without k (live_places c))) c k
move_starts c k at = record { size = at.formed.size; few = at.few; left = sym (dropped c k at) }

module _ {goal c : List ℕ} {to : ℕ} (m : Moving goal c to) where
  pub move_step : to < places_per_cell - 1 → (n : ℕ) → n ≡ place_size current → (c' : List ℕ) → c' ≡ paste c (place_from to) (drop (place_from to + place_size current) c) n
      → Moving goal c' (to + 1)
  move_step h n en c' e =
      let at : ℕ = place_from to in
      let end : ℕ = at + place_size current in
      let size = m.size in
      let vs : List ℕ = take (place_size current) (drop end c) in
      let lb : length (drop end c) ≡ cell_size current - end = length-drop end c ∙ omega arith in
      let lv : length vs ≡ place_size current = length-take-le (place_size current) (drop end c) (omega arith) in
      let lt : length (take at c) ≡ at = length-take-le at c (omega arith) in
      let lh : length (take at c ++ vs) ≡ end = rw length-append (omega arith) in
      let es : c' ≡ (take at c ++ vs) ++ drop end c = rw en at e in
      let next : place_from (to + 1) ≡ end = omega arith in
      let t : take end c' ≡ take at c ++ vs = rw es (take_at (take at c ++ vs) (drop end c) end lh) in
      let behind : drop end c' ≡ drop end c = ap (drop end) es ∙ drop_at (take at c ++ vs) (drop end c) end lh in
      let d : drop (end + place_size current) c' ≡ drop (place_size current) (drop end c) = sym (drop-drop (place_size current) end c') ∙ ap (drop (place_size current)) behind in
      let w : vs ++ drop (place_size current) (drop end c) ≡ drop end c = take-append-drop (place_size current) (drop end c) in
      record {
        size = ap length e ∙ length-paste c at (drop end c) n (omega arith) (omega arith) ∙ m.size;
        few = omega arith;
        left = m.left ∙ ap (λ (l : List ℕ). take at c ++ (l ++ free_bytes current)) (sym w) ∙ rw (next, t, d) (simp append_assoc);
      }

  -- z is stored over the last place
  pub move_ends : places_per_cell - 1 ≤ to → (z : List ℕ) → z ≡ free_bytes current → put_mid (cell_size current - place_size current) (place_size current) c z ≡ goal
  move_ends h z ez =
      let size = m.size in
      let few = m.few in
      let last : ℕ = place_from (places_per_cell - 1) in
      let t : to ≡ places_per_cell - 1 = omega arith in
      let n : drop (cell_size current) c ≡ [] = drop_of_length-le c {i = cell_size current} (omega arith) in
      let none : drop (place_size current) (drop last c) ≡ [] = drop-drop (place_size current) last c ∙ n in
      let q : goal ≡ take last c ++ (drop (cell_size current) c ++ free_bytes current) = rw t at m.left in
      rw (none, ez, append-nil (free_bytes current)) (sym (rw n at q))

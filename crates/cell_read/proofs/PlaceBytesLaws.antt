-- The bytes of place k of a formed cell: those of live place k, or zeros.
-- Behind the head stand the runs of the live places and then free ones, each as long as a place.
use mathlib.Core.Path.{◌≡◌, refl, ap, ◌∙◌}
use mathlib.Core.List.{List, [], ◌++◌, map}
use Prim.Native.Nat.{ℕ, ◌+◌, ◌<◌, ◌≤◌}
use native.Mathlib.Omega.{arith}
use lib.ListN.{length, get_or, take, length-map}
use Rattle.octets.specs.Runs.{gets}
use Rattle.octets.proofs.FieldsLaws.{length-padded}
use Rattle.rules.specs.Layout.{current, head_size, place_size, places_per_cell}
use Rattle.rules.specs.Table.{place_bytes, free_bytes, places_bytes}
use Rattle.rules.specs.declared.Place.{Place}
use Rattle.rules.proofs.AllLaws.{all_of, all_map, all_padded}
use Rattle.rules.proofs.JoinedLaws.{joined, Wide, joined-gets}
use Rattle.rules.proofs.MapLaws.{get_or-map_lem}
use Rattle.rules.proofs.PaddedLaws.{get_or-padded, get_or-spare}
use Rattle.rules.proofs.PlaceCodec.{length-place_bytes}
use Rattle.rules.proofs.PlacesCodec.{runs_of}
use Rattle.cell_read.specs.Places.{live_places, with_places, Formed, no_place, place_at, LiveAt, place_from}
use Rattle.cell_read.proofs.PlacesLaws.{head-long}

pub wide_runs : (ps : List Place) → Wide (place_size current) (runs_of current ps)
wide_runs ps =
    all_padded places_per_cell (free_bytes current) refl (all_map (λ b. length b ≡ place_size current) (place_bytes current) (all_of (length-place_bytes current) ps))

-- behind the head stand the runs
pub with_places-runs : (c : List ℕ) (ps : List Place) → with_places c ps ≡ take (head_size current) c ++ joined (runs_of current ps)
unfolding with_places places_bytes
with_places-runs c ps = refl

pub live-run : (c : List ℕ) (k : ℕ) → LiveAt c k → get_or (runs_of current (live_places c)) k [] ≡ place_bytes current (place_at c k)
unfolding place_at
live-run c k at =
    let n : length (map (place_bytes current) (live_places c)) ≡ length (live_places c) = length-map (live_places c) (place_bytes current) in
    let live = at.live in
    get_or-padded (free_bytes current) places_per_cell k (map (place_bytes current) (live_places c)) [] (omega arith) at.few
    ∙ get_or-map_lem (place_bytes current) (live_places c) k no_place [] at.live

pub free-run : (c : List ℕ) (k : ℕ) → length (live_places c) ≤ k → k < places_per_cell → get_or (runs_of current (live_places c)) k [] ≡ free_bytes current
free-run c k h room =
    let n : length (map (place_bytes current) (live_places c)) ≡ length (live_places c) = length-map (live_places c) (place_bytes current) in
    get_or-spare (free_bytes current) places_per_cell k (map (place_bytes current) (live_places c)) [] (omega arith) room

-- read in place k, from its byte j on
run-gets : (c : List ℕ) → Formed c → (k j m : ℕ) → k < places_per_cell → j + m ≤ place_size current
    → gets c (place_from k + j) m ≡ gets (get_or (runs_of current (live_places c)) k []) j m
run-gets c formed k j m room fits_in_lem =
    let n : length (runs_of current (live_places c)) ≡ places_per_cell = length-padded places_per_cell (free_bytes current) (map (place_bytes current) (live_places c)) in
    ap (λ (l : List ℕ). gets l (place_from k + j) m) (formed.whole ∙ with_places-runs c (live_places c))
    ∙ joined-gets (place_size current) (wide_runs (live_places c)) (take (head_size current) c) (head_size current) k j m (place_from k + j) (head-long c formed.size) (omega arith) fits_in_lem refl

pub live-gets : (c : List ℕ) (k : ℕ) → LiveAt c k → (j m : ℕ) → j + m ≤ place_size current → gets c (place_from k + j) m ≡ gets (place_bytes current (place_at c k)) j m
live-gets c k at j m fits_in_lem = run-gets c at.formed k j m at.few fits_in_lem ∙ ap (λ (l : List ℕ). gets l j m) (live-run c k at)

pub free-gets : (c : List ℕ) → Formed c → (k : ℕ) → length (live_places c) ≤ k → k < places_per_cell → (j m : ℕ) → j + m ≤ place_size current
    → gets c (place_from k + j) m ≡ gets (free_bytes current) j m
free-gets c formed k h room j m fits_in_lem = run-gets c formed k j m room fits_in_lem ∙ ap (λ (l : List ℕ). gets l j m) (free-run c k h room)

-- A cell with other places: what it says, that it is formed, its head and its length; and its live places: how many, that they fit.
-- By the codec's laws for places.
use mathlib.Core.Path.{◌≡◌, refl, sym, ap, ◌∙◌}
use mathlib.Core.Bool.{Bool, true, false, cond}
use mathlib.Core.List.{List, [], ◌∷◌, ◌++◌}
use Prim.Native.Nat.{ℕ, suc, ◌*◌, ◌^◌, ◌<◌, ◌≤◌}
use native.Mathlib.Omega.{arith}
use lib.ListN.{length, take, drop, set, length-append, length-drop, take-append-drop}
use lib.Seq.{length-take-le, take_at, drop_at}
use Rattle.octets.specs.Runs.{Bytes}
use Rattle.octets.specs.Fields.{size, numbers, field_of}
use Rattle.octets.proofs.RunsLaws.{bytes_take}
use Rattle.octets.proofs.PiecesLaws.{length-pieces, pieces_flat}
use Rattle.octets.proofs.FieldsLaws.{fit-numbers}
use Rattle.octets.proofs.PartsLaws.{fit-set}
use Rattle.rules.specs.Layout.{current, place_fields, sent_in_place, wait_in_place, head_size, place_size, places_per_cell, cell_size}
use Rattle.rules.specs.Table.{head_of, legal_head, place_of, place_numbers, is_free, live_first, places_of, place_runs, places_bytes, cell_bytes, legal_cell}
use Rattle.rules.specs.InCell.{with_counts}
use Rattle.rules.specs.declared.Seconds.{Seconds}
use Rattle.rules.specs.declared.Broadcasts.{Broadcasts}
use Rattle.rules.specs.declared.Place.{Place}
use Rattle.rules.proofs.AllLaws.{All, none, more, all_at}
use Rattle.rules.proofs.FitLaws.{Fit-fits, fits-Fit}
use Rattle.rules.proofs.HeadCodec.{head-back}
use Rattle.rules.proofs.PlaceCodec.{FitPlace}
use Rattle.rules.proofs.PlacesCodec.{PlaceRun, length-places_bytes, runs_of_places, places-padded, places-back, legal-places}
use Rattle.rules.proofs.CellCodec.{legal-cell, cell-runs}
use Rattle.cell_read.specs.Places.{live_places, with_places, Formed, no_place, place_at, LiveAt}

-- ---- the parts of a cell

pub head-long : (c : List ℕ) → length c ≡ cell_size current → length (take (head_size current) c) ≡ (head_size current)
head-long c long = length-take-le (head_size current) c (omega arith)

module _ (c : List ℕ) (long : length c ≡ cell_size current) (ps : List Place) where
  length-with_places : length (with_places c ps) ≡ cell_size current
  unfolding with_places
  length-with_places = rw (length-append, head-long c long, length-places_bytes current ps)

  pub head-with_places : take (head_size current) (with_places c ps) ≡ take (head_size current) c
  unfolding with_places
  head-with_places = take_at (take (head_size current) c) (places_bytes current ps) (head_size current) (head-long c long)

  behind-with_places : drop (head_size current) (with_places c ps) ≡ places_bytes current ps
  unfolding with_places
  behind-with_places = drop_at (take (head_size current) c) (places_bytes current ps) (head_size current) (head-long c long)

  -- places over places
  pub with_places-again : (qs : List Place) → with_places (with_places c ps) qs ≡ with_places c qs
  unfolding with_places
  with_places-again qs = ap (λ (l : List ℕ). l ++ places_bytes current qs) (take_at (take (head_size current) c) (places_bytes current ps) (head_size current) (head-long c long))

  module _ (fit : All (FitPlace current) ps) (few : length ps ≤ places_per_cell) where
    pub with_places-live : live_places (with_places c ps) ≡ ps
    with_places-live = rw (behind-with_places, runs_of_places current ps) (places-padded current places_per_cell few fit)

    pub with_places-formed : Formed (with_places c ps)
    with_places-formed =
        record {
          size = length-with_places;
          whole = sym (ap (with_places (with_places c ps)) with_places-live ∙ with_places-again ps);
        }

-- the cell that its head and these places make
pub with_places-cell : (c : List ℕ) → Bytes c → length c ≡ cell_size current → legal_head current (take (head_size current) c) ≡ true → (ps : List Place)
    → with_places c ps ≡ cell_bytes current (record { head = head_of current (take (head_size current) c); places = ps })
unfolding with_places cell_bytes
with_places-cell c bytes long legal ps = rw (head-back current (take (head_size current) c) (bytes_take (head_size current) c bytes) (head-long c long) legal)

-- ---- the live places

few-places : (bs : List (List ℕ)) → length (places_of current bs) ≤ length bs
unfolding places_of
few-places [] = omega arith
few-places (b ∷ bs) = go (is_free b) (few-places bs)
  where
    go : (f : Bool) → length (places_of current bs) ≤ length bs → length (cond f [] (place_of current b ∷ places_of current bs)) ≤ suc (length bs)
    go true h = omega arith
    go false h = omega arith

pub live-few : (c : List ℕ) → length (live_places c) ≤ places_per_cell
live-few c = rw length-pieces at (few-places (place_runs current c))

-- the numbers of a place are those that its bytes say, with the mark of a live one
marked : (b : List ℕ) → place_numbers (place_of current b) ≡ set (set (numbers (place_fields current) b) 8 1) 9 0
unfolding place_numbers place_of numbers field_of
marked b = refl

-- whatever bytes say fits the fields
fit-place : (b : List ℕ) → Bytes b → length b ≡ place_size current → FitPlace current (place_of current b)
unfolding size
fit-place b bytes long =
    let f = fit-numbers (place_fields current) b bytes (omega arith) in
    Fit-fits (place_fields current) (place_numbers (place_of current b)) (rw (marked b) (fit-set (fit-set f 8 1 (omega arith)) 9 0 (omega arith)))

fit-places : {bs : List (List ℕ)} → All (PlaceRun current) bs → All (FitPlace current) (places_of current bs)
unfolding places_of
fit-places none = none
fit-places (more {x = b} {xs = bs} r rs) = go (is_free b) (fit-places rs)
  where
    go : (f : Bool) → All (FitPlace current) (places_of current bs) → All (FitPlace current) (cond f [] (place_of current b ∷ places_of current bs))
    go true fs = none
    go false fs = more (fit-place b r.0 r.1) fs

pub live-fit : (c : List ℕ) → Bytes c → length c ≡ cell_size current → All (FitPlace current) (live_places c)
live-fit c bytes long = fit-places (cell-runs current c bytes long)

-- live places first are all that a cell needs to be formed
formed-first : (c : List ℕ) → Bytes c → length c ≡ cell_size current → live_first current (place_runs current c) ≡ true → Formed c
unfolding with_places
formed-first c bytes long first =
    let behind : length (drop (head_size current) c) ≡ place_size current * places_per_cell = rw (length-drop, long) in
    let back = places-back current (place_runs current c) (cell-runs current c bytes long) (length-pieces (place_size current) places_per_cell (drop (head_size current) c)) first in
    record {
      size = long;
      whole = sym (rw (back, pieces_flat (place_size current) places_per_cell (drop (head_size current) c) behind) (take-append-drop (head_size current) c));
    }

pub formed-legal : (c : List ℕ) → Bytes c → length c ≡ cell_size current → legal_cell current c ≡ true → Formed c
formed-legal c bytes long legal =
    formed-first c bytes long (legal-places current (place_runs current c) (legal-cell current c legal).1).first

pub live_at : (c : List ℕ) → Formed c → (k : ℕ) → k < length (live_places c) → LiveAt c k
live_at c formed k live = record { formed = formed; live = live; few = omega (arith, live-few c) }

-- ---- places that fit

pub fit_at : (c : List ℕ) → Bytes c → (k : ℕ) → LiveAt c k → FitPlace current (place_at c k)
unfolding place_at
fit_at c bytes k at = all_at (live-fit c bytes at.formed.size) k no_place at.live

pub counted : (p : Place) (sent : Broadcasts) (wait : Seconds) → place_numbers (with_counts p sent wait) ≡ set (set (place_numbers p) sent_in_place sent.0) wait_in_place wait.0
unfolding place_numbers with_counts
counted p sent wait = refl

pub fit-counts : (p : Place) → FitPlace current p → (sent : Broadcasts) (wait : Seconds) → sent.0 < 256 ^ 2 → wait.0 < 256 ^ 4 → FitPlace current (with_counts p sent wait)
fit-counts p fit sent wait s w =
    Fit-fits (place_fields current) (place_numbers (with_counts p sent wait))
    (rw (counted p sent wait) (fit-set (fit-set (fits-Fit (place_fields current) (place_numbers p) fit) sent_in_place sent.0 s) wait_in_place wait.0 w))

-- A version 1 cell and the widened one say the same cell; it is legal by version 1 if its periods are short and the widened one is legal; and then the widened bytes are the current ones of that cell.
-- Place by place by WideLaws; of version 1's rules only the longest period differs, and a free place has period 0.
use mathlib.Core.Path.{◌≡◌, refl, sym, ◌∙◌}
use mathlib.Core.Bool.{Bool, true, false, ◌&&◌, and-false, and_assoc}
use mathlib.Core.List.{List, [], map, append-nil}
use Prim.Native.Nat.{ℕ, ◌*◌}
use native.Mathlib.Omega.{arith}
use borrow.Author.Tests.{leb-true, le-leb}
use lib.Dec.{leb}
use lib.ListN.{length, take, drop, length-append}
use lib.Seq.{take_at, drop_at, length-take-le}
use Rattle.octets.specs.Runs.{Bytes, pieces}
use Rattle.octets.specs.Fields.{field_of}
use Rattle.octets.proofs.RunsLaws.{bytes_take, bytes_append}
use Rattle.octets.proofs.PiecesLaws.{pieces-flat_map, length-flat_map, length-pieces}
use Rattle.octets.proofs.FieldsLaws.{numbers-zeros}
use Rattle.rules.specs.Lists.{every}
use Rattle.rules.specs.Layout.{version1, current, place_fields, place_size, places_per_cell, head_size, cell_size, longest_period}
use Rattle.rules.specs.Table.{place_of, is_free, live_first, places_of, legal_place, legal_head, legal_places, place_runs, cell_of, cell_bytes, legal_cell}
use Rattle.rules.specs.declared.Place.{Place}
use Rattle.rules.proofs.ListsLaws.{zeros-replicate}
use Rattle.rules.proofs.TestLaws.{both, by_test}
use Rattle.rules.proofs.AllLaws.{All, none, more, all_imply, bytes-flat_map_all}
use Rattle.rules.proofs.PlacesCodec.{PlaceRun, LiveFirst, live-first, free, live}
use Rattle.rules.proofs.CellCodec.{cell-runs, cell-back}
use Rattle.table_convert.specs.Wide.{wide_place, wide_places, wide_cell, short_period, short_periods}
use Rattle.table_convert.proofs.WideLaws.{same_head, same-legal, length-wide, bytes-wide, place-wide, live-wide, free-wide}

-- ---- the places of a cell

places-wide : {bs : List (List ℕ)} → All (PlaceRun version1) bs → places_of current (map wide_place bs) ≡ places_of version1 bs
unfolding places_of
places-wide none = refl
places-wide (more {x = b} r rs) = rw (free-wide b r, place-wide b r, places-wide rs)

all_free-wide : {bs : List (List ℕ)} → All (PlaceRun version1) bs → every is_free (map wide_place bs) ≡ every is_free bs
unfolding every
all_free-wide none = refl
all_free-wide (more {x = b} r rs) = rw (free-wide b r, all_free-wide rs)

first-wide : {bs : List (List ℕ)} → All (PlaceRun version1) bs → live_first current (map wide_place bs) ≡ live_first version1 bs
unfolding live_first
first-wide none = refl
first-wide (more {x = b} r rs) = rw (free-wide b r, live-wide b r, all_free-wide rs, first-wide rs)

-- ---- version 1's rules of a place

short-legal : (p : Place) → legal_place version1 p ≡ leb p.period.0 (longest_period version1).0 && legal_place current p
unfolding legal_place
short-legal p =
    by_test (leb p.period.0 (longest_period version1).0)
    (λ e. rw (e, le-leb p.period.0 (longest_period current).0 (omega (arith, leb-true p.period.0 (longest_period version1).0 e))))
    (λ e. rw e)

free-short : {bs : List (List ℕ)} → All (λ b. is_free b ≡ true) bs → every short_period bs ≡ true
unfolding every short_period field_of is_free
free-short none = refl
free-short (more {x = b} f fs) = rw (zeros-replicate b f, numbers-zeros (place_fields version1) (length b), free-short fs)

regroup : (a b c d : Bool) → (a && b) && (c && d) ≡ (a && c) && (b && d)
regroup false b c d = refl
regroup true true c d = refl
regroup true false c d = sym (and-false c)

each_legal : {bs : List (List ℕ)} {ps : List Place} → LiveFirst version1 bs ps → every (legal_place version1) ps ≡ every short_period bs && every (legal_place current) ps
unfolding every short_period place_of
each_legal (free fs) = rw (free-short fs)
each_legal (live {b} {bs} {ps} i l) =
    rw (short-legal (place_of version1 b), each_legal l)
    (regroup (short_period b) (legal_place current (place_of version1 b)) (every short_period bs) (every (legal_place current) ps))

legal-places-wide : {bs : List (List ℕ)} → All (PlaceRun version1) bs → legal_places version1 bs ≡ every short_period bs && legal_places current (map wide_place bs)
unfolding legal_places
legal-places-wide {bs} rs =
    rw (first-wide rs, places-wide rs)
    (by_test (live_first version1 bs)
    (λ e. rw (e, each_legal (live-first version1 bs e)) (and_assoc (every short_period bs) _ _))
    (λ e. rw (e, and-false)))

-- ---- a cell

pub length-wide_places : (c : List ℕ) → length (wide_places c) ≡ place_size current * places_per_cell
unfolding wide_places
length-wide_places c =
    rw (length-flat_map (place_size current) wide_place (place_runs version1 c) length-wide, length-pieces (place_size version1) places_per_cell (drop (head_size version1) c))

pub length-wide_cell : (c : List ℕ) → length c ≡ cell_size version1 → length (wide_cell c) ≡ cell_size current
unfolding wide_cell
length-wide_cell c long = rw (length-append, length-take-le (head_size version1) c (omega arith), length-wide_places c)

module _ (c : List ℕ) (bytes : Bytes c) (long : length c ≡ cell_size version1) where
  runs : All (PlaceRun version1) (place_runs version1 c)
  runs = cell-runs version1 c bytes long

  front : length (take (head_size version1) c) ≡ head_size version1
  front = length-take-le (head_size version1) c (omega arith)

  -- what a judge of the widened places is asked
  runs_wide : pieces (place_size current) places_per_cell (wide_places c) ≡ map wide_place (place_runs version1 c)
  unfolding wide_places
  runs_wide =
      let n : length (place_runs version1 c) ≡ places_per_cell = length-pieces (place_size version1) places_per_cell (drop (head_size version1) c) in
      rw (append-nil, n) at (pieces-flat_map (place_size current) wide_place (place_runs version1 c) length-wide [])

  pub legal-wide : legal_head current (take (head_size version1) c) && short_periods c && legal_places current (pieces (place_size current) places_per_cell (wide_places c)) ≡ legal_cell version1 c
  unfolding legal_cell short_periods
  legal-wide =
      rw (same-legal (take (head_size version1) c), runs_wide, legal-places-wide runs)
      (and_assoc (legal_head version1 (take (head_size version1) c)) (every short_period (place_runs version1 c)) (legal_places current (map wide_place (place_runs version1 c))))

  -- ---- its bytes

  head-wide : take (head_size current) (wide_cell c) ≡ take (head_size version1) c
  unfolding wide_cell
  head-wide = take_at (take (head_size version1) c) (wide_places c) (head_size current) front

  behind-wide : drop (head_size current) (wide_cell c) ≡ wide_places c
  unfolding wide_cell
  behind-wide = drop_at (take (head_size version1) c) (wide_places c) (head_size current) front

  cell-wide : cell_of current (wide_cell c) ≡ cell_of version1 c
  unfolding cell_of
  cell-wide = rw (head-wide, same_head (take (head_size version1) c), behind-wide, runs_wide, places-wide runs)

  bytes-wide_cell : Bytes (wide_cell c)
  unfolding wide_cell wide_places
  bytes-wide_cell = bytes_append (take (head_size version1) c) _ (bytes_take (head_size version1) c bytes) (bytes-flat_map_all wide_place (all_imply bytes-wide runs))

  -- what is legal by version 1 is legal by the current rules
  wide-legal : legal_cell version1 c ≡ true → legal_cell current (wide_cell c) ≡ true
  unfolding legal_cell
  wide-legal e =
      let l = both (legal_head current (take (head_size version1) c) && short_periods c) _ (legal-wide ∙ e) in
      rw (head-wide, behind-wide, (both (legal_head current (take (head_size version1) c)) (short_periods c) l.0).0) l.1

  -- what the current layout has for the cell that version 1 reads
  pub wide-bytes : legal_cell version1 c ≡ true → cell_bytes current (cell_of version1 c) ≡ wide_cell c
  wide-bytes e = rw (← cell-wide) (cell-back current (wide_cell c) bytes-wide_cell (length-wide_cell c long) (wide-legal e))

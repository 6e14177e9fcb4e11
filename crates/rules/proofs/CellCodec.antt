-- A cell and its bytes are each other's inverse, where the bytes are legal and where the cell is sound; and legal bytes say a sound cell, whose bytes are legal.
-- By the laws of its head and of its places, which stand one behind the other.
use mathlib.Core.Path.{◌≡◌}
use mathlib.Core.Bool.{true}
use mathlib.Core.List.{List}
use Prim.Native.Nat.{ℕ, ◌*◌}
use native.Mathlib.Omega.{arith}
use lib.ListN.{length, take, drop, length-append, length-drop, take-append-drop}
use lib.Seq.{length-take-le, take_at, drop_at}
use Rattle.octets.specs.Runs.{Bytes}
use Rattle.octets.proofs.RunsLaws.{bytes_take, bytes_drop, bytes_append}
use Rattle.octets.proofs.PiecesLaws.{length-pieces, pieces_flat}
use Rattle.rules.specs.Layout.{Version, head_size, place_size, places_per_cell, cell_size}
use Rattle.rules.specs.Table.{Cell, head_bytes, legal_head, legal_places, place_runs, cell_of, places_bytes, cell_bytes, legal_cell}
use Rattle.rules.specs.Sound.{sound_head, sound_places, sound_cell}
use Rattle.rules.proofs.TestLaws.{both, and-true}
use Rattle.rules.proofs.AllLaws.{All, all_pieces}
use Rattle.rules.proofs.HeadCodec.{head-back, head-sound, length-head_bytes, head-again, head_legal_lem, bytes-head_bytes}
use Rattle.rules.proofs.PlacesCodec.{PlaceRun, legal-places, places-back, places-sound, length-places_bytes, places-again, places_legal_lem, bytes-places_bytes}

module _ (v : Version) where
  -- ---- from bytes

  pub legal-cell : (c : List ℕ) → legal_cell v c ≡ true → (legal_head v (take (head_size v) c) ≡ true) × (legal_places v (place_runs v c) ≡ true)
  unfolding legal_cell
  legal-cell c e = both (legal_head v (take (head_size v) c)) (legal_places v (place_runs v c)) e

  module _ (c : List ℕ) (bytes : Bytes c) (long : length c ≡ cell_size v) where
    front : length (take (head_size v) c) ≡ head_size v
    front = length-take-le (head_size v) c (omega arith)

    behind : length (drop (head_size v) c) ≡ place_size v * places_per_cell
    behind = rw (length-drop, long) (omega arith)

    pub cell-runs : All (PlaceRun v) (place_runs v c)
    cell-runs = all_pieces (place_size v) places_per_cell (drop (head_size v) c) (bytes_drop (head_size v) c bytes) (omega (arith, behind))

    pub cell-back : legal_cell v c ≡ true → cell_bytes v (cell_of v c) ≡ c
    unfolding cell_bytes cell_of
    cell-back e =
        let l = legal-cell c e in
        let h = head-back v (take (head_size v) c) (bytes_take (head_size v) c bytes) front l.0 in
        let p = places-back v (place_runs v c) cell-runs (length-pieces (place_size v) places_per_cell (drop (head_size v) c)) (legal-places v (place_runs v c) l.1).first in
        rw (h, p, pieces_flat (place_size v) places_per_cell (drop (head_size v) c) behind) (take-append-drop (head_size v) c)

    pub cell-sound : legal_cell v c ≡ true → sound_cell v (cell_of v c) ≡ true
    unfolding sound_cell cell_of
    cell-sound e =
        let l = legal-cell c e in
        and-true _ _ (head-sound v (take (head_size v) c) (bytes_take (head_size v) c bytes) front l.0)
        (places-sound v (place_runs v c) cell-runs (length-pieces (place_size v) places_per_cell (drop (head_size v) c)) l.1)

  -- ---- to bytes

  pub length-cell_bytes : (c : Cell) → length (cell_bytes v c) ≡ cell_size v
  unfolding cell_bytes
  length-cell_bytes c = rw (length-append, length-head_bytes v c.head, length-places_bytes v c.places)

  pub head_of-cell_bytes : (c : Cell) → take (head_size v) (cell_bytes v c) ≡ head_bytes v c.head
  unfolding cell_bytes
  head_of-cell_bytes c = take_at (head_bytes v c.head) (places_bytes v c.places) (head_size v) (length-head_bytes v c.head)

  places_of-cell_bytes : (c : Cell) → drop (head_size v) (cell_bytes v c) ≡ places_bytes v c.places
  unfolding cell_bytes
  places_of-cell_bytes c = drop_at (head_bytes v c.head) (places_bytes v c.places) (head_size v) (length-head_bytes v c.head)

  pub sound-cell : (c : Cell) → sound_cell v c ≡ true → (sound_head v c.head ≡ true) × (sound_places v c.places ≡ true)
  unfolding sound_cell
  sound-cell c e = both (sound_head v c.head) (sound_places v c.places) e

  module _ (c : Cell) (sound : sound_cell v c ≡ true) where
    pub cell-again : cell_of v (cell_bytes v c) ≡ c
    unfolding cell_of
    cell-again =
        let s = sound-cell c sound in
        rw (head_of-cell_bytes c, places_of-cell_bytes c, head-again v c.head s.0, places-again v c.places s.1)

    pub cell_legal_lem : legal_cell v (cell_bytes v c) ≡ true
    unfolding legal_cell
    cell_legal_lem =
        let s = sound-cell c sound in
        rw (head_of-cell_bytes c, places_of-cell_bytes c, head_legal_lem v c.head s.0, places_legal_lem v c.places s.1)

    pub bytes-cell_bytes : Bytes (cell_bytes v c)
    unfolding cell_bytes
    bytes-cell_bytes =
        let s = sound-cell c sound in
        bytes_append (head_bytes v c.head) (places_bytes v c.places) (bytes-head_bytes v c.head s.0) (bytes-places_bytes v c.places s.1)

-- Zeros stored over part of a cell: what `fill` leaves is those zeros, and over all places they are the cell without places.
use mathlib.Core.Path.{◌≡◌, ap, ◌∙◌}
use mathlib.Core.List.{List, [], flat_map, append-nil}
use Prim.Native.Nat.{ℕ, ◌+◌, ◌*◌, ◌≤◌}
use native.Mathlib.Omega.{arith}
use borrow.Rule.Slice.PartMut.{put_mid}
use lib.ListN.{length, take, drop, replicate, length-drop, drop_of_length-le}
use lib.Seq.{length-take-le, drop-drop}
use Rattle.octets.specs.Fields.{padded}
use Rattle.rules.specs.Layout.{current, head_size, place_size, places_per_cell, cell_size}
use Rattle.rules.specs.Table.{places_bytes}
use Rattle.cell_read.specs.Places.{with_places}

-- as many zeros as the part has bytes
pub filled : (c z : List ℕ) (at n : ℕ) → at + n ≤ length c → z ≡ replicate (length (take n (drop at c))) 0 → z ≡ replicate n 0
filled c z at n within e =
    let l : length (take n (drop at c)) ≡ n = length-take-le n (drop at c) (rw length-drop (omega arith)) in
    e ∙ ap (λ (m : ℕ). replicate {A = ℕ} m 0) l

pub freed : (c z : List ℕ) → length c ≡ cell_size current → z ≡ replicate (place_size current * places_per_cell) 0
    → put_mid (head_size current) (place_size current * places_per_cell) c z ≡ with_places c []
unfolding with_places places_bytes padded flat_map
freed c z long e =
    let none : drop (place_size current * places_per_cell) (drop (head_size current) c) ≡ [] =
    drop-drop (place_size current * places_per_cell) (head_size current) c ∙ drop_of_length-le c {i = cell_size current} (omega arith) in
    rw (none, e, append-nil (replicate {A = ℕ} (place_size current * places_per_cell) 0))

-- The bytes of a place stored where the first free one was: the cell has one place more, behind the others.
-- By the runs behind the head: a free run becomes that of the new place.
use mathlib.Core.Path.{◌≡◌, sym, ap, ◌∙◌}
use mathlib.Core.List.{List, [], ◌∷◌, ◌++◌, map, map-append}
use Prim.Native.Nat.{ℕ}
use native.Mathlib.Omega.{arith}
use lib.ListN.{length, take, set, length-map}
use lib.Seq.{sets}
use Rattle.octets.specs.Runs.{Bytes}
use Rattle.octets.proofs.FieldsLaws.{length-padded}
use Rattle.octets.proofs.PartsLaws.{sets_over}
use Rattle.rules.specs.Layout.{current, head_size, place_size, places_per_cell}
use Rattle.rules.specs.Table.{place_of, place_bytes, free_bytes}
use Rattle.rules.specs.declared.Place.{Place}
use Rattle.rules.proofs.JoinedLaws.{joined-sets}
use Rattle.rules.proofs.PaddedLaws.{padded-more}
use Rattle.rules.proofs.PlaceCodec.{place-back}
use Rattle.rules.proofs.PlacesCodec.{runs_of}
use Rattle.cell_read.specs.Places.{live_places, with_places, FreeAt, OnePlace, place_from}
use Rattle.cell_read.proofs.PlacesLaws.{head-long}
use Rattle.cell_read.proofs.PlaceBytesLaws.{wide_runs, with_places-runs, free-run}

module _ (c : List ℕ) (k : ℕ) (at : FreeAt c k) (b : List ℕ) (one : OnePlace b) (bytes : Bytes b) where
  more-runs : set (runs_of current (live_places c)) k b ≡ runs_of current (live_places c ++ (place_of current b ∷ []))
  more-runs =
      let ps : List Place = live_places c in
      let m : length (map (place_bytes current) ps) ≡ length ps = length-map ps (place_bytes current) in
      let room = at.room in
      let e : k ≡ length (map (place_bytes current) ps) = at.first ∙ sym m in
      rw (e, map-append (place_bytes current) ps (place_of current b ∷ []), place-back current b bytes one.long one.live)
      (padded-more (free_bytes current) places_per_cell (map (place_bytes current) ps) b (omega arith))

  pub added : sets c (place_from k) b ≡ with_places c (live_places c ++ (place_of current b ∷ []))
  added =
      let ps : List Place = live_places c in
      let long = one.long in
      let size = at.formed.size in
      let room = at.room in
      let first = at.first in
      let runs : length (runs_of current ps) ≡ places_per_cell = length-padded places_per_cell (free_bytes current) (map (place_bytes current) ps) in
      ap (λ (l : List ℕ). sets l (place_from k) b) (at.formed.whole ∙ with_places-runs c ps)
      ∙ joined-sets (place_size current) (wide_runs ps) (take (head_size current) c) b (head_size current) k 0 (place_from k) (head-long c at.formed.size) (omega arith) (omega arith) (omega arith)
      ∙ rw (free-run c k (omega arith) room, sets_over b (free_bytes current) one.long, more-runs) (sym (with_places-runs c (ps ++ (place_of current b ∷ []))))

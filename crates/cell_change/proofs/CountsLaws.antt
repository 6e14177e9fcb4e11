-- A store in place k of a cell changes place k: sent and wait, or wait alone.
-- A store in place k is a store in run k of those behind the head, and a field stored in a place's bytes is that number changed.
use mathlib.Core.Path.{◌≡◌, refl, sym, ap, ◌∙◌}
use mathlib.Core.List.{List, ◌++◌, map}
use Prim.Native.Nat.{ℕ, ◌+◌, ◌≤◌}
use native.Mathlib.Omega.{arith}
use lib.ListN.{length, take, set, length-append, length-set, length-map}
use lib.Seq.{sets}
use Rattle.octets.specs.Numbers.{to_be}
use Rattle.octets.specs.Fields.{offset, bytes_of}
use Rattle.octets.proofs.RunsLaws.{sets-run}
use Rattle.octets.proofs.NumbersLaws.{length-to_be}
use Rattle.octets.proofs.FieldsLaws.{length-padded}
use Rattle.octets.proofs.PartsLaws.{field_stored}
use Rattle.rules.specs.Layout.{current, place_fields, head_size, place_size, places_per_cell}
use Rattle.rules.specs.Table.{place_numbers, place_bytes, free_bytes}
use Rattle.rules.specs.InCell.{with_counts}
use Rattle.rules.specs.declared.Seconds.{Seconds}
use Rattle.rules.specs.declared.Broadcasts.{Broadcasts}
use Rattle.rules.specs.declared.Place.{Place}
use Rattle.rules.proofs.JoinedLaws.{joined-sets}
use Rattle.rules.proofs.MapLaws.{map-set}
use Rattle.rules.proofs.PaddedLaws.{set-padded}
use Rattle.rules.proofs.PlacesCodec.{runs_of}
use Rattle.cell_read.specs.Places.{live_places, with_place, place_at, LiveAt, place_from}
use Rattle.cell_read.proofs.PlacesLaws.{head-long, counted}
use Rattle.cell_read.proofs.PlaceBytesLaws.{wide_runs, with_places-runs, live-run}

module _ (c : List ℕ) (k : ℕ) (at : LiveAt c k) where
  stored : (q : Place) (j : ℕ) (vs : List ℕ) → j + length vs ≤ place_size current → sets (place_bytes current (place_at c k)) j vs ≡ place_bytes current q
      → sets c (place_from k + j) vs ≡ with_place c k q
  stored q j vs fits_in_lem e =
      let ps : List Place = live_places c in
      let n : length (runs_of current ps) ≡ places_per_cell = length-padded places_per_cell (free_bytes current) (map (place_bytes current) ps) in
      let m : length (map (place_bytes current) ps) ≡ length ps = length-map ps (place_bytes current) in
      let live = at.live in
      ap (λ (l : List ℕ). sets l (place_from k + j) vs) (at.formed.whole ∙ with_places-runs c ps)
      ∙ joined-sets (place_size current) (wide_runs ps) (take (head_size current) c) vs (head_size current) k j (place_from k + j) (head-long c at.formed.size) (omega arith) fits_in_lem refl
      ∙ rw (live-run c k at, e, set-padded (free_bytes current) places_per_cell k (map (place_bytes current) ps) (place_bytes current q) (omega arith), ← map-set (place_bytes current) ps k q)
      (sym (with_places-runs c (set ps k q)))

  ten : (p : Place) → length (place_numbers p) ≡ length (place_fields current)
  unfolding place_numbers
  ten p = refl

  -- sent and wait, which stand side by side
  pub counts-stored : (sent : Broadcasts) (wait : Seconds)
      → sets (sets c (place_from k + 14) (to_be 2 sent.0)) (place_from k + 16) (to_be 4 wait.0) ≡ with_place c k (with_counts (place_at c k) sent wait)
  unfolding place_bytes offset
  counts-stored sent wait =
      let p : Place = place_at c k in
      let n : length (to_be 2 sent.0) ≡ 2 = length-to_be 2 sent.0 in
      let m : length (to_be 2 sent.0 ++ to_be 4 wait.0) ≡ 6 = rw (length-append, n, length-to_be 4 wait.0) in
      let five : sets (place_bytes current p) 14 (to_be 2 sent.0) ≡ bytes_of (place_fields current) (set (place_numbers p) 5 sent.0) =
      field_stored (place_fields current) (place_numbers p) 5 sent.0 (omega arith) (ten p) in
      let six : sets (bytes_of (place_fields current) (set (place_numbers p) 5 sent.0)) 16 (to_be 4 wait.0) ≡ bytes_of (place_fields current) (set (set (place_numbers p) 5 sent.0) 6 wait.0) =
      field_stored (place_fields current) (set (place_numbers p) 5 sent.0) 6 wait.0 (omega arith) (rw length-set (ten p)) in
      sets-run (to_be 2 sent.0) (to_be 4 wait.0) c (place_from k + 14) (place_from k + 16) (omega arith)
      ∙ stored (with_counts p sent wait) 14 (to_be 2 sent.0 ++ to_be 4 wait.0) (omega arith)
      (rw (← sets-run (to_be 2 sent.0) (to_be 4 wait.0) (place_bytes current p) 14 16 (omega arith), five, six, ← counted p sent wait))

  -- wait alone
  pub wait-stored : (wait : Seconds) → sets c (place_from k + 16) (to_be 4 wait.0) ≡ with_place c k (with_counts (place_at c k) (place_at c k).sent wait)
  unfolding place_bytes offset place_numbers with_counts
  wait-stored wait =
      let p : Place = place_at c k in
      let n : length (to_be 4 wait.0) ≡ 4 = length-to_be 4 wait.0 in
      stored (with_counts p p.sent wait) 16 (to_be 4 wait.0) (omega arith) (field_stored (place_fields current) (place_numbers p) 6 wait.0 (omega arith) refl)

-- One second in a cell, in two passes over its live places: what each function asks and leaves.
use Rattle.std.specs.Prelude.{◌≡◌, Bool, true, not, List, map, ℕ, ◌+◌, ◌*◌, ◌≤◌, ◌<◌, length}
use Rattle.std.proofs.lemmas.List.Edits.{sets}
use Rattle.rules.specs.Lists.{those}
use Rattle.rules.specs.Layout.{current, places_per_cell, row_size}
use Rattle.rules.specs.Table.{cell_of}
use Rattle.rules.specs.InCell.{Told, is_due, later, has_ended, second}
use Rattle.rules.specs.Answer.{row_bytes}
use Rattle.rules.specs.Reply.{row_by}
use Rattle.rules.specs.declared.Place.{Place}
use Rattle.cell_read.specs.Places.{live_places, with_places, with_place, place_at, LiveAt}
use Rattle.in_cell.specs.Step.{rows_bytes}

-- what the row of a broadcast says
abbrev pub told_of : Place → Told
told_of p = record { count = (later p).sent.0; content = p.content }

-- the places that have not ended, in order
unfoldable pub going_on : List Place → List Place
going_on ps = those (λ p. not (has_ended p)) ps

-- how many have ended
unfoldable pub endings : List Place → ℕ
endings ps = length (those has_ended ps)

-- place k is due, and there is room for row n
pub record ToAir (c out : List ℕ) (k n : ℕ) : Type 0 where
  pub at : LiveAt c k
  pub due : is_due (place_at c k) ≡ true
  pub few : n < places_per_cell
  pub room : row_size current * n + row_size current ≤ length out

-- place k was broadcast, row n says so, and `last` is whether that was the last time
pub record Aired (c out : List ℕ) (k n : ℕ) (c' out' : List ℕ) (last : Bool) : Type 0 where
  pub cell : c' ≡ with_place c k (later (place_at c k))
  pub row : out' ≡ sets out (row_size current * n) (row_bytes current (row_by (cell_of current c) (told_of (place_at c k))))
  pub ended : last ≡ has_ended (later (place_at c k))

-- every live place is a second later where it stood, those that have ended too
pub record AllLater (c out c' out' : List ℕ) (rows gone : ℕ) : Type 0 where
  pub cell : c' ≡ with_places c (map later (live_places c))
  pub many : rows ≡ length (second (live_places c)).rows
  pub few : rows ≤ places_per_cell
  pub answer : out' ≡ sets out 0 (rows_bytes c (second (live_places c)).rows)
  pub ended : gone ≡ endings (map later (live_places c))

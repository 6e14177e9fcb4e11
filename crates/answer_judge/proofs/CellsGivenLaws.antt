-- A table for an answer: a cell for each row, with the row's NR CGI and the places that make a request tell that row, or one cell alone where there is no row.
-- The rows ascend strictly and are few, so the cells are sound; each is reached, since the request has no area, and tells its own row.
use mathlib.Core.Path.{◌≡◌, refl}
use mathlib.Core.Bool.{true}
use mathlib.Core.List.{List, [], ◌∷◌, map, flat_map}
use Prim.Native.Nat.{ℕ, ◌^◌, ◌≤◌, ◌<◌}
use native.Mathlib.Omega.{arith}
use lib.ListN.{length, length-map}
use borrow.Author.Tests.{lt-ltb}
use Rattle.octets.specs.Fields.{padded}
use Rattle.rules.specs.Lists.{above, ascending}
use Rattle.rules.specs.Layout.{current, most_cells, cell_end}
use Rattle.rules.specs.Table.{Head, Cell, head_numbers}
use Rattle.rules.specs.Record.{no_area}
use Rattle.rules.specs.Reach.{reaches}
use Rattle.rules.specs.InCell.{reported, in_cell}
use Rattle.rules.specs.Reply.{Row, identities, cell_rows}
use Rattle.rules.specs.Sound.{fits, sound_head, sound_places, sound_cell, identity_of_cell}
use Rattle.rules.specs.declared.Request.{Request}
use Rattle.rules.specs.declared.Place.{Place}
use Rattle.rules.proofs.TestLaws.{and-true}
use Rattle.rules.proofs.AllLaws.{All, none, more}
use Rattle.rules.proofs.LegalTableLaws.{SoundCells}
use Rattle.rules.proofs.SoundPlaceLaws.{none-sound}
use Rattle.rules.proofs.StepLaws.{rows-reached}

-- a head with no emergency areas
abbrev bare_head : ℕ → Head
bare_head identity = record { identity = identity; code = 0; areas = [] }

abbrev bare_cell : ℕ → List Place → Cell
bare_cell identity places = record { head = bare_head identity; places = places }

head-sound : (identity : ℕ) → identity < cell_end → sound_head current (bare_head identity) ≡ true
unfolding sound_head head_numbers padded fits ascending
head-sound identity h = rw (lt-ltb identity (256 ^ 8) (omega arith), lt-ltb identity cell_end h)

cell-sound : (identity : ℕ) (places : List Place) → identity < cell_end → sound_places current places ≡ true → sound_cell current (bare_cell identity places) ≡ true
unfolding sound_cell
cell-sound identity places h s = and-true _ _ (head-sound identity h) s

module _ (places : Row → List Place) where
  abbrev cell_for : Row → Cell
  cell_for w = bare_cell w.identity (places w)

  abbrev pub cells_for : List Row → List Cell
  cells_for [] = bare_cell 0 [] ∷ []
  cells_for (w ∷ ws) = map cell_for (w ∷ ws)

  -- what makes a row's cell sound
  abbrev pub SoundFor : Row → Type 0
  SoundFor w = (w.identity < cell_end) × (sound_places current (places w) ≡ true)

  each_sound : {ws : List Row} → All SoundFor ws → All (λ c. sound_cell current c ≡ true) (map cell_for ws)
  each_sound none = none
  each_sound (more {x = w} h hs) = more (cell-sound w.identity (places w) h.0 h.1) (each_sound hs)

  same-identities : (ws : List Row) → map identity_of_cell (map cell_for ws) ≡ identities ws
  same-identities [] = refl
  same-identities (w ∷ ws) = rw (same-identities ws)

  pub cells_for_sound : (ws : List Row) → All SoundFor ws → length ws ≤ most_cells → ascending (identities ws) ≡ true → SoundCells current (cells_for ws)
  unfolding ascending above
  cells_for_sound [] none few order =
      record { some = omega arith; few = omega arith; each = more (cell-sound 0 [] (omega arith) (none-sound current)) none; order = refl }
  cells_for_sound (w ∷ ws) each few order =
      let n : length (map cell_for (w ∷ ws)) ≡ length (w ∷ ws) = length-map (w ∷ ws) cell_for in
      record { some = omega arith; few = rw n few; each = each_sound each; order = rw (same-identities ws) order }

  -- ---- what these cells tell

  module _ (q : Request) (everywhere : q.area ≡ no_area) where
    reached : (h : Head) → reaches q.area [] h ≡ true
    unfolding reaches
    reached h = rw everywhere

    -- what makes a cell tell its row
    abbrev pub Tells : Row → Type 0
    Tells w = ((in_cell q (places w)).rows ≡ reported w.count) × (w.content ≡ 0)

    own_row : (w : Row) → Tells w → cell_rows q [] (cell_for w) ≡ w ∷ []
    own_row w h = rw (rows-reached q [] (cell_for w) (reached (bare_head w.identity)), h.0, h.1)

    each_told : {ws : List Row} → All Tells ws → flat_map (cell_rows q []) (map cell_for ws) ≡ ws
    unfolding flat_map
    each_told none = refl
    each_told (more {x = w} h hs) = rw (own_row w h, each_told hs)

    pub cells_tell : (ws : List Row) → All Tells ws → (ws ≡ [] → (in_cell q []).rows ≡ []) → flat_map (cell_rows q []) (cells_for ws) ≡ ws
    unfolding flat_map
    cells_tell [] none idle = rw (rows-reached q [] (bare_cell 0 []) (reached (bare_head 0)), idle refl)
    cells_tell (w ∷ ws) each idle = each_told each

-- What a routine for one kind asks of a cell's bytes and of the rest of the answer, and what it leaves in both.
use Rattle.std.specs.Prelude.{◌≡◌, true, false, ℕ, ◌*◌, ◌≤◌, length}
use mathlib.Core.List.{List, map, flat_map}
use Rattle.std.proofs.lemmas.List.Edits.{sets}
use Rattle.rules.specs.Layout.{current, cell_size, row_size}
use Rattle.rules.specs.Table.{place_bytes, cell_of, legal_cell}
use Rattle.rules.specs.Record.{write_replace, kind_allows}
use Rattle.rules.specs.InCell.{Told, Done, starts_nothing, new_place}
use Rattle.rules.specs.Answer.{row_bytes}
use Rattle.rules.specs.Reply.{row_by}
use Rattle.rules.specs.Sound.{sound_place}
use Rattle.rules.specs.declared.Request.{Request}
use Rattle.cell_read.specs.Places.{with_places}

-- the bytes of the rows that a cell reports
unfoldable pub rows_bytes : List ℕ → List Told → List ℕ
rows_bytes c told = flat_map (row_bytes current) (map (row_by (cell_of current c)) told)

-- a legal cell, and room for so many rows
pub record Ready (c out : List ℕ) (most : ℕ) : Type 0 where
  pub size : length c ≡ cell_size current
  pub legal : legal_cell current c ≡ true
  pub room : row_size current * most ≤ length out

-- the cell has the places that the rule gives, and the rows stand at the start of the room for them
pub record Stepped (d : Done) (c out c' out' : List ℕ) (most n : ℕ) : Type 0 where
  pub cell : c' ≡ with_places c d.places
  pub many : n ≡ length d.rows
  pub few : n ≤ most
  pub rows : out' ≡ sets out 0 (rows_bytes c d.rows)

-- a Write-Replace that the zero rules do not stop, and the bytes of the place that it makes
pub record StartIn (q : Request) (new : List ℕ) : Type 0 where
  pub starts : starts_nothing q ≡ false
  pub sound : sound_place current (new_place q) ≡ true
  pub new_place : new ≡ place_bytes current (new_place q)

-- a request of a known kind; if it is a Write-Replace, one that starts something
pub record ToStep (q : Request) (new : List ℕ) : Type 0 where
  pub kind : kind_allows q ≡ true
  pub start : q.kind ≡ write_replace → StartIn q new

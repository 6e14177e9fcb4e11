-- What the walk over the cells asks, and what it leaves: the table cell by cell, and the rows behind the answer's head.
use Rattle.std.specs.Prelude.{◌≡◌, Bool, ◌&&◌, ℕ, ◌+◌, ◌*◌, ◌≤◌, eqb, length, take, Ok}
use mathlib.Core.List.{List, ◌++◌, flat_map}
use Rattle.std.proofs.lemmas.List.Edits.{sets}
use Rattle.rules.specs.Layout.{current, header_size, answer_size, row_size, places_per_cell, most_cells}
use Rattle.rules.specs.Table.{cell_of, cell_count, cell_runs}
use Rattle.rules.specs.Record.{write_replace, one_second, request_of, item_count, items_of}
use Rattle.rules.specs.InCell.{starts_nothing}
use Rattle.rules.specs.Answer.{row_bytes}
use Rattle.rules.specs.Refusals.{apply_verdict}
use Rattle.rules.specs.Applied.{cell_after, applied}
use Rattle.rules.specs.Reply.{cell_rows, Row}
use Rattle.rules.specs.declared.Request.{Request}
use Rattle.in_cell.specs.Step.{ToStep}

-- the rows of all cells, in order
unfoldable pub rows_after : Request → List ℕ → List (List ℕ) → List Row
rows_after q items runs = flat_map (λ c. cell_rows q items (cell_of current c)) runs

-- the table, cell by cell
unfoldable pub table_after : Request → List ℕ → List ℕ → List (List ℕ) → List ℕ
table_after q items t runs = take header_size t ++ flat_map (cell_after current q items) runs

-- an accepted call, no start that the zero rules stop, with the bytes of the new place made once
pub record WalkIn (t : List ℕ) (cells : ℕ) (r : List ℕ) (items : ℕ) (q : Request) (new a : List ℕ) : Type 0 where
  pub accepted : apply_verdict current t r (length a) ≡ Ok tt
  pub all_cells : cells ≡ cell_count t
  pub all_items : items ≡ item_count r
  pub request : q ≡ request_of r
  pub to_step : ToStep q new

-- an accepted second
pub record SecondIn (t : List ℕ) (cells : ℕ) (r a : List ℕ) : Type 0 where
  pub accepted : apply_verdict current t r (length a) ≡ Ok tt
  pub all_cells : cells ≡ cell_count t
  pub second : (request_of r).kind ≡ one_second

pub record WalkOut (t r : List ℕ) (q : Request) (a t' a' : List ℕ) (n : ℕ) : Type 0 where
  pub table : t' ≡ table_after q (items_of r) t (cell_runs current t)
  pub rows : n ≡ length (rows_after q (items_of r) (cell_runs current t))
  pub out : a' ≡ sets a (answer_size current) (flat_map (row_bytes current) (rows_after q (items_of r) (cell_runs current t)))
  pub few : n ≤ places_per_cell * most_cells

-- a start that the zero rules stop
unfoldable pub is_idle : Request → Bool
is_idle q = eqb q.kind write_replace && starts_nothing q

-- what an accepted call leaves: all but the number of its outcome
pub record Granted (t r a t' a' : List ℕ) (n : ℕ) : Type 0 where
  pub table : t' ≡ (applied current t r a).table
  pub answer : a' ≡ (applied current t r a).answer
  pub rows : answer_size current + row_size current * n ≡ (applied current t r a).length
  pub few : n ≤ places_per_cell * most_cells

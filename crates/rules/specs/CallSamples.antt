-- Calls on document 01's sample bytes, and all that each leaves: a start and a cancel of one text, in one cell and in two.
-- The demands show on them that an order counts, and that no wrong unit passes.
use Rattle.std.specs.Prelude.{◌≡◌, Bool, true, false, ◌&&◌, List, [], ◌∷◌, ◌++◌, ℕ, length, Ok}
use Rattle.octets.specs.Runs.{Bytes}
use Rattle.rules.specs.Lists.{any}
use Rattle.rules.specs.Layout.{current}
use Rattle.rules.specs.Table.{Cell, cells_of}
use Rattle.rules.specs.Record.{cancel_or_kill, cancel_all, request_of, items_of}
use Rattle.rules.specs.Reach.{reaches}
use Rattle.rules.specs.Answer.{room_for}
use Rattle.rules.specs.Refusals.{apply_verdict}
use Rattle.rules.specs.Applied.{Outcome, applied}
use Rattle.rules.specs.ByHand.{identity, free, request, starts, cancels, answers, says, blank, leaves, one}
use Rattle.rules.specs.Samples.{two, twice, flood}
use Rattle.rules.specs.declared.Place.{Place}

-- ---- records

-- a start and a cancel of the same text, anywhere
abbrev pub starting : List ℕ
starting = starts 0 4370 7 2 3

abbrev pub stopping : List ℕ
stopping = cancels 4 4370 16 0 0 []

-- a start in the first of two cells, and a cancel in the tracking area of the second
abbrev pub starting_here : List ℕ
starting_here = request 1 0 1 4370 16 7 2 3 8 1 (identity 16)

abbrev pub stopping_there : List ℕ
stopping_there = cancels 4 4370 16 2 1 (0 ∷ 0 ∷ 0 ∷ 241 ∷ 16 ∷ 0 ∷ 0 ∷ 2 ∷ [])

-- ---- tables

abbrev pub free_cell : List ℕ
free_cell = one (free 4)

-- the second has the text, sent twice
abbrev pub two_cells : List ℕ
two_cells = two (free 4) (flood 2 1)

-- the cell of a table of one, decoded; and the text in it
abbrev pub cell_with : List Place → Cell
cell_with places = record { head = record { identity = 0x000f110000000010; code = 1; areas = [] }; places = places }

abbrev pub flood_place : ℕ → ℕ → Place
flood_place sent wait =
    record {
      identifier = 4370;
      serial = 16;
      content = 7;
      period = record { 0 = 2 };
      requested = record { 0 = 3 };
      sent = record { 0 = sent };
      wait = record { 0 = wait };
      sib = 8;
    }

-- ---- calls

-- bytes that are accepted with a blank answer buffer, and all that is left
pub record CallGives (t r : List ℕ) (o : Outcome) : Type 0 where
  pub table-bytes : Bytes t
  pub record-bytes : Bytes r
  pub accepted : apply_verdict current t r (length blank) ≡ Ok tt
  pub gives : applied current t r blank ≡ o

abbrev pub reached_by : List ℕ → Cell → Bool
reached_by r c = reaches (request_of r).area (items_of r) c.head

-- ---- THE CLAIM

pub record CallSamplesHold : Type 0 where
  -- a start where nothing is live, in one cell and in two
  pub started : CallGives free_cell starting (leaves (one (flood 0 0)) (answers 1 4370 16 1 ++ says 16 0 0))
  pub started-two : CallGives (two (free 4) (free 4)) starting (leaves (two (flood 0 0) (flood 0 0)) (answers 1 4370 16 2 ++ says 16 0 0 ++ says 32 0 0))
  -- a cancel where nothing is live, and of the text sent never, once and twice
  pub stopped_none : CallGives free_cell stopping (leaves free_cell (answers 2 4370 16 0))
  pub stopped-new : CallGives (one (flood 0 0)) stopping (leaves free_cell (answers 2 4370 16 1 ++ says 16 0 0))
  pub stopped_once : CallGives (one (flood 1 1)) stopping (leaves free_cell (answers 2 4370 16 1 ++ says 16 1 0))
  pub stopped-twice : CallGives twice stopping (leaves free_cell (answers 2 4370 16 1 ++ says 16 2 0))
  -- a start in one cell and a cancel in the other, in either order
  pub started_here : CallGives two_cells starting_here (leaves (two (flood 0 0) (flood 2 1)) (answers 1 4370 16 1 ++ says 16 0 0))
  pub then_stopped-there : CallGives (two (flood 0 0) (flood 2 1)) stopping_there (leaves (two (flood 0 0) (free 4)) (answers 2 4370 16 1 ++ says 32 2 0))
  pub stopped-there : CallGives two_cells stopping_there (leaves (two (free 4) (free 4)) (answers 2 4370 16 1 ++ says 32 2 0))
  pub then_started_here : CallGives (two (free 4) (free 4)) starting_here (leaves (two (flood 0 0) (free 4)) (answers 1 4370 16 1 ++ says 16 0 0))
  -- the cells of the tables of one
  pub cells_free : cells_of current free_cell ≡ cell_with [] ∷ []
  pub cells_once : cells_of current (one (flood 1 1)) ≡ cell_with (flood_place 1 1 ∷ []) ∷ []
  pub cells-twice : cells_of current twice ≡ cell_with (flood_place 2 1 ∷ []) ∷ []
  -- the first two records reach one cell, the other two have none in common
  pub both_reach : (reached_by starting (cell_with []) ≡ true) × (reached_by stopping (cell_with []) ≡ true)
  pub none_common : any (λ c. reached_by starting_here c && reached_by stopping_there c) (cells_of current two_cells) ≡ false
  -- the start needs room for one row of a cell, and the cancel names one text
  pub one-row : room_for current (request_of starting).kind 1 ≡ 26
  pub stops-one : ((request_of stopping).kind ≡ cancel_or_kill) × (cancel_all (request_of stopping) ≡ false)

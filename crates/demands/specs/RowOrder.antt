-- Document 01, "The answer": "Cells ascend", and a second "gives a row per broadcast, in place order before freeing, with sent after the broadcast".
-- Of the rows of an accepted call, which demand 2 finds in its answer (`Answered`).
use Rattle.std.specs.Prelude.{◌≡◌, true, cond, ℕ, ◌<◌, eqb}
use mathlib.Core.List.{List, [], ◌∷◌, flat_map}
use Rattle.octets.specs.Runs.{Bytes}
use Rattle.rules.specs.Lists.{those, ascending, rising}
use Rattle.rules.specs.Layout.{current}
use Rattle.rules.specs.Table.{Cell, cell_of, cell_count}
use Rattle.rules.specs.Record.{one_second, request_of}
use Rattle.rules.specs.InCell.{is_due, later}
use Rattle.rules.specs.Reply.{Row, identities}
use Rattle.rules.specs.Applied.{applied}
use Rattle.demands.specs.Demand2.{cell_at, rows_in, rows_of}

-- the k-th cell of a table, and the rows with its NR CGI
abbrev pub cell_in : List ℕ → ℕ → Cell
cell_in t k = cell_of current (cell_at t k)

abbrev pub rows_with : Cell → List Row → List Row
rows_with c rows = those (λ w. eqb w.identity c.head.identity) rows

-- a row for each place that is due, in the order of the places, with sent after the broadcast
abbrev pub broadcasts_of : Cell → List Row
broadcasts_of c =
    flat_map (λ p. cond (is_due p) (record { identity = c.head.identity; count = (later p).sent.0; content = p.content } ∷ []) []) c.places

-- ---- of a table t and a record r

pub record RowOrder (t r : List ℕ) : Type 0 where
  -- no cell is reported before one with a smaller NR CGI ..
  pub cells_rise : rising (identities (rows_of t r)) ≡ true
  -- .. and none twice, but by a second
  pub cells_ascend : ((request_of r).kind ≡ one_second → ⊥) → ascending (identities (rows_of t r)) ≡ true
  -- the rows of a cell stand in the order that its rule gives them ..
  pub of_cell : (k : ℕ) → k < cell_count t → rows_with (cell_in t k) (rows_of t r) ≡ rows_in r (cell_in t k)
  -- .. which is the order of the places for a second
  pub of_second : (request_of r).kind ≡ one_second → (k : ℕ) → k < cell_count t → rows_with (cell_in t k) (rows_of t r) ≡ broadcasts_of (cell_in t k)

-- ---- THE CLAIM

-- of a call that is accepted
abbrev pub RowsInOrder : Type 0
RowsInOrder = (t r a : List ℕ) → Bytes t → Bytes r → (applied current t r a).number ≡ 0 → RowOrder t r

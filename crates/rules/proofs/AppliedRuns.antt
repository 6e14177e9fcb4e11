-- An accepted request, said of the table's bytes cell by cell: what a walk over the cells in place has to leave.
-- The cells' bytes behind the header are the table's, and what is decoded of each is that of its own bytes.
use Rattle.std.specs.Prelude.{Ok}
use mathlib.Core.Path.{◌≡◌, refl, sym, ap, ap₂, ◌∙◌}
use mathlib.Core.Bool.{true}
use mathlib.Core.List.{List, [], ◌∷◌, ◌++◌, map, flat_map}
use Prim.Native.Nat.{ℕ, ◌*◌}
use native.Mathlib.Omega.{arith}
use lib.ListN.{length, take, drop, length-drop, take-append-drop}
use Rattle.octets.specs.Runs.{Bytes}
use Rattle.octets.proofs.PiecesLaws.{pieces_flat}
use Rattle.rules.specs.Layout.{Version, header_size, cell_size}
use Rattle.rules.specs.Table.{Cell, cell_of, cell_count, cell_runs, cells_of}
use Rattle.rules.specs.Record.{write_replace, request_of, items_of}
use Rattle.rules.specs.Reach.{reaches}
use Rattle.rules.specs.InCell.{in_cell, starts_nothing, done}
use Rattle.rules.specs.Refusals.{table_verdict, apply_verdict}
use Rattle.rules.specs.Applied.{step_cell, cell_after, applied}
use Rattle.rules.specs.Reply.{cell_rows}
use Rattle.rules.specs.declared.Request.{Request}
use Rattle.rules.proofs.MapLaws.{flat_map-map}
use Rattle.rules.proofs.TestLaws.{by_test}
use Rattle.rules.proofs.LegalTableLaws.{table-accepted}
use Rattle.rules.proofs.StartLaws.{start-idle}
use Rattle.rules.proofs.InCellLaws.{in_cell-start}
use Rattle.rules.proofs.AppliedLaws.{applied-legal, applied-header, applied-runs}

module _ (v : Version) where
  -- a legal table is its header and its cells' bytes
  pub table_of_runs : (t : List ℕ) → table_verdict v t ≡ Ok tt → take header_size t ++ flat_map (λ c. c) (cell_runs v t) ≡ t
  table_of_runs t e =
      let l = table-accepted v t e in
      let n : length (drop header_size t) ≡ cell_size v * cell_count t = rw length-drop (omega (arith, l.size)) in
      rw (pieces_flat (cell_size v) (cell_count t) (drop header_size t) n) (take-append-drop header_size t)

  pub rows_of-runs : (q : Request) (items t : List ℕ) → flat_map (cell_rows q items) (cells_of v t) ≡ flat_map (λ c. cell_rows q items (cell_of v c)) (cell_runs v t)
  unfolding cells_of
  rows_of-runs q items t = flat_map-map (cell_rows q items) (cell_of v) (cell_runs v t)

  module _ (t r a : List ℕ) (bt : Bytes t) (br : Bytes r) (e : apply_verdict v t r (length a) ≡ Ok tt) where
    pub applied_by_runs : (applied v t r a).table ≡ take header_size t ++ flat_map (cell_after v (request_of r) (items_of r)) (cell_runs v t)
    applied_by_runs =
        sym (table_of_runs (applied v t r a).table (applied-legal v t r a bt br e))
        ∙ ap₂ ◌++◌ (applied-header v t r a bt br e)
        (ap (flat_map (λ c. c)) (applied-runs v t r a bt br e) ∙ flat_map-map (λ c. c) (cell_after v (request_of r) (items_of r)) (cell_runs v t))

-- ---- a start that the zero rules stop

module _ (q : Request) (items : List ℕ) (k : q.kind ≡ write_replace) (z : starts_nothing q ≡ true) where
  nothing-done : (c : Cell) → in_cell q c.places ≡ done c.places []
  nothing-done c = in_cell-start q c.places k ∙ start-idle q c.places z

  idle-step : (c : Cell) → step_cell q items c ≡ c
  unfolding step_cell
  idle-step c = by_test (reaches q.area items c.head) (λ x. rw (x, nothing-done c)) (λ x. rw x)

  idle-rows : (c : Cell) → cell_rows q items c ≡ []
  unfolding cell_rows
  idle-rows c = by_test (reaches q.area items c.head) (λ x. rw (x, nothing-done c)) (λ x. rw x)

  pub idle-cells : (cs : List Cell) → map (step_cell q items) cs ≡ cs
  idle-cells [] = refl
  idle-cells (c ∷ cs) = rw (idle-step c, idle-cells cs)

  pub idle-answer : (cs : List Cell) → flat_map (cell_rows q items) cs ≡ []
  unfolding flat_map
  idle-answer [] = refl
  idle-answer (c ∷ cs) = rw (idle-rows c, idle-answer cs)

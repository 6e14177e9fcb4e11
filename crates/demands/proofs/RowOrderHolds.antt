-- The rows of an accepted call stand in the order of the cells, and those of a second in the order of the places.
-- The cells of a legal table ascend (rules, RowsLaws); that a second reaches every cell is a word of demand 3.
use mathlib.Core.Path.{◌≡◌, ap, ◌∙◌}
use mathlib.Core.Bool.{cond}
use mathlib.Core.List.{List, [], ◌∷◌, map}
use Prim.Native.Nat.{ℕ, ◌≤◌, ◌<◌}
use lib.ListN.{length, drop, get_or}
use Rattle.octets.specs.Runs.{Bytes}
use Rattle.octets.proofs.PiecesLaws.{length-pieces}
use Rattle.rules.specs.Layout.{current, header_size, cell_size}
use Rattle.rules.specs.Table.{Cell, cell_of, cell_count, cell_runs, cells_of}
use Rattle.rules.specs.Record.{one_second, request_of, items_of}
use Rattle.rules.specs.InCell.{Told, Done, second, is_due, later}
use Rattle.rules.specs.Applied.{applied}
use Rattle.rules.specs.Reply.{row_by}
use Rattle.rules.specs.declared.Place.{Place}
use Rattle.rules.proofs.TestLaws.{cond_cases}
use Rattle.rules.proofs.AllLaws.{All, all_imply, all_of, flat_map_all}
use Rattle.rules.proofs.MapLaws.{get_or-map_lem, map-flat_map}
use Rattle.rules.proofs.KindAreaLaws.{kind-known, rows_other}
use Rattle.rules.proofs.VerdictLaws.{request-accepted}
use Rattle.rules.proofs.TableCodec.{table-sound, length_cells_of}
use Rattle.rules.proofs.LegalTableLaws.{SoundCells, sound-cells}
use Rattle.rules.proofs.AcceptedRecordLaws.{record-accepted, within-own}
use Rattle.rules.proofs.StepLaws.{rows_few, rows-reached}
use Rattle.rules.proofs.InCellLaws.{in_cell-second}
use Rattle.rules.proofs.OutcomeLaws.{applied-accepted}
use Rattle.rules.proofs.AcceptedCallLaws.{AcceptedCall, call_accepted, record-fits}
use Rattle.rules.proofs.RowsLaws.{own-rows, rows_ascend, rows_rise, rows_of-cell}
use Rattle.demands.specs.Demand2.{rows_in, rows_of}
use Rattle.demands.specs.RowOrder.{cell_in, rows_with, broadcasts_of, RowOrder, RowsInOrder}
use Rattle.demands.proofs.Demand3Besides.{second-reaches_all}

-- ---- a second's rows

told_in_order : (c : Cell) → map (row_by c) (second c.places).rows ≡ broadcasts_of c
unfolding second
told_in_order c =
    let told : Place → List Told = λ p. cond (is_due p) (record { count = (later p).sent.0; content = p.content } ∷ []) [] in
    map-flat_map (row_by c) told c.places
    ∙ flat_map_all (λ p. map (row_by c) (told p)) _ (all_of (λ p. cond_cases (map (row_by c)) (is_due p) (record { count = (later p).sent.0; content = p.content } ∷ []) []) c.places)

-- ---- an accepted call

module _ (t r a : List ℕ) (bt : Bytes t) (br : Bytes r) (z : (applied current t r a).number ≡ 0) where
  accepted : AcceptedCall current t r (length a)
  accepted = call_accepted current t r (length a) (applied-accepted current t r a z)

  cells : SoundCells current (cells_of current t)
  cells = sound-cells current (cells_of current t) (table-sound current t bt accepted.table)

  few : ((request_of r).kind ≡ one_second → ⊥) → All (λ c. length (rows_in r c) ≤ 1) (cells_of current t)
  few n =
      let q = record-accepted current r accepted.req in
      let one = rows_other (request_of r).kind (kind-known (request_of r) (request-accepted _ (request_of r) (items_of r) (within-own current r q)).kind) n in
      all_imply (λ c s. rw one at (rows_few (request_of r) (items_of r) current (record-fits current r br q) (within-own current r q) c s)) cells.each

  pub cell_at : (k : ℕ) → k < cell_count t → get_or (cells_of current t) k (cell_of current []) ≡ cell_in t k
  unfolding cells_of
  cell_at k h = get_or-map_lem (cell_of current) (cell_runs current t) k [] (cell_of current []) (rw (length-pieces (cell_size current) (cell_count t) (drop header_size t)) h)

  of_cell : (k : ℕ) → k < cell_count t → rows_with (cell_in t k) (rows_of t r) ≡ rows_in r (cell_in t k)
  of_cell k h =
      rw (cell_at k h) at (rows_of-cell (rows_in r) (own-rows (request_of r) (items_of r)) (cells_of current t) cells.order k (cell_of current []) (rw (length_cells_of current t) h))

  pub of_second : (request_of r).kind ≡ one_second → (c : Cell) → rows_in r c ≡ broadcasts_of c
  of_second k c =
      rows-reached (request_of r) (items_of r) c (second-reaches_all t (record { req = r; are_bytes = br; answer = a }) z k c)
      ∙ ap (λ (d : Done). map (row_by c) d.rows) (in_cell-second (request_of r) c.places k)
      ∙ told_in_order c

  ordered : RowOrder t r
  ordered =
      record {
        cells_rise = rows_rise (rows_in r) (own-rows (request_of r) (items_of r)) (cells_of current t) cells.order;
        cells_ascend = λ n. rows_ascend (rows_in r) (own-rows (request_of r) (items_of r)) (few n) cells.order;
        of_cell = of_cell;
        of_second = λ k j h. of_cell j h ∙ of_second k (cell_in t j);
      }

pub rows_in_order : RowsInOrder
rows_in_order = ordered

-- Demand 2, of the table: an accepted call changes the reached cells by their rule and nothing else.
-- The cells' bytes afterwards are known as a whole list (rules, AppliedLaws); here each is picked out of it.
use Rattle.std.specs.Prelude.{Ok}
use mathlib.Core.Path.{◌≡◌, sym, ap, ◌∙◌}
use mathlib.Core.Bool.{true, false}
use mathlib.Core.List.{List, [], map}
use Prim.Native.Nat.{ℕ, ◌<◌}
use lib.ListN.{length, take, drop, get_or}
use Rattle.octets.specs.Runs.{Bytes}
use Rattle.octets.proofs.PiecesLaws.{length-pieces}
use Rattle.rules.specs.Layout.{current, header_size, head_size, cell_size}
use Rattle.rules.specs.Table.{cell_of, cell_bytes, cell_count, cell_runs, cells_of}
use Rattle.rules.specs.Record.{request_of, items_of}
use Rattle.rules.specs.Refusals.{table_verdict, apply_verdict}
use Rattle.rules.specs.Applied.{step_cell, cell_after, applied}
use Rattle.rules.proofs.TestLaws.{by_test}
use Rattle.rules.proofs.AllLaws.{all_at}
use Rattle.rules.proofs.MapLaws.{get_or-map_lem}
use Rattle.rules.proofs.CellCodec.{cell-back, head_of-cell_bytes}
use Rattle.rules.proofs.TableCodec.{table-cells, length_cells_of}
use Rattle.rules.proofs.StepLaws.{step-reached}
use Rattle.rules.proofs.AppliedLaws.{applied-cells, applied-legal, applied-bytes, applied-count, applied-length, applied-header, applied-runs}
use Rattle.rules.proofs.AcceptedCallLaws.{call_accepted}
use Rattle.rules.proofs.AppliedRuns.{table_of_runs}
use Rattle.demands.specs.Demand2.{cell_at, reached, ruled, TableChanged}

module _ (t r a : List ℕ) (bt : Bytes t) (br : Bytes r) (e : apply_verdict current t r (length a) ≡ Ok tt) where
  legal : table_verdict current t ≡ Ok tt
  legal = (call_accepted current t r (length a) e).table

  -- ---- one cell

  module _ (k : ℕ) (h : k < cell_count t) where
    in_runs : k < length (cell_runs current t)
    in_runs = rw (length-pieces (cell_size current) (cell_count t) (drop header_size t)) h

    in_cells_lem : k < length (cells_of current t)
    in_cells_lem = rw (length_cells_of current t) h

    cell-after : cell_at (applied current t r a).table k ≡ cell_after current (request_of r) (items_of r) (cell_at t k)
    cell-after =
        ap (λ l. get_or l k []) (applied-runs current t r a bt br e)
        ∙ get_or-map_lem (cell_after current (request_of r) (items_of r)) (cell_runs current t) k [] [] in_runs

    stays : reached r (cell_of current (cell_at t k)) ≡ false → cell_at (applied current t r a).table k ≡ cell_at t k
    unfolding cell_after
    stays x = cell-after ∙ rw x

    changes : reached r (cell_of current (cell_at t k)) ≡ true → cell_at (applied current t r a).table k ≡ cell_bytes current (ruled r (cell_of current (cell_at t k)))
    unfolding cell_after
    changes x = cell-after ∙ rw (x, step-reached (request_of r) (items_of r) (cell_of current (cell_at t k)) x)

    reads : reached r (cell_of current (cell_at t k)) ≡ true → cell_of current (cell_at (applied current t r a).table k) ≡ ruled r (cell_of current (cell_at t k))
    unfolding cells_of
    reads x =
        sym (get_or-map_lem (cell_of current) (cell_runs current (applied current t r a).table) k [] (cell_of current []) in_after)
        ∙ ap (λ l. get_or l k (cell_of current [])) (applied-cells current t r a bt br e)
        ∙ get_or-map_lem (step_cell (request_of r) (items_of r)) (map (cell_of current) (cell_runs current t)) k (cell_of current []) (cell_of current []) in_cells_lem
        ∙ ap (step_cell (request_of r) (items_of r)) (get_or-map_lem (cell_of current) (cell_runs current t) k [] (cell_of current []) in_runs)
        ∙ step-reached (request_of r) (items_of r) (cell_of current (cell_at t k)) x
      where
        in_after : k < length (cell_runs current (applied current t r a).table)
        in_after =
            rw (length-pieces (cell_size current) (cell_count (applied current t r a).table) (drop header_size (applied current t r a).table), applied-count current t r a bt br e) h

    -- the head of a changed cell is encoded from the decoded one
    head-same : take (head_size current) (cell_at (applied current t r a).table k) ≡ take (head_size current) (cell_at t k)
    head-same =
        let f = all_at (table-cells current t bt legal) k [] in_runs in
        let c = cell_of current (cell_at t k) in
        let front : List ℕ → List ℕ = take (head_size current) in
        by_test (reached r c)
        (λ x. ap front (changes x) ∙ head_of-cell_bytes current (ruled r c) ∙ sym (head_of-cell_bytes current c) ∙ ap front (cell-back current (cell_at t k) f.0 f.1 f.2))
        (λ x. ap front (stays x))

  pub on_table : TableChanged t r (applied current t r a)
  on_table =
      record {
        same_length = applied-length current t r a bt br e;
        same-header = applied-header current t r a bt br e;
        same_count = applied-count current t r a bt br e;
        legal = applied-legal current t r a bt br e;
        bytes = applied-bytes current t r a bt br e;
        whole = table_of_runs current (applied current t r a).table (applied-legal current t r a bt br e);
        unreached_stays = stays;
        reached-ruled = changes;
        reached-reads = reads;
        head_stays = head-same;
      }

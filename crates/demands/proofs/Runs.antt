-- A run of calls, cell by cell: each table of it is legal and has as many cells as the first, and a cell holds what the calls that touch it made of its places.
-- Call after call, by what one call does (OneCall).
use Rattle.std.specs.Prelude.{Ok, Err}
use mathlib.Core.Path.{◌≡◌, refl, sym, ap, ◌∙◌}
use mathlib.Core.Option
use mathlib.Core.List.{List, [], ◌∷◌, map, map-map, map-id}
use Prim.Native.Nat.{ℕ, zero, suc, ◌≤◌}
use native.Mathlib.Omega.{arith}
use lib.ListN.{length, take, get_elem?}
use lib.Seq.{take_all}
use Rattle.octets.specs.Runs.{Bytes}
use Rattle.rules.specs.Layout.{current}
use Rattle.rules.specs.Table.{Cell, cell_count, cells_of, table_bytes}
use Rattle.rules.specs.Record.{request_of, items_of}
use Rattle.rules.specs.Reply.{reply_of}
use Rattle.rules.specs.Refusals.{table_verdict, Verdict}
use Rattle.rules.specs.Applied.{outcome, applied}
use Rattle.rules.proofs.AllLaws.{all_of, map_all}
use Rattle.rules.proofs.TableCodec.{table-back}
use Rattle.demands.specs.Demand3.{Call, outcome_on, result_of, run, run_in}
use Rattle.demands.proofs.Zip.{after, after_shift}
use Rattle.demands.proofs.OneCall.{legal-with, still_legal, rows_of, verdict, steps, cell_before, OfRun, after_call, verdict_stays, cells_left}

module _ (t : List ℕ) (legal : table_verdict current t ≡ Ok tt) where
  -- ---- call after call

  goes_on : (xs : List Call) (u : List ℕ) → OfRun t u → OfRun t (run u xs).0
  unfolding run_in
  goes_on [] u g = g
  goes_on (c ∷ xs) u g = goes_on xs (outcome_on u c).table (still_legal current (cell_count t) u g c)

  cells_on : (xs : List Call) (u : List ℕ) → OfRun t u → (i : ℕ) → i ≤ length xs → cells_of current (run u (take i xs)).0 ≡ map (cell_before t xs i) (cells_of current u)
  unfolding run_in after
  cells_on xs u g zero h = sym (map-id (cells_of current u))
  cells_on [] u g (suc i) h = absurd (omega arith)
  cells_on (c ∷ xs) u g (suc i) h =
      cells_on xs (outcome_on u c).table (still_legal current (cell_count t) u g c) i (omega arith)
      ∙ ap (map (cell_before t xs i)) (cells_left t legal u g c)
      ∙ map-map (cell_before t xs i) (after_call t c) (cells_of current u)
      ∙ map_all (λ x. cell_before t xs i (after_call t c x)) (cell_before t (c ∷ xs) (suc i))
      (all_of (λ x. ap {B = Cell} (λ ps. record { head = x.head; places = ps }) (sym (after_shift (steps t (c ∷ xs) x.head) i x.places))) (cells_of current u))

  -- ---- results

  -- a result depends on the verdict and, if the call is accepted, on its rows
  pub result_same : (u v : List ℕ) → OfRun t u → OfRun t v → (c : Call) → (verdict t c ≡ Ok tt → rows_of c u ≡ rows_of c v) → result_of (outcome_on u c) ≡ result_of (outcome_on v c)
  unfolding applied outcome reply_of
  result_same u v g k c h = rw (verdict_stays t legal u g c, verdict_stays t legal v k c) (go (verdict t c) h)
    where
      go : (w : Verdict) → (w ≡ Ok tt → rows_of c u ≡ rows_of c v)
          → result_of (outcome current w (request_of c.req) (items_of c.req) u c.answer) ≡ result_of (outcome current w (request_of c.req) (items_of c.req) v c.answer)
      go (Ok tt) h = rw (h refl)
      go (Err x) h = refl

  -- ---- a run that begins with t

  module _ (bytes : Bytes t) where
    pub run-goes : (xs : List Call) → OfRun t (run t xs).0
    run-goes xs = goes_on xs t (legal-with current t bytes legal)

    pub cells-before : (xs : List Call) (i : ℕ) → i ≤ length xs → cells_of current (run t (take i xs)).0 ≡ map (cell_before t xs i) (cells_of current t)
    cells-before xs i h = cells_on xs t (legal-with current t bytes legal) i h

    pub cells-after : (xs : List Call) → cells_of current (run t xs).0 ≡ map (cell_before t xs (length xs)) (cells_of current t)
    cells-after xs = rw (take_all (length xs) xs (omega arith)) at (cells-before xs (length xs) (omega arith))

    pub table-after : (xs : List Call) → table_bytes current (cells_of current (run t xs).0) ≡ (run t xs).0
    table-after xs = table-back current (run t xs).0 (run-goes xs).bytes (run-goes xs).accepted

-- the result of call i is that on the table before it
pub result_at : (xs : List Call) (u : List ℕ) (i : ℕ) → get_elem? (run u xs).1 i ≡ Option.map (λ c. result_of (outcome_on (run u (take i xs)).0 c)) (get_elem? xs i)
unfolding run_in
result_at [] u i = refl
result_at (c ∷ xs) u zero = refl
result_at (c ∷ xs) u (suc i) = result_at xs (outcome_on u c).table i

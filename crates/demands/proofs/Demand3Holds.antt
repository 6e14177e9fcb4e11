-- Demand 3 holds of `applied`: another order that keeps each two accepted calls with a common cell leaves the same table and gives each call the same result.
-- Cell by cell: the calls that touch a cell meet one another, so their order is kept, and what does not touch it does not count.
use Rattle.std.specs.Prelude.{Ok, Err}
use mathlib.Core.Path.{◌≡◌, refl, sym, ap, ◌∙◌}
use mathlib.Core.Bool.{true, false}
use mathlib.Core.Option.{Option, none, some}
use mathlib.Core.List.{List, [], flat_map}
use Prim.Native.Nat.{ℕ, ◌<◌}
use native.Mathlib.Omega.{arith}
use lib.ListN.{length, take, get_elem?}
use Rattle.octets.specs.Runs.{Bytes}
use Rattle.rules.specs.Layout.{current}
use Rattle.rules.specs.Table.{Head, Cell, cells_of, table_bytes}
use Rattle.rules.specs.Record.{request_of, items_of}
use Rattle.rules.specs.Refusals.{table_verdict, Verdict}
use Rattle.rules.proofs.MapLaws.{flat_map-map}
use Rattle.rules.proofs.TestLaws.{both, by_test}
use Rattle.rules.proofs.AllLaws.{map_all, flat_map_all}
use Rattle.rules.proofs.StepLaws.{rows_unreached}
use Rattle.demands.specs.Demand3.{Call, Result, outcome_on, result_of, run, Accepted_on, Permuted, KeepsOrder, SameOutcome, Demand3}
use Rattle.demands.proofs.NumberLaws.{accepted-number}
use Rattle.demands.proofs.Zip.{Orders, Level, zip, level_end, level_at}
use Rattle.demands.proofs.Positions.{position_some, all_positions, place_in, origin_in}
use Rattle.demands.proofs.OneCall.{takes, reaches_head, rows_in, rows_of, verdict, touches, untouched, steps, cell_before}
use Rattle.demands.proofs.Runs.{run-goes, cells-before, cells-after, table-after, result_same, result_at}

takes_accepted : (v : Verdict) → takes v ≡ true → v ≡ Ok tt
takes_accepted (Ok tt) e = refl
takes_accepted (Err x) e = let z : ◌≡◌ {A = ℕ} 0 1 = cc in absurd (omega arith)

-- what touches a cell is a call, accepted and reaching it
touches_some : (t : List ℕ) (h : Head) (o : Option Call) → touches t h o ≡ true → (c : Call) × (o ≡ some c) × Accepted_on t c × (reaches_head c h ≡ true)
touches_some t h none e = let z : ◌≡◌ {A = ℕ} 0 1 = cc in absurd (omega arith)
touches_some t h (some c) e =
    let b = both (takes (verdict t c)) (reaches_head c h) e in
    (c, refl, accepted-number current t c.req c.answer (takes_accepted (verdict t c) b.0), b.1)

module _ (t : List ℕ) (bytes : Bytes t) (legal : table_verdict current t ≡ Ok tt) (xs ys : List Call) (p : Permuted xs ys) (kept : KeepsOrder t xs p.place) where
  -- both orders, as one cell of the table sees them
  orders : (n : ℕ) (x : Cell) → get_elem? (cells_of current t) n ≡ some x
      → Orders (steps t xs x.head) (steps t ys x.head) (λ i. touches t x.head (get_elem? xs i)) (length xs) (length ys) p.place p.origin
  orders n x at =
      record {
        place_in = place_in p;
        origin_in = origin_in p;
        there_and_back = p.there_and_back;
        back_and_there = p.back_and_there;
        same = λ k h ps. rw (p.came k h);
        idle = λ i e ps. untouched t x.head (get_elem? xs i) e ps;
        kept = λ i j h l a b.
            let u = touches_some t x.head (get_elem? xs i) a in
            let v = touches_some t x.head (get_elem? xs j) b in
            kept i j u.0 v.0 h u.1 v.1
            (record { first-accepted = u.2; second-accepted = v.2; cell = x; index = n; in_table = at; first-reaches = u.3; second-reaches = v.3 });
      }

  -- at level places the cell is the same
  cell_same : (n : ℕ) (x : Cell) (at : get_elem? (cells_of current t) n ≡ some x) (m k : ℕ) → Level (orders n x at) m k → cell_before t ys k x ≡ cell_before t xs m x
  cell_same n x at m k l = ap {B = Cell} (λ ps. record { head = x.head; places = ps }) (sym (zip (orders n x at) m k l x.places))

  -- ---- the table

  cells_same : cells_of current (run t ys).0 ≡ cells_of current (run t xs).0
  cells_same =
      cells-after t legal bytes ys
      ∙ map_all (cell_before t ys (length ys)) (cell_before t xs (length xs))
      (all_positions (cells_of current t) (λ n x at. cell_same n x at (length xs) (length ys) (level_end (orders n x at))))
      ∙ sym (cells-after t legal bytes xs)

  table_same : (run t ys).0 ≡ (run t xs).0
  table_same = sym (table-after t legal bytes ys) ∙ ap (table_bytes current) cells_same ∙ table-after t legal bytes xs

  -- ---- the results

  module _ (i : ℕ) (h : i < length xs) (c : Call) (at_i : get_elem? xs i ≡ some c) where
    -- a cell that the call reaches is the same before it in both orders, and no other is reported
    row_same : verdict t c ≡ Ok tt → (n : ℕ) (x : Cell) → get_elem? (cells_of current t) n ≡ some x → rows_in c (cell_before t ys (p.place i) x) ≡ rows_in c (cell_before t xs i x)
    row_same e n x at =
        by_test (reaches_head c x.head)
        (λ r. ap (rows_in c) (cell_same n x at i (p.place i) (level_at (orders n x at) i h (rw (at_i, e, r)))))
        (λ r. unreached r ys (p.place i) ∙ sym (unreached r xs i))
      where
        unreached : reaches_head c x.head ≡ false → (zs : List Call) (k : ℕ) → rows_in c (cell_before t zs k x) ≡ []
        unreached r zs k = rows_unreached (request_of c.req) (items_of c.req) (cell_before t zs k x) r

    rows_same : verdict t c ≡ Ok tt → rows_of c (run t (take (p.place i) ys)).0 ≡ rows_of c (run t (take i xs)).0
    rows_same e =
        ap (flat_map (rows_in c)) (cells-before t legal bytes ys (p.place i) (omega (arith, place_in p i h)))
        ∙ flat_map-map (rows_in c) (cell_before t ys (p.place i)) (cells_of current t)
        ∙ flat_map_all (λ x. rows_in c (cell_before t ys (p.place i) x)) (λ x. rows_in c (cell_before t xs i x)) (all_positions (cells_of current t) (row_same e))
        ∙ sym (flat_map-map (rows_in c) (cell_before t xs i) (cells_of current t))
        ∙ sym (ap (flat_map (rows_in c)) (cells-before t legal bytes xs i (omega arith)))

    result_there : (r : Result) × (get_elem? (run t xs).1 i ≡ some r) × (get_elem? (run t ys).1 (p.place i) ≡ some r)
    result_there =
        let u = run-goes t legal bytes (take (p.place i) ys) in
        let v = run-goes t legal bytes (take i xs) in (
          result_of (outcome_on (run t (take i xs)).0 c),
          result_at xs t i ∙ rw at_i,
          result_at ys t (p.place i) ∙ rw (p.moved i h ∙ at_i) (ap some (result_same t legal _ _ u v c rows_same)),
        )

  holds : SameOutcome xs p.place (run t xs) (run t ys)
  holds =
      record {
        same-table = table_same;
        same_result = λ i h. let c = position_some xs i h in result_there i h c.0 c.1;
      }

pub demand_3 : Demand3
demand_3 = holds

-- An earthquake primary goes out in every second of any run that does not stop it.
-- Call by call: by demand 2 a cell that is reached becomes what its rule gives, and any other stays (PrimaryCells has the rule's half).
use Rattle.std.specs.Prelude.{Ok}
use mathlib.Core.Path.{◌≡◌, refl, ap, ◌∙◌}
use mathlib.Core.Bool.{Bool, true, false, ◌&&◌}
use mathlib.Core.Option.{some}
use mathlib.Core.List.{List, [], ◌∷◌}
use Prim.Native.Nat.{ℕ, zero, suc, ◌<◌}
use native.Mathlib.Omega.{arith}
use lib.Dec.{eqb}
use lib.ListN.{length, get_or}
use borrow.Author.Tests.{eqb-true, eqb-false}
use Rattle.octets.specs.Runs.{Bytes}
use Rattle.rules.specs.Lists.{any}
use Rattle.rules.specs.Layout.{current, places_per_cell}
use Rattle.rules.specs.Table.{Cell, running, cell_of, cell_count, cells_of}
use Rattle.rules.specs.Record.{write_replace, is_primary, concurrent, one_second, request_of, items_of}
use Rattle.rules.specs.Reply.{Row, reply_of}
use Rattle.rules.specs.Refusals.{table_verdict}
use Rattle.rules.specs.declared.Place.{Place}
use Rattle.rules.proofs.ListsLaws.{some_at, some-flat_map}
use Rattle.rules.proofs.TestLaws.{by_test}
use Rattle.rules.proofs.OutcomeLaws.{applied-accepted, applied-refused}
use Rattle.rules.proofs.InCellLaws.{in_cell-start}
use Rattle.rules.proofs.TableCodec.{length_cells_of}
use Rattle.rules.proofs.AnsweredLaws.{applied-told, applied-reads}
use Rattle.demands.specs.Demand2.{reached, ruled, rows_in}
use Rattle.demands.specs.Demand3.{Call, Result, outcome_on, result_of, run, run_in, Accepted_on, Reaches}
use Rattle.demands.specs.RowOrder.{cell_in}
use Rattle.demands.specs.PrimaryRuns.{goes_out, GoesOutIn, stops_text, Spared, HasRow, InEachSecond, PrimaryRuns}
use Rattle.demands.proofs.Positions.{position_in}
use Rattle.demands.proofs.Demand2Holds.{demand_2}
use Rattle.demands.proofs.Demand3Besides.{accepted_anywhere}
use Rattle.demands.proofs.Demand3Chains.{chain_is-run}
use Rattle.demands.proofs.RowOrderHolds.{cell_at, of_second}
use Rattle.demands.proofs.PrimaryCells.{start-goes, spared_keeps, second_reports}

-- ---- one call

module _ (k identifier serial content : ℕ) where
  -- the table after it is legal and of the same size, the cell keeps its head, and the text goes out in it still
  record Goes (t u : List ℕ) : Type 0 where
    bytes : Bytes u
    legal : table_verdict current u ≡ Ok tt
    there : k < cell_count u
    head : (cell_in u k).head ≡ (cell_in t k).head
    live : GoesOutIn u k identifier serial content

  module _ (t : List ℕ) (bytes : Bytes t) (there : k < cell_count t) (here : GoesOutIn t k identifier serial content) (c : Call) where
    accepted-goes : Accepted_on t c → (Reaches c (cell_in t k) → stops_text identifier serial (request_of c.req) (cell_in t k).places ≡ false) → Goes t (outcome_on t c).table
    accepted-goes z spared =
        let text : Place → Bool = goes_out identifier serial content in
        let after = ((demand_2.of_applied t c.req c.answer bytes c.are_bytes).accepted z).on_table in
        let make : (x : Cell) → cell_in (outcome_on t c).table k ≡ x → x.head ≡ (cell_in t k).head → any text x.places ≡ true → Goes t (outcome_on t c).table =
        λ x e h l. record { bytes = after.bytes; legal = after.legal; there = rw after.same_count there; head = rw e h; live = rw e l } in
        by_test (reached c.req (cell_in t k))
        (λ r. make (ruled c.req (cell_in t k)) (after.reached-reads k there r) refl (spared_keeps identifier serial content (request_of c.req) (cell_in t k).places here (spared r)))
        (λ n. make (cell_in t k) (ap (cell_of current) (after.unreached_stays k there n)) refl here)

    refused-goes : table_verdict current t ≡ Ok tt → (Accepted_on t c → ⊥) → Goes t (outcome_on t c).table
    refused-goes legal n = rw (applied-refused current t c.req c.answer n).1 (record { bytes = bytes; legal = legal; there = there; head = refl; live = here })

    -- its row, if it is a second
    reports : Accepted_on t c → (request_of c.req).kind ≡ one_second → HasRow (cell_in t k).head.identity content c (result_of (outcome_on t c))
    unfolding reply_of
    reports z s =
        let has : Row → Bool = λ w. eqb w.identity (cell_in t k).head.identity && eqb w.content content in
        let rows : Cell → Bool = λ x. any has (rows_in c.req x) in
        let told : rows (cell_in t k) ≡ true =
        rw (of_second t c.req c.answer bytes c.are_bytes z s (cell_in t k)) (second_reports identifier serial content (cell_in t k) here) in
        let told_at : rows (get_or (cells_of current t) k (cell_of current [])) ≡ true = rw (cell_at t c.req c.answer bytes c.are_bytes z k there) told in
        let in_table = some_at rows (cells_of current t) k (cell_of current []) (rw (length_cells_of current t) there) told_at in
        let e = applied-accepted current t c.req c.answer z in
        record {
          reply = reply_of (request_of c.req) (items_of c.req) (cells_of current t);
          bytes = applied-told current t c.req c.answer bytes c.are_bytes e;
          reads = applied-reads current t c.req c.answer bytes c.are_bytes e;
          among = some-flat_map (rows_in c.req) rows has (cells_of current t) (λ x e. e) in_table;
        }

    goes_on : table_verdict current t ≡ Ok tt
        → (Accepted_on t c → Reaches c (cell_in t k) → stops_text identifier serial (request_of c.req) (cell_in t k).places ≡ false)
        → Goes t (outcome_on t c).table
    goes_on legal spared =
        by_test (eqb (outcome_on t c).number 0)
        (λ y. let z = eqb-true (outcome_on t c).number 0 y in accepted-goes z (spared z))
        (λ n. refused-goes legal (eqb-false (outcome_on t c).number 0 n))

  -- ---- call by call

  goes-out : (t : List ℕ) → Bytes t → table_verdict current t ≡ Ok tt → k < cell_count t → GoesOutIn t k identifier serial content
      → (cs : List Call) → Spared identifier serial k t cs → InEachSecond t cs (cell_in t k).head.identity content (run t cs).1
  unfolding run_in
  goes-out t bytes legal there here [] spared i d e z s = absurd (omega (arith, position_in {A = Call} [] i e))
  goes-out t bytes legal there here (c ∷ cs) spared zero d e z s =
      let same : c ≡ d = cc in
      (result_of (outcome_on t d), ap (λ x. some (result_of (outcome_on t x))) same, reports t bytes there here d z s)
  goes-out t bytes legal there here (c ∷ cs) spared (suc i) d e z s =
      let g = goes_on t bytes there here c legal spared.0 in
      let r = goes-out (outcome_on t c).table g.bytes g.legal g.there g.live cs spared.1 i d e (accepted_anywhere t bytes legal (c ∷ []) d ∙ z) s in
      (r.0, r.1, rw g.head at r.2)

-- ---- its start

starts : (t : List ℕ) → Bytes t → (k : ℕ) → k < cell_count t → (c : Call) → Accepted_on t c → Reaches c (cell_in t k)
    → let q = request_of c.req in q.kind ≡ write_replace → is_primary q ≡ true
    → running q.identifier q.serial (cell_in t k).places ≡ false → (concurrent q ≡ true → length (cell_in t k).places < places_per_cell)
    → GoesOutIn (outcome_on t c).table k q.identifier q.serial q.content
starts t bytes k there c z r kind primary new room =
    let after = ((demand_2.of_applied t c.req c.answer bytes c.are_bytes).accepted z).on_table in
    rw (after.reached-reads k there r, in_cell-start (request_of c.req) (cell_in t k).places kind) (start-goes (request_of c.req) (cell_in t k).places primary new room)

pub primary-runs : PrimaryRuns
primary-runs =
    record {
      starts = starts;
      goes-out = λ t bytes legal k identifier serial content there here. goes-out k identifier serial content t bytes legal there here;
      promised = λ t bytes legal k identifier serial content there here cs spared u xs chain.
          rw (ap (λ (w : List ℕ × List Result). w.1) (chain_is-run chain)) (goes-out k identifier serial content t bytes legal there here cs spared);
    }

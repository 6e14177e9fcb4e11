-- `start_in_cell` does what document 01's Write-Replace says where the zero rules let it start.
-- The search says whether the text runs and which place is the first free one; then by the rule's tests, in order.
use mathlib.Core.Path.{◌≡◌, sym, ap, ◌∙◌}
use native.Mathlib.Omega.{arith}
use Prim.Native.Nat.{ℕ}
use borrow.Author.Rules.{rules}
use Rattle.cell_read.specs.Places.{live_places, OnePlace, index_of}
use Rattle.in_cell.proofs.ReadyLaws.{ready_formed}
use Rattle.in_cell.proofs.StartLaws.{Begun, new-one, start_repeats, free_here, free-first, start-alone, start-behind, start_nowhere}
use Rattle.in_cell.proofs.start.start_in_cell.Goals.{After-seek}
use Rattle.in_cell.proofs.start.start_in_cell.Goals as goal

-- ---- behind the search

begun : (c : After-seek) → {at : ℕ} → at ≡ index_of c.text.result (live_places c.args.cell.now) → Begun c.args.cell.now c.args.out.now c.args.new.now c.args.request at
begun c e =
    record {
      ready = c.requires.ready;
      input = c.requires.start_in;
      bytes = search rules;
      small = omega arith;
      place = e ∙ ap (λ (text : ℕ). index_of text (live_places c.args.cell.now)) c.text.ensures;
    }

one : (c : After-seek) → OnePlace c.args.new.now
one c = new-one c.args.request c.args.new.now c.requires.start_in

-- ---- the steps

pub seek-requires : goal.seek-requires
seek-requires c = ready_formed c.args.cell.now c.args.out.now 1 c.requires.ready (search rules)

pub returns-in-Ok : goal.returns-in-Ok
returns-in-Ok c =
    let found = c.in-Ok.ensures.found in
    start_repeats (begun (goal.at.returns-in-Ok c).After-seek found.0) found.1 c.report.ensures

pub add_place-requires : goal.add_place-requires
add_place-requires c =
    let s = (goal.at.add_place-requires c).After-seek in
    let free = c.in-Err.ensures.missing in
    record { free_at = free-first (begun s free.0) free.1 (sym c.concurrent.ensures ∙ c.if-not-concurrent.true) c.free_all.ensures; one_place = one s }

pub returns-in-Err : goal.returns-in-Err
returns-in-Err c =
    let free = c.in-Err.ensures.missing in
    start-alone (begun (goal.at.returns-in-Err c).After-seek free.0) free.1 (sym c.concurrent.ensures ∙ c.if-not-concurrent.true) c.free_all.ensures c.add_place.ensures c.report-in-Err.ensures

pub add_place-requires-in-Err-2 : goal.add_place-requires-in-Err-2
add_place-requires-in-Err-2 c =
    let s = (goal.at.add_place-requires-in-Err-2 c).After-seek in
    let free = c.in-Err.ensures.missing in
    record { free_at = free_here (begun s free.0) free.1 c.if-free-lt-PLACES.true; one_place = one s }

pub returns-in-Err-2 : goal.returns-in-Err-2
returns-in-Err-2 c =
    let free = c.in-Err.ensures.missing in
    start-behind (begun (goal.at.returns-in-Err-2 c).After-seek free.0) free.1 (sym c.concurrent.ensures ∙ c.if-not-concurrent.false) c.if-free-lt-PLACES.true c.add_place-in-Err-2.ensures c.report-in-Err-2.ensures

pub returns-in-Err-3 : goal.returns-in-Err-3
returns-in-Err-3 c =
    let free = c.in-Err.ensures.missing in
    start_nowhere (begun (goal.at.returns-in-Err-3 c).After-seek free.0) free.1 (sym c.concurrent.ensures ∙ c.if-not-concurrent.false) c.if-free-lt-PLACES.false

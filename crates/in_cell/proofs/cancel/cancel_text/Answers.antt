-- `cancel_text` stops the place with that text and reports its sent count; without one it leaves both buffers as they are.
-- What the search gave says which: `found_stops` and `absent_idle`.
use mathlib.Core.Path.{ap}
use borrow.Author.Rules.{rules}
use Rattle.rules.specs.declared.Broadcasts.{Broadcasts}
use Rattle.cell_read.specs.Places.{Formed, LiveAt}
use Rattle.cell_read.proofs.PlacesLaws.{live_at}
use Rattle.in_cell.proofs.ReadyLaws.{ready_formed}
use Rattle.in_cell.proofs.StopLaws.{found_stops, absent_idle}
use Rattle.in_cell.proofs.cancel.cancel_text.Goals.{After-seek, In-Ok}
use Rattle.in_cell.proofs.cancel.cancel_text.Goals as goal

formed : (c : After-seek) → Formed c.args.cell.now
formed c = ready_formed c.args.cell.now c.args.out.now 1 c.requires (search rules)

live : (c : In-Ok) → LiveAt c.args.cell.now c.in-Ok.at
live c =
    let formed = ready_formed c.args.cell.now c.args.out.now 1 c.requires (search rules) in
    live_at c.args.cell.now formed _ c.in-Ok.ensures.found.1

-- ---- the steps

pub seek-requires : goal.seek-requires
seek-requires c = ready_formed c.args.cell.now c.args.out.now 1 c.requires (search rules)

pub sent-count-requires : goal.sent-count-requires
sent-count-requires c = live (goal.at.sent-count-requires c).In-Ok

pub drop_place-requires : goal.drop_place-requires
drop_place-requires c = live (goal.at.drop_place-requires c).In-Ok

pub returns-in-Ok : goal.returns-in-Ok
returns-in-Ok c =
    let n = ap (λ (b : Broadcasts). b.0) c.sent-count.ensures in
    let found = c.in-Ok.ensures.found in
    found_stops c.args.cell.now c.args.out.now c.args.text _ found.0 found.1 _ n _ _ c.drop_place.ensures c.report.ensures

pub returns-in-Err : goal.returns-in-Err
returns-in-Err c =
    let absent = c.in-Err.ensures.missing in
    absent_idle c.args.cell.now c.args.out.now c.args.text _ absent.0 (formed (goal.at.returns-in-Err c).After-seek) absent.1

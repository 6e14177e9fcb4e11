-- `build_table` builds a table in the front of its buffer, or tells the refusal and leaves the buffer as it was.
use Rattle.std.specs.Prelude.{None}
use mathlib.Core.Path.{◌≡◌, refl, sym, ◌∙◌}
use native.Mathlib.Omega.{arith}
use lib.ListN.{length, take}
use lib.Seq.{length-take-le}
use Rattle.rules.specs.Refusals.{number_of}
use Rattle.report_turns.specs.Report.{table_size}
use Rattle.report_turns.proofs.RoomLaws.{room_within}
use Rattle.report_turns.proofs.OpenLaws.{written-if, refused_stepped, made_stepped}
use Rattle.report_turns.proofs.heads.build_table.Goals.{Start}
use Rattle.report_turns.proofs.heads.build_table.Goals as goal

-- the part of the table that is lent
part-long : (c : Start) → length (take (table_size c.args.cells) c.args.table.now) ≡ table_size c.args.cells
part-long c = length-take-le (table_size c.args.cells) c.args.table.now (omega arith)

pub slice_bounds-build-end-2 : goal.slice_bounds-build-end-2
slice_bounds-build-end-2 c = sym (part-long (goal.at.slice_bounds-build-end-2 c).Start)

pub returns-in-Err : goal.returns-in-Err
returns-in-Err c =
    let told = c.refuse in
    let x = c.build in
    let a = c.args in
    λ lent room. refused_stepped a.cells a.heads.now a.table.now lent x.new.table a.text.now x.result x.ensures
    c.in-Err.refusal (number_of c.in-Err.refusal) told.result told.new.text c.in-Err.is refl
    (told.ensures (record { cells = None; table = a.table.now; answer = lent }) refl)

pub returns : goal.returns
returns c =
    let x = c.build in
    let a = c.args in
    let w = written-if _ c.in_default.not-Err in
    λ lent room. made_stepped a.cells a.heads.now a.table.now lent x.new.table a.text.now x.result x.ensures
    w.0 w.1 (x.auto.table ∙ part-long (goal.at.returns c).Start) (omega arith) (room_within a.cells _ (omega arith) room)

-- `serve_next` serves the request at the front of the bytes at hand, in the front parts of its buffers.
-- Both parts lie in them, since there are no more than 512 cells: `table_fits`, `answer-fits`.
use Prim.Native.Nat.{◌≤◌}
use mathlib.Core.Path.{sym, ◌∙◌}
use native.Mathlib.Omega.{arith}
use lib.ListN.{length}
use lib.Seq.{length-take-le}
use Rattle.rules.specs.Layout.{most_cells}
use Rattle.report_turns.specs.Report.{answer_room, table_size}
use Rattle.report_turns.proofs.RoomLaws.{room_of, room_within}
use Rattle.report_turns.proofs.ServedLaws.{stops_stepped, waits_stepped, request_stepped}
use Rattle.report_turns.proofs.requests.serve_next.Goals.{After-room_for-room, Start}
use Rattle.report_turns.proofs.requests.serve_next.Goals as goal

-- the front parts of both buffers, and the room of the answer once it is known
table_fits : (c : Start) → table_size c.args.cells ≤ length c.args.table.now
table_fits c = omega (arith, c.requires.few, c.requires.table-room)

answer-fits : (c : Start) → answer_room c.args.cells ≤ length c.args.answer.now
answer-fits c = room_within c.args.cells (length c.args.answer.now) c.requires.few c.requires.answer-room

room_fits : (c : After-room_for-room) → c.room_for-room.result ≤ length c.args.answer.now
room_fits c =
    omega (arith, c.room_for-room.ensures, room_within c.args.cells (length c.args.answer.now) c.requires.few c.requires.answer-room)

pub returns-then-held : goal.returns-then-held
returns-then-held c =
    let a = c.args in
    let s = (goal.at.returns-then-held c).Start in
    stops_stepped a.cells a.table.now a.answer.now a.text.now (table_fits s) (answer-fits s) a.held.bytes.now a.held.ended
    (sym c.in_default.is ∙ c.frame.ensures.value) c.if-held.true

pub returns-else-held : goal.returns-else-held
returns-else-held c =
    let a = c.args in
    let s = (goal.at.returns-else-held c).Start in
    waits_stepped a.cells a.table.now a.answer.now a.text.now (table_fits s) (answer-fits s) a.held.bytes.now a.held.ended
    (sym c.in_default.is ∙ c.frame.ensures.value) c.if-held.false

pub slice_bounds-serve-end-4 : goal.slice_bounds-serve-end-4
slice_bounds-serve-end-4 c = room_fits (goal.at.slice_bounds-serve-end-4 c).After-room_for-room

pub slice_bounds-serve-end-5 : goal.slice_bounds-serve-end-5
slice_bounds-serve-end-5 c =
    sym (length-take-le c.room_for-room.result c.args.answer.now (room_fits (goal.at.slice_bounds-serve-end-5 c).After-room_for-room))

pub serve-next-requires-clause-answer_bounded : goal.serve-next-requires-clause-answer_bounded
serve-next-requires-clause-answer_bounded c =
    let p = c.requires in
    let long = length-take-le c.room_for-room.result c.args.answer.now (room_fits (goal.at.serve-next-requires-clause-answer_bounded c).After-room_for-room) in
    omega (arith, long, room_of c.args.cells, room_of most_cells, c.room_for-room.ensures, p.few)

pub returns : goal.returns
returns c =
    let a = c.args in
    let x = c.serve-next in
    let at = goal.at.returns c in
    let table-long = length-take-le (table_size a.cells) a.table.now (table_fits at.Start) in
    let answer-long = length-take-le c.room_for-room.result a.answer.now (room_fits at.After-room_for-room) in
    request_stepped a.cells a.table.now a.answer.now a.text.now (table_fits at.Start) (answer-fits at.Start) a.held.bytes.now a.held.ended
    c.in-Some.size (sym c.in-Some.is ∙ c.frame.ensures.value) c.room_for-room.result c.room_for-room.ensures
    x.new.table x.new.answer x.new.text x.result x.ensures.served x.ensures.room_taken
    (x.auto.table ∙ table-long) (x.auto.answer ∙ answer-long)

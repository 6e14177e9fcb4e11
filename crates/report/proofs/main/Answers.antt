-- `main` has buffers for the largest table, its largest answer and a text; the answer's room is computed: `room_of`.
use Rattle.std.proofs.Common.{arith}
use Rattle.rules.specs.Layout.{most_cells}
use Rattle.report_turns.proofs.RoomLaws.{room_of}
use Rattle.report.proofs.main.Goals as goal

pub run-requires-clause-room_for_answer : goal.run-requires-clause-room_for_answer
run-requires-clause-room_for_answer c = omega (arith, room_of most_cells)

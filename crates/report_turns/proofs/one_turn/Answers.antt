-- `one_turn` opens the table, or serves a request where there is one.
use Rattle.report_turns.proofs.TurnedLaws.{without-table, with-table}
use Rattle.report_turns.proofs.one_turn.Goals as goal

pub returns-in-None : goal.returns-in-None
returns-in-None c =
    let x = c.open_table in
    let a = c.args in
    without-table a.table.now a.answer.now a.held.bytes.now a.held.ended a.cells a.text.now x.result x.new.table a.answer.now x.new.text c.in-None.is (x.ensures a.answer.now c.requires.answer-room)

pub returns-in-Some : goal.returns-in-Some
returns-in-Some c =
    let x = c.serve_next in
    let a = c.args in
    with-table a.table.now a.answer.now a.held.bytes.now a.held.ended a.cells a.text.now x.result x.new.table x.new.answer x.new.text c.in-Some.cells c.in-Some.is x.ensures

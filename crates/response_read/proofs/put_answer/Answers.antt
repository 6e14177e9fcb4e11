-- `put_answer` leaves the answer of what a response says at the start of the buffer, or refuses and leaves the buffer as it was: by the two tests.
-- The list in the message's bytes is whole, so that its cells can be counted and written; head and rows, one behind the other, are the answer.
use mathlib.Core.Path.{◌≡◌, ◌∙◌}
use mathlib.Core.Bool.{true}
use mathlib.Core.List.{List}
use native.Mathlib.Omega.{arith}
use lib.ListN.{length}
use borrow.Author.Tests.{not-true, not-false}
use Rattle.rules.specs.Lists.{ascending}
use Rattle.rules.specs.Reply.{Row, identities}
use Rattle.responses.specs.ResponseRead.{kind_answered}
use Rattle.wire_cells.proofs.WholeListLaws.{rows-said, part-judged}
use Rattle.response_judge.specs.Met.{seen_of}
use Rattle.response_read.proofs.AnswerLeftLaws.{Cells, cells_ascend, unordered_put, short_put, answer_put}
use Rattle.response_read.proofs.put_answer.Goals.{After-cell_count-n}
use Rattle.response_read.proofs.put_answer.Goals as goal

abbrev rows : After-cell_count-n → List Row
rows c = Cells c.args.m c.args.elements.now (seen_of c.args.met)

-- cells that ascend
order : (c : After-cell_count-n) → ascending (identities (rows c)) ≡ true
order c =
    cells_ascend c.args.m c.args.elements.now (seen_of c.args.met) c.requires.lies c.requires.every_cell_known ∙ not-false _ c.if-not-met.false

many : (c : After-cell_count-n) → c.cell_count-n.result ≡ length (rows c)
many c = let a = c.args in rw (← rows-said a.m a.elements.now (seen_of a.met)) c.cell_count-n.ensures.counts

pub returns-then-not-met : goal.returns-then-not-met
returns-then-not-met c =
    unordered_put _ _ _ (cells_ascend c.args.m c.args.elements.now (seen_of c.args.met) c.requires.lies c.requires.every_cell_known ∙ not-true _ c.if-not-met.true)

pub cell_count-n-requires : goal.cell_count-n-requires
cell_count-n-requires c =
    part-judged c.args.m c.args.elements.now (seen_of c.args.met) c.requires.lies c.requires.every_cell_known

pub returns-then-answer-size : goal.returns-then-answer-size
returns-then-answer-size c =
    short_put _ (rows (goal.at.returns-then-answer-size c).After-cell_count-n) _ (order (goal.at.returns-then-answer-size c).After-cell_count-n) (omega (arith, many (goal.at.returns-then-answer-size c).After-cell_count-n, c.length_with-size.ensures, c.if-answer-size.true))

pub put_each-requires-clause-judged_list : goal.put_each-requires-clause-judged_list
put_each-requires-clause-judged_list c = part-judged c.args.m c.args.elements.now (seen_of c.args.met) c.requires.lies c.requires.every_cell_known

pub returns : goal.returns
returns c =
    let a = c.args in
    answer_put (kind_answered a.m) (rows (goal.at.returns c).After-cell_count-n) a.answer.now (order (goal.at.returns c).After-cell_count-n) (omega (arith, many (goal.at.returns c).After-cell_count-n, c.length_with-size.ensures, c.if-answer-size.false))
    c.kind_answered.ensures (many (goal.at.returns c).After-cell_count-n) c.length_with-size.ensures c.put_head.ensures
    (rw (← rows-said a.m a.elements.now (seen_of a.met)) c.put_each.ensures)

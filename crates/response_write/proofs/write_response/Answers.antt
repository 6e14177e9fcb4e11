-- `write_response` leaves the response of an answer at the start of the message, or refuses and leaves the message as it was: by the two tests.
-- Without rows `put_bare` does so.
use mathlib.Core.Path.{◌≡◌, sym, ◌∙◌}
use mathlib.Core.Bool.{true}
use Prim.Native.Nat.{◌+◌, ◌<◌}
use native.Mathlib.Omega.{arith}
use Rattle.aper.specs.Elements.{long_length}
use Rattle.answer_judge.specs.Answerable.{answerable}
use Rattle.responses.proofs.ResponseSizeLaws.{value-most}
use Rattle.response_write.specs.Parts.{RowsOf, front_size}
use Rattle.response_write.proofs.WrittenLaws.{not_written, given-long, given-rows, bare-written, short-written, all_written}
use borrow.Author.Rules.{rules}
use Rattle.response_write.proofs.write_response.Goals.{After-list_size-value, After-rows, Else-not-can_be_answered}
use Rattle.response_write.proofs.write_response.Goals as goal

-- the stages: an answer that was judged fine, its rows counted, its list's size
fine : (c : Else-not-can_be_answered) → answerable c.args.answer.now ≡ true
fine c = sym c.can_be_answered.ensures ∙ c.if-not-can_be_answered.false

rows : (c : After-rows) → RowsOf c.args.answer.now c.rows.result
rows c = given-rows _ (sym c.can_be_answered.ensures ∙ c.if-not-can_be_answered.false) c.rows.ensures

most : (c : After-list_size-value) → front_size + c.list_size-value.result < long_length
most c =
    rw c.list_size-value.ensures
    (omega (arith, value-most c.answering.result c.rows.result (given-rows _ (sym c.can_be_answered.ensures ∙ c.if-not-can_be_answered.false) c.rows.ensures).few))

pub returns-then-not-can_be_answered : goal.returns-then-not-can_be_answered
returns-then-not-can_be_answered c = not_written _ _ _ (sym c.can_be_answered.ensures ∙ c.if-not-can_be_answered.true)

pub kind-requires : goal.kind-requires
kind-requires c = given-long _ (fine (goal.at.kind-requires c).Else-not-can_be_answered)

pub rows-requires : goal.rows-requires
rows-requires c = given-long _ (fine (goal.at.rows-requires c).Else-not-can_be_answered)

pub returns-then-response-eq0 : goal.returns-then-response-eq0
returns-then-response-eq0 c =
    c.put_bare.ensures
    ∙ bare-written c.args.answer.now (fine (goal.at.returns-then-response-eq0 c).Else-not-can_be_answered) c.rows.ensures c.kind.ensures c.answering.ensures c.args.transaction (search rules) (omega (arith, c.if-response-eq0.true)) c.args.message.now

pub list_size-value-requires-clause-fits_list : goal.list_size-value-requires-clause-fits_list
list_size-value-requires-clause-fits_list c = (rows (goal.at.list_size-value-requires-clause-fits_list c).After-rows).few

pub overflow_add-value : goal.overflow_add-value
overflow_add-value c = let all = most (goal.at.overflow_add-value c).After-list_size-value in search rules

pub enclosed_size-size-requires : goal.enclosed_size-size-requires
enclosed_size-size-requires c = record { fits_length = most (goal.at.enclosed_size-size-requires c).After-list_size-value }

pub returns-then-message-size : goal.returns-then-message-size
returns-then-message-size c =
    short-written c.args.answer.now (fine (goal.at.returns-then-message-size c).Else-not-can_be_answered) c.rows.ensures c.kind.ensures c.answering.ensures c.args.transaction (search rules) c.args.message.now
    c.enclosed_size-size.result (rw (← c.list_size-value.ensures) c.enclosed_size-size.ensures) (omega (arith, c.if-message-size.true))

pub put_front-at-requires-clause-fits_length : goal.put_front-at-requires-clause-fits_length
put_front-at-requires-clause-fits_length c = most (goal.at.put_front-at-requires-clause-fits_length c).After-list_size-value

pub put_list-requires-clause-rows_of : goal.put_list-requires-clause-rows_of
put_list-requires-clause-rows_of c = rows (goal.at.put_list-requires-clause-rows_of c).After-rows

pub returns : goal.returns
returns c =
    all_written c.args.answer.now (fine (goal.at.returns c).Else-not-can_be_answered) c.rows.ensures c.kind.ensures c.answering.ensures c.args.transaction (search rules) c.args.message.now
    c.enclosed_size-size.result (rw (← c.list_size-value.ensures) c.enclosed_size-size.ensures) (omega (arith, c.if-message-size.false)) (rw (← c.list_size-value.ensures))
    c.put_front-at.ensures.0 c.put_front-at.ensures.1 c.put_list.ensures

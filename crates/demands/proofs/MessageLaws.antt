-- What is returned and left of a message, read or written, by its verdict: a chain of stages, a refusal that leaves everything, and the number 0 that means acceptance.
-- By the cases of the verdict.
use Rattle.std.specs.Prelude.{Ok, Err}
use mathlib.Core.Path.{◌≡◌, refl, ◌∙◌}
use mathlib.Core.List.{List}
use Prim.Native.Nat.{ℕ, ◌+◌, ◌*◌}
use lib.ListN.{length}
use Rattle.rules.specs.Lists.{ascending}
use Rattle.rules.specs.Layout.{current, answer_size, row_size}
use Rattle.rules.specs.Reply.{identities}
use Rattle.rules.specs.Answer.{answer_of, answer_bytes}
use Rattle.rules.specs.Refusals.{verdict_number, refuse_unless, ◌then◌, cancels_some, fits_in, Verdict}
use Rattle.rules.specs.Applied.{fill}
use Rattle.rules.specs.declared.Refusal.TheVariants.{CancelsNothing, ShortBuffer, AnswerWrong}
use Rattle.rules.proofs.VerdictLaws.{then_end, first_append}
use Rattle.rules.proofs.OutcomeLaws.{fill-accepted, fill-refused}
use Rattle.answer_judge.specs.Answerable.{answerable}
use Rattle.wire.specs.MessageRefusals.{message_tests, message_verdict}
use Rattle.wire.specs.MessageSaid.{said_in}
use Rattle.wire.specs.MessageOutcome.{transaction_by}
use Rattle.wire.specs.CancelRead.{cancel_request, record_room, later_tests, cancel_verdict, record_of, cancel_read}
use Rattle.wire.specs.declared.Message.TheVariants.{CancelRequest}
use Rattle.responses.specs.Response.{response_of, response_verdict, response_written}
use Rattle.responses.specs.ResponseRead.{answering, rows_read, answer_read, row_tests, read_verdict, response_read}
use Rattle.demands.proofs.NumberLaws.{fill-number}

-- ---- stage by stage

-- 13 to 16, then 7, then 8
pub cancel_chain : (message : List ℕ) (room : ℕ)
    → cancel_verdict message room
    ≡ message_verdict CancelRequest message then refuse_unless (cancels_some (cancel_request (said_in CancelRequest message))) CancelsNothing then refuse_unless (fits_in (record_room (said_in CancelRequest message)) room) ShortBuffer
unfolding cancel_verdict message_verdict
cancel_chain message room =
    let said = said_in CancelRequest message in
    rw (first_append (message_tests CancelRequest message) (later_tests said room), then_end (refuse_unless (fits_in (record_room said) room) ShortBuffer))

-- 17, then 8
pub sent_chain : (answer : List ℕ) (t room : ℕ)
    → response_verdict answer t room ≡ refuse_unless (answerable answer) AnswerWrong then refuse_unless (fits_in (length (response_of (answer_of current answer) t)) room) ShortBuffer
unfolding response_verdict
sent_chain answer t room = rw (then_end (refuse_unless (fits_in (length (response_of (answer_of current answer) t)) room) ShortBuffer))

-- 13 to 16, then 17, then 8
pub response_chain : (message : List ℕ) (room : ℕ)
    → read_verdict message room
    ≡ message_verdict (answering message) message then refuse_unless (ascending (identities (rows_read message))) AnswerWrong then refuse_unless (fits_in (answer_size current + row_size current * length (rows_read message)) room) ShortBuffer
unfolding read_verdict message_verdict
response_chain message room =
    let rows = rows_read message in
    rw (first_append (message_tests (answering message) message) (row_tests rows room), then_end (refuse_unless (fits_in (answer_size current + row_size current * length rows) room) ShortBuffer))

-- ---- what is left

transaction-refused : (v : Verdict) (t : ℕ) → (verdict_number v ≡ 0 → ⊥) → transaction_by v t ≡ 0
transaction-refused (Ok tt) t h = absurd (h refl)
transaction-refused (Err x) t h = refl

-- a refusal gives transaction identifier 0 and length 0, and leaves the buffer
left-refused : (v : Verdict) (bs buffer : List ℕ) (t : ℕ) → ((fill v bs buffer).number ≡ 0 → ⊥)
    → (transaction_by v t ≡ 0) × ((fill v bs buffer).length ≡ 0) × ((fill v bs buffer).buffer ≡ buffer)
left-refused v bs buffer t h =
    let f = fill-refused v bs buffer h in
    (transaction-refused v t (λ z. h (fill-number v bs buffer ∙ z)), f.0, f.1)

module _ (message buffer : List ℕ) where
  -- ---- a PWS CANCEL REQUEST that is read

  abbrev verdict : Verdict
  verdict = cancel_verdict message (length buffer)

  pub cancel-number : (cancel_read message buffer).number ≡ verdict_number verdict
  unfolding cancel_read
  cancel-number = fill-number verdict (record_of (said_in CancelRequest message)) buffer

  pub cancel-accepted : (cancel_read message buffer).number ≡ 0 → verdict ≡ Ok tt
  unfolding cancel_read
  cancel-accepted e = fill-accepted verdict (record_of (said_in CancelRequest message)) buffer e

  pub cancel-refused : ((cancel_read message buffer).number ≡ 0 → ⊥)
      → ((cancel_read message buffer).transaction ≡ 0) × ((cancel_read message buffer).length ≡ 0) × ((cancel_read message buffer).buffer ≡ buffer)
  unfolding cancel_read
  cancel-refused h = left-refused verdict (record_of (said_in CancelRequest message)) buffer (said_in CancelRequest message).transaction h

  -- ---- a response that is read

  abbrev judged : Verdict
  judged = read_verdict message (length buffer)

  pub response-number : (response_read message buffer).number ≡ verdict_number judged
  unfolding response_read
  response-number = fill-number judged (answer_bytes current (answer_read message)) buffer

  pub response-accepted : (response_read message buffer).number ≡ 0 → judged ≡ Ok tt
  unfolding response_read
  response-accepted e = fill-accepted judged (answer_bytes current (answer_read message)) buffer e

  pub response-refused : ((response_read message buffer).number ≡ 0 → ⊥)
      → ((response_read message buffer).transaction ≡ 0) × ((response_read message buffer).length ≡ 0) × ((response_read message buffer).buffer ≡ buffer)
  unfolding response_read
  response-refused h = left-refused judged (answer_bytes current (answer_read message)) buffer (said_in (answering message) message).transaction h

-- ---- a response that is written

module _ (answer : List ℕ) (t : ℕ) (message : List ℕ) where
  pub sent-number : (response_written answer t message).number ≡ verdict_number (response_verdict answer t (length message))
  unfolding response_written
  sent-number = fill-number (response_verdict answer t (length message)) (response_of (answer_of current answer) t) message

  pub sent-accepted : (response_written answer t message).number ≡ 0 → response_verdict answer t (length message) ≡ Ok tt
  unfolding response_written
  sent-accepted e = fill-accepted (response_verdict answer t (length message)) (response_of (answer_of current answer) t) message e

  pub sent-refused : ((response_written answer t message).number ≡ 0 → ⊥) → ((response_written answer t message).length ≡ 0) × ((response_written answer t message).buffer ≡ message)
  unfolding response_written
  sent-refused h = fill-refused (response_verdict answer t (length message)) (response_of (answer_of current answer) t) message h

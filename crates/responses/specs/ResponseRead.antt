-- A response that is read: which of the two it is, the answer that it gives, and what reading it leaves.
use Rattle.std.specs.Prelude.{cond, List, [], ◌∷◌, ◌++◌, ℕ, ◌+◌, ◌*◌, length}
use Rattle.rules.specs.Lists.{ascending}
use Rattle.rules.specs.Layout.{current, answer_size, row_size}
use Rattle.rules.specs.Record.{write_replace, cancel_or_kill}
use Rattle.rules.specs.Reply.{Row, identities}
use Rattle.rules.specs.Answer.{Answer, answer_bytes}
use Rattle.rules.specs.Refusals.{Test, test, first_of, fits_in, Verdict}
use Rattle.rules.specs.Applied.{fill}
use Rattle.rules.specs.declared.Refusal.TheVariants.{AnswerWrong, ShortBuffer}
use Rattle.wire.specs.MessageRefusals.{is_this, message_tests}
use Rattle.wire.specs.MessageSaid.{said_in}
use Rattle.wire.specs.MessageOutcome.{MessageOutcome, transaction_by, with_transaction}
use Rattle.wire.specs.declared.Message.{Message}
use Rattle.wire.specs.declared.Message.TheVariants.{CancelRequest, CancelResponse, WriteReplaceResponse}

-- a WRITE-REPLACE WARNING RESPONSE if the frame says so; any other message is judged as a PWS CANCEL RESPONSE
unfoldable pub answering : List ℕ → Message
answering b = cond (is_this WriteReplaceResponse b) WriteReplaceResponse CancelResponse

-- ---- the answer

abbrev pub kind_answered : Message → ℕ
kind_answered WriteReplaceResponse = write_replace
kind_answered CancelResponse = cancel_or_kill
kind_answered CancelRequest = cancel_or_kill

-- "with message identifier and serial number 0"
abbrev pub unnamed : ℕ → List Row → Answer
unnamed kind rows = record { kind = kind; identifier = 0; serial = 0; reply = record { rows = rows } }

abbrev pub rows_read : List ℕ → List Row
rows_read b = (said_in (answering b) b).cells

unfoldable pub answer_read : List ℕ → Answer
answer_read b = unnamed (kind_answered (answering b)) (rows_read b)

-- ---- reading: "13 to 16 as in 5/13, 17 for cells that don't ascend, then 8"

-- 17, then 8
abbrev pub row_tests : List Row → ℕ → List Test
row_tests rows room =
    test (ascending (identities rows)) AnswerWrong
    ∷ test (fits_in (answer_size current + row_size current * length rows) room) ShortBuffer
    ∷ []

abbrev pub read_tests : List ℕ → ℕ → List Test
read_tests b room = message_tests (answering b) b ++ row_tests (rows_read b) room

unfoldable pub read_verdict : List ℕ → ℕ → Verdict
read_verdict b room = first_of (read_tests b room)

unfoldable pub response_read : List ℕ → List ℕ → MessageOutcome
response_read b buffer =
    with_transaction (fill (read_verdict b (length buffer)) (answer_bytes current (answer_read b)) buffer)
    (transaction_by (read_verdict b (length buffer)) (said_in (answering b) b).transaction)

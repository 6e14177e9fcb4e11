-- What is promised of responses and of what writing and reading them leaves, whatever code does it.
use Rattle.std.specs.Prelude.{◌≡◌, true, ◌&&◌, ◌||◌, List, [], ℕ, ◌<◌, eqb, length, Ok, Err}
use Rattle.octets.specs.Runs.{Bytes}
use Rattle.rules.specs.Layout.{current}
use Rattle.rules.specs.Record.{kind_of}
use Rattle.rules.specs.Answer.{Answer, answer_of, answer_bytes}
use Rattle.rules.specs.Refusals.{first_of, Exact}
use Rattle.rules.specs.Applied.{fill}
use Rattle.rules.specs.declared.Refusal.{Refusal}
use Rattle.answer_judge.specs.Answerable.{answerable}
use Rattle.formats.specs.Format.{found}
use Rattle.wire.specs.Frame.{Frame, successful_outcome, write_replace_warning, pws_cancel, outer}
use Rattle.wire.specs.MessageTree.{Elements, message}
use Rattle.wire.specs.MessageRefusals.{is_this}
use Rattle.wire.specs.MessagePromises.{bare}
use Rattle.wire.specs.MessageOutcome.{transaction_by, with_transaction, refused}
use Rattle.responses.specs.Response.{response_to, response_for, response_of, response_tests, response_verdict, response_written}
use Rattle.responses.specs.ResponseRead.{answering, unnamed, answer_read, row_tests, read_tests, read_verdict, response_read}

-- the answer as its response gives it back: the same kind, cells and counts
abbrev pub without_names : Answer → Answer
without_names a = unnamed a.kind a.reply.rows

-- ---- what is written

pub record WellWritten : Type 0 where
  -- it is a value of its message's format, and so it is read as that tree and nothing else
  pub encoded : (b : List ℕ) (t : ℕ) → Bytes b → answerable b ≡ true → t < 256
      → let m = response_to (kind_of (answer_of current b).kind) in
      let tree = response_for m t (answer_of current b).reply.rows in
      (message m).fits tree × ((message m).parse (response_of (answer_of current b) t) ≡ found tree [])
  -- "reads back as the same kind, cells, counts and transaction identifier", whatever the buffer: with room for it, in number 0
  pub read_back : (b : List ℕ) (t : ℕ) (buffer : List ℕ) → Bytes b → answerable b ≡ true → t < 256
      → let a = without_names (answer_of current b) in
      let v = first_of (row_tests a.reply.rows (length buffer)) in
      response_read (response_of (answer_of current b) t) buffer ≡ with_transaction (fill v (answer_bytes current a) buffer) (transaction_by v t)

-- ---- "an answer that the reader gives comes back whole when written and read once more"

pub record Whole (b : List ℕ) (t : ℕ) : Type 0 where
  pub given : List ℕ
  pub is : given ≡ answer_bytes current (answer_read b)
  -- 17 is not given, and it is read as what was written
  pub taken : answerable given ≡ true
  pub reads : answer_of current given ≡ answer_read b
  pub back : (buffer : List ℕ) → response_read (response_of (answer_of current given) t) buffer
      ≡ with_transaction (fill (first_of (row_tests (answer_read b).reply.rows (length buffer))) given buffer) (transaction_by (first_of (row_tests (answer_read b).reply.rows (length buffer))) t)

abbrev pub OnceMore : Type 0
OnceMore = (b : List ℕ) (room t : ℕ) → Bytes b → t < 256 → read_verdict b room ≡ Ok tt → Whole b t

-- ---- what is skipped changes nothing

abbrev pub SameAnswer : Type 0
SameAnswer =
    (b c buffer : List ℕ) (f g : Frame Elements) → answering b ≡ answering c → (message (answering b)).parse b ≡ found f [] → (message (answering c)).parse c ≡ found g []
    → is_this (answering b) b ≡ true → is_this (answering c) c ≡ true → bare f.value ≡ bare g.value → response_read b buffer ≡ response_read c buffer

-- ---- which messages are responses: a successful outcome of one of the two procedures, and no other

abbrev pub TheTwo : Type 0
TheTwo =
    (b rest : List ℕ) (f : Frame (List ℕ)) → outer.parse b ≡ found f rest
    → is_this (answering b) b ≡ (eqb f.choice successful_outcome && (eqb f.code write_replace_warning || eqb f.code pws_cancel))

-- ---- a refusal leaves every byte, and gives 0 for all but its number

pub record Refusing : Type 0 where
  pub write-exact : (b : List ℕ) (t room : ℕ) → Exact (response_verdict b t room) (response_tests b t room)
  pub write-leaves : (b : List ℕ) (t : ℕ) (buffer : List ℕ) (x : Refusal) → response_verdict b t (length buffer) ≡ Err x
      → response_written b t buffer ≡ fill (Err x) [] buffer
  pub read-exact : (b : List ℕ) (room : ℕ) → Exact (read_verdict b room) (read_tests b room)
  pub read-leaves : (b buffer : List ℕ) (x : Refusal) → read_verdict b (length buffer) ≡ Err x → response_read b buffer ≡ refused x buffer

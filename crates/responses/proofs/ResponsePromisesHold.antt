-- The promises of responses hold. What is written is a value of its message's format, and so it is read as that; what is read again makes an answer that can be
-- given; what is skipped changes no verdict and nothing that is said; a refusal's number is the law of tests in order, and what it leaves is computed.
use mathlib.Core.Path.{◌≡◌, refl, sym, ap, ap₂, subst, ◌∙◌}
use mathlib.Core.Bool.{true}
use mathlib.Core.List.{List, []}
use Prim.Native.Nat.{ℕ, ◌<◌}
use lib.ListN.{length}
use Rattle.octets.specs.Runs.{Bytes}
use Rattle.rules.specs.Lists.{ascending}
use Rattle.rules.specs.Layout.{current}
use Rattle.rules.specs.Record.{kind_of}
use Rattle.rules.specs.Reply.{Row, identities}
use Rattle.rules.specs.Answer.{Answer, answer_of, answer_bytes}
use Rattle.rules.specs.Refusals.{first_of, Verdict}
use Rattle.rules.specs.Applied.{fill}
use Rattle.rules.proofs.VerdictLaws.{all_held}
use Rattle.rules.proofs.VerdictsHold.{first-exact}
use Rattle.answer_judge.specs.Answerable.{answerable}
use Rattle.formats.specs.Format.{found}
use Rattle.formats.proofs.FormatLaws.{read-written}
use Rattle.wire.specs.MessageTree.{message}
use Rattle.wire.specs.MessageRefusals.{is_this, message_verdict}
use Rattle.wire.specs.MessageSaid.{Said, said_in}
use Rattle.wire.specs.MessageOutcome.{MessageOutcome, transaction_by, with_transaction}
use Rattle.wire.specs.declared.Message.{Message}
use Rattle.wire.proofs.MessageFormat.{message-alone}
use Rattle.wire.proofs.SoundLaws.{message-sound}
use Rattle.wire.proofs.MessagePromisesHold.{skipping}
use Rattle.responses.specs.Response.{response_to, response_for, response_bytes, response_of, response_tests, response_verdict, response_written}
use Rattle.responses.specs.ResponseRead.{answering, unnamed, rows_read, answer_read, row_tests, read_tests, read_verdict, response_read}
use Rattle.responses.specs.ResponsePromises.{without_names, WellWritten, OnceMore, SameAnswer, Refusing}
use Rattle.responses.proofs.ResponseFit.{Writable, response-fits}
use Rattle.responses.proofs.AnsweringLaws.{response-answers, answering-answers}
use Rattle.responses.proofs.ReadLaws.{left_by_lem, left_by, reads_as}
use Rattle.responses.proofs.WritableLaws.{same_kind, answer_writable, nameless_again, nameless_answerable, nameless_bytes}

-- ---- what is written

response-encoded : (m : Message) (t : ℕ) (rows : List Row) → Writable m t rows
    → (message m).fits (response_for m t rows) × ((message m).parse (response_bytes m t rows) ≡ found (response_for m t rows) [])
unfolding response_bytes
response-encoded m t rows w =
    let fits = response-fits m t rows w in
    (fits, read-written (message m) (message-alone m) (response_for m t rows) fits)

-- what reading the response to an answer leaves
abbrev back_by : ℕ → List ℕ → Answer → MessageOutcome
back_by t buffer a =
    let v = first_of (row_tests a.reply.rows (length buffer)) in
    with_transaction (fill v (answer_bytes current (without_names a)) buffer) (transaction_by v t)

reads-back : (b : List ℕ) (t : ℕ) (buffer : List ℕ) → Bytes b → answerable b ≡ true → t < 256
    → response_read (response_of (answer_of current b) t) buffer ≡ back_by t buffer (answer_of current b)
reads-back b t buffer bytes given h =
    let a = answer_of current b in
    let k = kind_of a.kind in
    let rows = a.reply.rows in
    let w = answer_writable b bytes given t h in
    let v = first_of (row_tests rows (length buffer)) in
    reads_as (response-answers k) (response_of a t) t rows (response-encoded (response_to k) t rows w).1 buffer w.each
    ∙ ap (λ (kind : ℕ). with_transaction (fill v (answer_bytes current (unnamed kind rows)) buffer) (transaction_by v t)) (same_kind b bytes given)

pub well_written : WellWritten
well_written =
    record {
      encoded = λ b t bytes given h. response-encoded (response_to (kind_of (answer_of current b).kind)) t (answer_of current b).reply.rows (answer_writable b bytes given t h);
      read_back = reads-back;
    }

-- ---- read, written and read once more

-- whatever the bytes are, what they say can be said again
said_writable : (m : Message) (b : List ℕ) → Bytes b → Writable m (said_in m b).transaction (said_in m b).cells
said_writable m b bytes = let s = message-sound m b bytes in record { transaction = s.transaction; few = s.few; each = s.each }

pub once_more : OnceMore
unfolding answer_read read_verdict
once_more b room t bytes h e =
    let a = answering-answers b in
    let takes = said_writable (answering b) b bytes in
    let order : ascending (identities (rows_read b)) ≡ true = (all_held (read_tests b room) e).1.1.1.1.0 in
    let given = answer_bytes current (answer_read b) in
    let taken : answerable given ≡ true = nameless_answerable a takes order in
    let reads : answer_of current given ≡ answer_read b = nameless_again a takes order in
    record {
      given = given;
      is = refl;
      taken = taken;
      reads = reads;
      back = λ buffer. reads-back given t buffer (nameless_bytes a takes order) taken h ∙ ap (back_by t buffer) reads;
    }

-- ---- what is skipped

pub same_answer : SameAnswer
same_answer b c buffer f g m p q s t e =
    let read : (message (answering b)).parse c ≡ found g [] = subst (λ (n : Message). (message n).parse c ≡ found g []) (sym m) q in
    let this : is_this (answering b) c ≡ true = subst (λ (n : Message). is_this n c ≡ true) (sym m) t in
    let same = (skipping (answering b)).same b c f g p read s this e in
    left_by b buffer
    ∙ ap₂ (λ (v : Verdict) (x : Said). left_by_lem (answering b) v x buffer) same.0 same.1
    ∙ ap (λ (n : Message). left_by_lem n (message_verdict n c) (said_in n c) buffer) m
    ∙ sym (left_by c buffer)

-- ---- refusals

pub refusing : Refusing
unfolding response_verdict response_written read_verdict response_read fill
refusing =
    record {
      write-exact = λ b t room. first-exact (response_tests b t room);
      write-leaves = λ b t buffer x e. rw e;
      read-exact = λ b room. first-exact (read_tests b room);
      read-leaves = λ b buffer x e. rw e;
    }

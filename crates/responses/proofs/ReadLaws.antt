-- A message that is read as the response to rows is taken for that response, passes 13 to 16, and leaves the answer with those rows.
use Rattle.std.specs.Prelude.{Ok}
use mathlib.Core.Path.{◌≡◌, refl, sym, ap, ap₂, ◌∙◌}
use mathlib.Core.Bool.{true}
use mathlib.Core.List.{List, []}
use Prim.Native.Nat.{ℕ}
use lib.ListN.{length}
use Rattle.rules.specs.Layout.{current}
use Rattle.rules.specs.Reply.{Row}
use Rattle.rules.specs.Answer.{answer_bytes}
use Rattle.rules.specs.Refusals.{◌then◌, first_of, Verdict}
use Rattle.rules.specs.Applied.{fill}
use Rattle.rules.proofs.AllLaws.{All}
use Rattle.rules.proofs.VerdictLaws.{first_append}
use Rattle.formats.specs.Format.{found, after, all_of}
use Rattle.formats.proofs.SummaryLaws.{found-value}
use Rattle.formats.proofs.FoundLaws.{came}
use Rattle.wire.specs.Frame.{Frame, outer}
use Rattle.wire.specs.MessageTree.{Elements, value, message}
use Rattle.wire.specs.MessageRefusals.{is_of, is_this, well_encoded, message_elements, message_tests, message_verdict}
use Rattle.wire.specs.MessageSaid.{Said, said_in}
use Rattle.wire.specs.MessageOutcome.{MessageOutcome, transaction_by, with_transaction}
use Rattle.wire.specs.declared.Message.{Message}
use Rattle.wire.proofs.FrameFormat.{with_value, frame_into}
use Rattle.wire.proofs.SoundLaws.{SoundRow}
use Rattle.responses.specs.Response.{response_for}
use Rattle.responses.specs.ResponseRead.{answering, kind_answered, unnamed, answer_read, rows_read, row_tests, read_verdict, response_read}
use Rattle.responses.proofs.AnsweringLaws.{Answers, framed_answers}
use Rattle.responses.proofs.TreeLaws.{none-rejecting, all_complete, saying, says-rows}

-- ---- any message: its frame is the outer one

frame-said : (m : Message) (b : List ℕ) (f : Frame Elements) → (message m).parse b ≡ found f [] → (n : Message) → is_this n b ≡ is_of n f
unfolding is_this
frame-said m b f e n =
    let into = sym (frame_into (value m) b) ∙ e in
    let first = came (outer.parse b) (λ o r. after (all_of ((value m).parse o.value) r) (λ c s. found (with_value (value m) o c) s)) f [] into in
    let o = first.value in
    let second = came (all_of ((value m).parse o.value) first.rest) (λ c s. found (with_value (value m) o c) s) f [] first.later in
    let same = found-value (with_value (value m) o second.value) f second.rest [] second.later in
    rw first.first (ap (λ (x : Frame Elements). is_of n x) same)

-- ---- what is left, by 13 to 16 and by what is said

abbrev pub left_by_lem : Message → Verdict → Said → List ℕ → MessageOutcome
left_by_lem m v c buffer =
    let w = v then first_of (row_tests c.cells (length buffer)) in
    with_transaction (fill w (answer_bytes current (unnamed (kind_answered m) c.cells)) buffer) (transaction_by w c.transaction)

pub left_by : (b buffer : List ℕ) → response_read b buffer ≡ left_by_lem (answering b) (message_verdict (answering b) b) (said_in (answering b) b) buffer
unfolding response_read answer_read read_verdict message_verdict
left_by b buffer = rw (first_append (message_tests (answering b) b) (row_tests (rows_read b) (length buffer)))

-- ---- the response to rows

module _ {m : Message} (a : Answers m) (b : List ℕ) (t : ℕ) (rows : List Row) (read : (message m).parse b ≡ found (response_for m t rows) []) where
  framed : (answering b ≡ m) × (is_this m b ≡ true)
  unfolding response_for
  framed = framed_answers a b (response_for m t rows) refl refl (frame-said m b (response_for m t rows) read)

  passed : message_verdict m b ≡ Ok tt
  unfolding message_verdict well_encoded message_elements response_for
  passed = rw (framed.1, read, none-rejecting m t rows, all_complete m t a rows)

  told : All (SoundRow m) rows → said_in m b ≡ saying m t rows
  unfolding message_elements response_for
  told s = rw read (says-rows m t s)

  pub reads_as : (buffer : List ℕ) → All (SoundRow m) rows
      → let v = first_of (row_tests rows (length buffer)) in
      response_read b buffer ≡ with_transaction (fill v (answer_bytes current (unnamed (kind_answered m) rows)) buffer) (transaction_by v t)
  reads_as buffer s =
      left_by b buffer ∙ ap (λ (n : Message). left_by_lem n (message_verdict n b) (said_in n b) buffer) framed.0
      ∙ ap₂ (λ (v : Verdict) (c : Said). left_by_lem m v c buffer) passed (told s)

-- An answer that can be given is sent where there is room, and what was sent reads back as the same kind, cells, counts and transaction identifier.
-- Both verdicts are computed from that the answer can be given; what is left then stands at the front of its buffer.
use Rattle.std.specs.Prelude.{Ok, Err}
use mathlib.Core.Path.{◌≡◌, ap, subst, ◌∙◌}
use mathlib.Core.Bool.{true}
use mathlib.Core.List.{List}
use Prim.Native.Nat.{ℕ, ◌≤◌, ◌<◌}
use native.Mathlib.Omega.{arith}
use borrow.Author.Tests.{leb-true, le-leb, lt-leb}
use lib.ListN.{length}
use Rattle.octets.specs.Runs.{Bytes}
use Rattle.rules.specs.Lists.{ascending}
use Rattle.rules.specs.Layout.{current}
use Rattle.rules.specs.Record.{kind_of}
use Rattle.rules.specs.Reply.{identities}
use Rattle.rules.specs.Answer.{Answer, answer_of, answer_bytes}
use Rattle.rules.specs.Refusals.{first_of, Verdict}
use Rattle.rules.specs.Applied.{fill}
use Rattle.rules.specs.declared.Refusal.TheVariants.{ShortBuffer}
use Rattle.rules.proofs.VerdictLaws.{all_held}
use Rattle.rules.proofs.AnswerCodec.{length-answer_bytes}
use Rattle.answer_judge.specs.Answerable.{answerable}
use Rattle.answer_judge.proofs.AnswerableLaws.{answerable_facts}
use Rattle.wire.specs.MessageOutcome.{transaction_by, with_transaction}
use Rattle.responses.specs.Response.{response_of, response_tests, response_verdict, response_written}
use Rattle.responses.specs.ResponseRead.{unnamed, row_tests, response_read}
use Rattle.responses.specs.ResponsePromises.{without_names}
use Rattle.responses.proofs.ResponseSizeLaws.{response-size}
use Rattle.responses.proofs.AnsweringLaws.{response-answers}
use Rattle.responses.proofs.WritableLaws.{same_kind, answer_writable, nameless_again}
use Rattle.responses.proofs.ResponsePromisesHold.{well_written}
use Rattle.pws.specs.Surface.{filled, taken}
use Rattle.pws.specs.declared.PwsDone.{PwsDone}
use Rattle.pws.specs.declared.PwsMessage.{PwsMessage}
use Rattle.pws.specs.Promises.{WriteResponsePromise, ReadResponsePromise}
use Rattle.demands.specs.WireResponse.{sent_as, rows_told, sent_size, answer_room, ReadBack}
use Rattle.demands.proofs.FieldLaws.{length-filled, buffer-filled, number-taken, transaction-taken, length_taken, buffer-taken}
use Rattle.demands.proofs.FrontLaws.{Front, front}

-- ---- sent

module _ (answer : List ℕ) (t : ℕ) where
  -- the response, and the answer as it gives it back
  abbrev pub response : List ℕ
  response = response_of (answer_of current answer) t

  abbrev pub back : Answer
  back = without_names (answer_of current answer)

  pub sent-size : length response ≡ sent_size answer
  sent-size = response-size (sent_as answer) t (rows_told answer)

  pub sent-fits : answerable answer ≡ true → (room : ℕ) → sent_size answer ≤ room → response_verdict answer t room ≡ Ok tt
  unfolding response_verdict
  sent-fits given room h = rw (given, le-leb (length response) room (omega (arith, sent-size, h)))

  pub sent-short : answerable answer ≡ true → (room : ℕ) → room < sent_size answer → response_verdict answer t room ≡ Err ShortBuffer
  unfolding response_verdict
  sent-short given room h = rw (given, lt-leb (length response) room (omega (arith, sent-size, h)))

  -- what a call that was accepted was given
  pub sent-held : (room : ℕ) → response_verdict answer t room ≡ Ok tt → (answerable answer ≡ true) × (length response ≤ room)
  unfolding response_verdict
  sent-held room e = let held = all_held (response_tests answer t room) e in (held.0, leb-true (length response) room held.1.0)

  -- and what it left
  pub sent_front : (buffer : List ℕ) → response_verdict answer t (length buffer) ≡ Ok tt → (d : PwsDone) (buffer' : List ℕ) → WriteResponsePromise answer t buffer d buffer'
      → (d.length ≡ length response) × Front response buffer d.length buffer'
  unfolding response_written fill
  sent_front buffer e d buffer' p =
      let w : filled d buffer' ≡ fill (Ok tt) response buffer = p ∙ ap (λ (v : Verdict). fill v response buffer) e in
      (length-filled w, front response buffer (sent-held (length buffer) e).1 d.length buffer' (length-filled w) (buffer-filled w))

  -- ---- and read back

  module _ (bytes : Bytes answer) (small : t < 256) (given : answerable answer ≡ true) where
    order : ascending (identities (rows_told answer)) ≡ true
    order = (answerable_facts answer given).order

    back-again : answer_of current (answer_bytes current back) ≡ back
    back-again =
        subst (λ (k : ℕ). answer_of current (answer_bytes current (unnamed k (rows_told answer))) ≡ unnamed k (rows_told answer)) (same_kind answer bytes given)
        (nameless_again (response-answers (kind_of (answer_of current answer).kind)) (answer_writable answer bytes given t small) order)

    pub back-left : (buffer : List ℕ) → answer_room (length (rows_told answer)) ≤ length buffer
        → response_read response buffer ≡ with_transaction (fill (Ok tt) (answer_bytes current back) buffer) t
    back-left buffer room =
        let v : first_of (row_tests (rows_told answer) (length buffer)) ≡ Ok tt = rw (order, le-leb (answer_room (length (rows_told answer))) (length buffer) room) in
        well_written.read_back answer t buffer bytes given small
        ∙ ap (λ (x : Verdict). with_transaction (fill x (answer_bytes current back) buffer) (transaction_by x t)) v

    pub back_read : (buffer : List ℕ) → answer_room (length (rows_told answer)) ≤ length buffer → (b : List ℕ) → b ≡ response
        → (m : PwsMessage) (buffer' : List ℕ) → ReadResponsePromise b buffer m buffer'
        → ReadBack answer t m buffer'
    unfolding fill
    back_read buffer room b same m buffer' p =
        let w : taken m buffer' ≡ with_transaction (fill (Ok tt) (answer_bytes current back) buffer) t = p ∙ ap (λ (x : List ℕ). response_read x buffer) same ∙ back-left buffer room in
        let long = length-answer_bytes current back in
        let f = front (answer_bytes current back) buffer (omega (arith, long, room)) m.length buffer' (length_taken w) (buffer-taken w) in
        record {
          number = number-taken w;
          same-transaction = transaction-taken w;
          same_answer = ap (answer_of current) f.whole ∙ back-again;
        }

-- What 6/13 claims of responses holds of every call under the two promises.
-- What was sent and read back is ResponseLaws'; a call that read and returned 0 was accepted, so that it left what a filled buffer is left with; the rest is that of
-- the definitions (responses, ResponsePromisesHold).
use Rattle.std.specs.Prelude.{Ok}
use mathlib.Core.Path.{◌≡◌, refl, sym, ap, ◌∙◌}
use mathlib.Core.Bool.{true, false}
use mathlib.Core.List.{List}
use Prim.Native.Nat.{ℕ, ◌≤◌, ◌<◌}
use native.Mathlib.Omega.{arith}
use borrow.Author.Tests.{leb-true, leb-false, le-leb}
use lib.Dec.{leb}
use lib.ListN.{length, take, replicate, length-replicate}
use Rattle.octets.specs.Runs.{Bytes}
use Rattle.rules.specs.Lists.{ascending}
use Rattle.rules.specs.Layout.{current}
use Rattle.rules.specs.Record.{kind_of}
use Rattle.rules.specs.Reply.{identities}
use Rattle.rules.specs.Answer.{Answer, answer_of, answer_bytes}
use Rattle.rules.specs.Refusals.{verdict_number, first_of, Verdict}
use Rattle.rules.specs.Applied.{fill}
use Rattle.rules.proofs.TestLaws.{by_test}
use Rattle.rules.proofs.VerdictLaws.{then_accepted}
use Rattle.rules.proofs.AnswerCodec.{length-answer_bytes}
use Rattle.answer_judge.specs.Answerable.{answerable}
use Rattle.answer_judge.proofs.ExactAnswersHold.{exact-answers}
use Rattle.wire.specs.MessageTree.{message}
use Rattle.wire.specs.MessageRefusals.{message_verdict}
use Rattle.wire.specs.MessageSaid.{said_in}
use Rattle.wire.specs.MessageOutcome.{transaction_by, with_transaction}
use Rattle.wire.specs.declared.Message.{Message}
use Rattle.wire.proofs.SoundLaws.{message-sound}
use Rattle.responses.specs.Response.{response_to, response_for, response_bytes, response_of, response_verdict}
use Rattle.responses.specs.ResponseSize.{response_size}
use Rattle.responses.specs.ResponseRead.{answering, kind_answered, rows_read, answer_read, row_tests, read_verdict, response_read}
use Rattle.responses.proofs.AnsweringLaws.{Answers, starts, stops, answering-answers, the_two}
use Rattle.responses.proofs.ResponsePromisesHold.{well_written, once_more, same_answer, refusing}
use Rattle.pws.specs.Surface.{taken}
use Rattle.pws.specs.declared.PwsDone.{PwsDone}
use Rattle.pws.specs.declared.PwsMessage.{PwsMessage}
use Rattle.pws.specs.Promises.{WriteResponsePromise, ReadResponsePromise}
use Rattle.demands.specs.WireResponse.{sent_as, rows_told, sent_size, Sent, answer_room, Given, OnceMore, WireResponse}
use Rattle.demands.proofs.FieldLaws.{number-filled, length-filled, buffer-filled, number-taken, transaction-taken, length_taken, buffer-taken}
use Rattle.demands.proofs.FrontLaws.{front}
use Rattle.demands.proofs.ReadAsLaws.{parsed, tree-read, read_as}
use Rattle.demands.proofs.MessageLaws.{response_chain, sent-number, sent-accepted, response-number, response-accepted}
use Rattle.demands.proofs.ResponseLaws.{response, sent-size, sent-fits, sent-short, sent-held, sent_front, back-left, back_read}

-- ---- written

-- 13 to 16 are passed: it is read where there is room
response-passes : (answer : List ℕ) (t : ℕ) → Bytes answer → t < 256 → answerable answer ≡ true → message_verdict (answering (response answer t)) (response answer t) ≡ Ok tt
unfolding fill
response-passes answer t bytes small given =
    let n = answer_room (length (rows_told answer)) in
    let buffer : List ℕ = replicate n 0 in
    let long : length buffer ≡ n = length-replicate {A = ℕ} n 0 in
    let z : (response_read (response answer t) buffer).number ≡ 0 = number-taken (back-left answer t bytes small given buffer (omega (arith, long))) in
    let e = response-accepted (response answer t) buffer z in
    (then_accepted (message_verdict (answering (response answer t)) (response answer t)) _ (sym (response_chain (response answer t) (length buffer)) ∙ e)).0

module _ (answer : List ℕ) (t : ℕ) (buffer : List ℕ) (d : PwsDone) (buffer' : List ℕ) (p : WriteResponsePromise answer t buffer d buffer') where
  number_is : d.number ≡ verdict_number (response_verdict answer t (length buffer))
  number_is = number-filled p ∙ sent-number answer t buffer

  passed : d.number ≡ 0 → response_verdict answer t (length buffer) ≡ Ok tt
  passed z = sent-accepted answer t buffer (sym (number-filled p) ∙ z)

  whole_sent : Bytes answer → t < 256 → d.number ≡ 0 → Sent answer t buffer d buffer'
  unfolding response_bytes
  whole_sent bytes small z =
      let m = sent_as answer in
      let given = (sent-held answer t (length buffer) (passed z)).0 in
      let f = sent_front answer t buffer (passed z) d buffer' p in
      let e = well_written.encoded answer t bytes given small in
      record {
        size = f.0 ∙ sent-size answer t;
        whole = f.1.whole;
        behind = f.1.behind;
        read_as = tree-read m (take d.length buffer') (response_for m t (rows_told answer)) e.0 (sym f.1.whole) (ap (message m).parse f.1.whole ∙ e.1);
        passes = rw f.1.whole (response-passes answer t bytes small given);
      }

  sent-short_or : answerable answer ≡ true → (length buffer < sent_size answer → d.number ≡ 8) × (sent_size answer ≤ length buffer → d.number ≡ 0)
  sent-short_or given =
      (λ h. number_is ∙ ap verdict_number (sent-short answer t given (length buffer) h), λ h. number_is ∙ ap verdict_number (sent-fits answer t given (length buffer) h))

  seventeen : answerable answer ≡ false → d.number ≡ 17
  unfolding response_verdict
  seventeen e = rw e at number_is

  -- an answer that can be given gets 0 or 8
  seventeen_only : d.number ≡ 17 → answerable answer ≡ false
  seventeen_only z =
      by_test (answerable answer)
      (λ given.
      let n = sent-short_or given in
      by_test (leb (sent_size answer) (length buffer)) (λ e. absurd (omega (arith, z, n.1 (leb-true (sent_size answer) (length buffer) e))))
      (λ e. absurd (omega (arith, z, n.0 (leb-false (sent_size answer) (length buffer) e)))))
      (λ e. e)

-- ---- read

module _ (message buffer : List ℕ) (m : PwsMessage) (buffer' : List ℕ) (p : ReadResponsePromise message buffer m buffer') where
  judged : m.number ≡ 0 → read_verdict message (length buffer) ≡ Ok tt
  judged z = response-accepted message buffer (sym (number-taken p) ∙ z)

  answer-given : Bytes message → m.number ≡ 0 → Given message buffer m buffer'
  unfolding response_read answer_read fill
  answer-given bytes z =
      let e = judged z in
      let bs = answer_bytes current (answer_read message) in
      let t = (said_in (answering message) message).transaction in
      let w : taken m buffer' ≡ with_transaction (fill (Ok tt) bs buffer) t = p ∙ ap (λ (v : Verdict). with_transaction (fill v bs buffer) (transaction_by v t)) e in
      let held = (refusing.read-exact message (length buffer)).accepted e in
      let room = leb-true (answer_room (length (rows_read message))) (length buffer) held.1.1.1.1.1.0 in
      let long : length bs ≡ answer_room (length (rows_read message)) = length-answer_bytes current (answer_read message) in
      let f = front bs buffer (omega (arith, long, room)) m.length buffer' (length_taken w) (buffer-taken w) in
      let again = once_more message (length buffer) 0 bytes (omega arith) e in
      record {
        size = length_taken w ∙ long;
        whole = f.whole;
        behind = f.behind;
        reads = ap (answer_of current) (f.whole ∙ sym again.is) ∙ again.reads;
        transaction = transaction-taken w;
        one_byte = omega (arith, transaction-taken w, (message-sound (answering message) message bytes).transaction);
      }

-- ---- read, written and read once more

-- the answer that a response gives is sent as that response
sent-again : {m : Message} → Answers m → response_to (kind_of (kind_answered m)) ≡ m
sent-again starts = refl
sent-again stops = refl

module _ (message buffer response again : List ℕ) (t : ℕ) (bytes : Bytes message) (small : t < 256) (m : PwsMessage) (buffer' : List ℕ) (p : ReadResponsePromise message buffer m buffer') (z : m.number ≡ 0) where
  abbrev answer : List ℕ
  answer = take m.length buffer'

  given : Given message buffer m buffer'
  given = answer-given message buffer m buffer' p bytes z

  whole_again : response_size (answering message) (length (rows_read message)) ≤ length response
      → (d : PwsDone) (response' : List ℕ) → WriteResponsePromise answer t response d response'
      → m.length ≤ length again
      → (n : PwsMessage) (again' : List ℕ) → ReadResponsePromise (take d.length response') again n again'
      → OnceMore t m buffer' d n again'
  unfolding answer_read fill
  whole_again room d response' q space n again' r =
      let e = judged message buffer m buffer' p z in
      let w = once_more message (length buffer) t bytes small e in
      let is : answer ≡ w.given = given.whole ∙ sym w.is in
      let size : sent_size answer ≡ response_size (answering message) (length (rows_read message)) =
      ap (λ (a : Answer). response_size (response_to (kind_of a.kind)) (length a.reply.rows)) given.reads
      ∙ ap (λ (x : Message). response_size x (length (rows_read message))) (sent-again (answering-answers message)) in
      let v = sent-fits answer t (rw is w.taken) (length response) (omega (arith, size, room)) in
      let f = sent_front answer t response v d response' q in
      let same : take d.length response' ≡ response_of (answer_of current w.given) t = f.1.whole ∙ ap (λ (b : List ℕ). response_of (answer_of current b) t) is in
      let order : ascending (identities (rows_read message)) ≡ true = ((refusing.read-exact message (length buffer)).accepted e).1.1.1.1.0 in
      let fits : first_of (row_tests (rows_read message) (length again)) ≡ Ok tt =
      rw (order, le-leb (answer_room (length (rows_read message))) (length again) (omega (arith, given.size, space))) in
      let back : taken n again' ≡ with_transaction (fill (Ok tt) w.given again) t =
      r ∙ ap (λ (b : List ℕ). response_read b again) same ∙ w.back again ∙ ap (λ (x : Verdict). with_transaction (fill x w.given again) (transaction_by x t)) fits in
      let long : length w.given ≡ m.length = ap length w.is ∙ length-answer_bytes current (answer_read message) ∙ sym given.size in
      let g = front w.given again (omega (arith, long, space)) n.length again' (length_taken back) (buffer-taken back) in
      record {
        written = number_is answer t response d response' q ∙ ap verdict_number v;
        read = number-taken back;
        same-transaction = transaction-taken back;
        same_bytes = g.whole ∙ sym is;
      }

-- ---- all of it

pub wire_response-holds : WireResponse
unfolding fill
wire_response-holds =
    record {
      sent = λ answer t buffer bytes small d buffer' p z. whole_sent answer t buffer d buffer' p bytes small z;
      wrong = λ answer t buffer d buffer' p. (seventeen answer t buffer d buffer' p, seventeen_only answer t buffer d buffer' p);
      exact = exact-answers;
      short = sent-short_or;
      unsent = λ answer t buffer d buffer' p x f.
          let w = p ∙ refusing.write-leaves answer t buffer x ((refusing.write-exact answer t (length buffer)).refuses x f) in
          (number-filled w, length-filled w, buffer-filled w);
      sent_if = λ answer t buffer d buffer' p.
          let exact = refusing.write-exact answer t (length buffer) in
          (λ held. number_is answer t buffer d buffer' p ∙ ap verdict_number (exact.accepts held), λ z. exact.accepted (passed answer t buffer d buffer' p z));
      given = λ message buffer bytes m buffer' p z. answer-given message buffer m buffer' p bytes z;
      read_as = λ message buffer bytes m buffer' p z.
          let held = (refusing.read-exact message (length buffer)).accepted (judged message buffer m buffer' p z) in
          let w = parsed (answering message) message held.0 held.1.0 in
          (w.tree, read_as (answering message) message bytes w.tree w.is);
      the_two = the_two;
      refused = λ message buffer m buffer' p x f.
          let w = p ∙ refusing.read-leaves message buffer x ((refusing.read-exact message (length buffer)).refuses x f) in
          (number-taken w, transaction-taken w, length_taken w, buffer-taken w);
      accepted = λ message buffer m buffer' p.
          let exact = refusing.read-exact message (length buffer) in
          (λ held. number-taken p ∙ response-number message buffer ∙ ap verdict_number (exact.accepts held), λ z. exact.accepted (judged message buffer m buffer' p z));
      read_back = λ answer t response buffer bytes small d response' p z room m buffer' q.
          let v = passed answer t response d response' p z in
          let given = (sent-held answer t (length response) v).0 in
          back_read answer t bytes small given buffer room (take d.length response') (sent_front answer t response v d response' p).1.whole m buffer' q;
      once_more = λ message buffer response again t bytes small m buffer' p z. whole_again message buffer response again t bytes small m buffer' p z;
      same-given = λ first second buffer tree other same f s this also bares m buffer' p n buffer'' q.
          let w = p ∙ same_answer first second buffer tree other same f s this also bares ∙ sym q in
          record {
            same_number = number-taken w;
            same-transaction = transaction-taken w;
            same_length = length_taken w;
            same_bytes = buffer-taken w;
          };
    }

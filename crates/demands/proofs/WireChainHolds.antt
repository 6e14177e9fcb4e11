-- The wire chain holds. Where the Cancel was applied its answer can be given (ChainLinks), so it is sent and read back (WireResponseHolds); where it was not, an empty
-- record, an empty answer and an empty message are refused one after the other.
use mathlib.Core.Path.{◌≡◌, refl, sym, ap, ◌∙◌}
use mathlib.Core.Bool.{true, false≢true}
use mathlib.Core.List.{List, []}
use Prim.Native.Nat.{ℕ, ◌≤◌, ◌<◌}
use native.Mathlib.Omega.{arith}
use lib.ListN.{length, take}
use Rattle.octets.specs.Runs.{Bytes}
use Rattle.rules.specs.Layout.{current}
use Rattle.rules.specs.Table.{Cell}
use Rattle.rules.specs.Record.{cancel_or_kill, kind_of}
use Rattle.rules.specs.Answer.{Answer, answer_of, legal_answer}
use Rattle.rules.specs.Applied.{fill, applied}
use Rattle.rules.specs.declared.Refusal.TheVariants.{BadEncoding, AnswerWrong}
use Rattle.rules.proofs.AllLaws.{All, none, more, all_imply}
use Rattle.rules.proofs.OutcomeLaws.{applied-accepted, applied-refused}
use Rattle.rules.proofs.AcceptedRecordLaws.{record-accepted}
use Rattle.rules.proofs.AcceptedCallLaws.{call_accepted}
use Rattle.answer_judge.specs.Answerable.{answerable}
use Rattle.formats.specs.Format as formats
use Rattle.formats.specs.Format.{Each, number, behind, only, as_if}
use Rattle.formats.specs.Bits.{bits}
use Rattle.aper.specs.Elements.{two_bits}
use Rattle.wire.specs.Frame.{frame}
use Rattle.wire.specs.MessageRefusals.{is_this, well_encoded}
use Rattle.wire.specs.CancelRead.{cancel_request, cancel_read}
use Rattle.wire.specs.MessageOutcome.{refused}
use Rattle.wire.specs.declared.Message.TheVariants.{CancelResponse}
use Rattle.responses.specs.Response.{response_to, response_verdict, response_written}
use Rattle.responses.specs.ResponseSize.{response_size}
use Rattle.responses.specs.ResponseRead.{unnamed, answering, read_verdict, response_read}
use Rattle.responses.specs.ResponsePromises.{without_names}
use Rattle.responses.proofs.ResponsePromisesHold.{refusing}
use Rattle.pws.specs.Surface.{filled, taken}
use Rattle.demands.specs.WireResponse.{rows_told, sent_size, answer_room}
use Rattle.demands.specs.WireChain.{stopped, Chain, Went, Carried, Nothing, WireChain}
use Rattle.demands.proofs.FieldLaws.{number-filled, length-filled, buffer-filled, number-left, length-left, table-left, answer-left, number-taken, length_taken, buffer-taken}
use Rattle.demands.proofs.MessageLaws.{cancel-refused}
use Rattle.demands.proofs.WireResponseHolds.{wire_response-holds}
use Rattle.demands.proofs.StoppedLaws.{told-cell}
use Rattle.demands.proofs.ChainLinks.{told, record-taken, cells-sound, table-after, told-reads, told-bytes, told-given}

-- ---- what is empty is refused

empty-record : (table answer : List ℕ) → (applied current table [] answer).number ≡ 0 → ⊥
empty-record table answer e =
    let call = call_accepted current table [] (length answer) (applied-accepted current table [] answer e) in
    omega (arith, (record-accepted current [] call.req).long)

empty-answer : (t : ℕ) (buffer : List ℕ) → response_written [] t buffer ≡ record { number = 17; length = 0; buffer = buffer }
unfolding response_verdict answerable legal_answer fill
empty-answer t buffer = refusing.write-leaves [] t buffer AnswerWrong refl

empty-message : (buffer : List ℕ) → response_read [] buffer ≡ refused BadEncoding buffer
unfolding read_verdict answering is_this well_encoded frame behind two_bits bits as_if only number
empty-message buffer = refusing.read-leaves [] buffer BadEncoding refl

each_of : {P : Cell → Type 0} {cs : List Cell} → All P cs → Each P cs
each_of none = formats.none
each_of (more p ps) = formats.more p (each_of ps)

-- ---- a chain

module _ {message buffer table answer response back : List ℕ} (links : Chain message buffer table answer response back) where
  abbrev t : ℕ
  t = links.taken.transaction

  -- ---- the Cancel was applied

  module _ (message-bytes : Bytes message) (table-bytes : Bytes table) (went : Went links) where
    abbrev needed : ℕ
    needed = response_size CancelResponse (length (stopped message table))

    given : answerable (told links) ≡ true
    given = told-given links message-bytes table-bytes went

    -- what is sent, and what comes back, by the rows
    size_is : sent_size (told links) ≡ needed
    unfolding cancel_request
    size_is = ap (λ (a : Answer). response_size (response_to (kind_of a.kind)) (length a.reply.rows)) (told-reads links message-bytes table-bytes went)

    back_is : without_names (answer_of current (told links)) ≡ unnamed cancel_or_kill (stopped message table)
    unfolding cancel_request
    back_is = ap without_names (told-reads links message-bytes table-bytes went)

    written-fits : needed ≤ length response → links.written.number ≡ 0
    written-fits room = (wire_response-holds.short (told links) t response links.written links.response' links.wrote given).1 (omega (arith, size_is, room))

    written-short : length response < needed → links.written.number ≡ 8
    written-short room = (wire_response-holds.short (told links) t response links.written links.response' links.wrote given).0 (omega (arith, size_is, room))

    never_wrong : links.written.number ≡ 17 → ⊥
    never_wrong z = false≢true (sym ((wire_response-holds.wrong (told links) t response links.written links.response' links.wrote).1 z) ∙ given)

    carried : needed ≤ length response → answer_room (length (stopped message table)) ≤ length back → Carried links
    carried room space =
        let small : t < 256 = (record-taken links message-bytes table-bytes went).one_byte in
        let many : length (rows_told (told links)) ≡ length (stopped message table) = ap (λ (a : Answer). length a.reply.rows) (told-reads links message-bytes table-bytes went) in
        let b = wire_response-holds.read_back (told links) t response back (told-bytes links message-bytes table-bytes went) small
        links.written links.response' links.wrote (written-fits room) (rw many space) links.returned links.back' links.came-back in
        record {
          sent = written-fits room;
          read = b.number;
          same-transaction = b.same-transaction ∙ (record-taken links message-bytes table-bytes went).transaction;
          same-cells = b.same_answer ∙ back_is;
        }

  -- ---- it was not

  unapplied : (links.done.number ≡ 0 → ⊥) → Nothing links
  unapplied h =
      let r = applied-refused current table (take links.taken.length links.buffer') answer (λ z. h (number-left links.did ∙ z)) in
      let no_answer : told links ≡ [] = ap (λ n. take n links.answer') (length-left links.did ∙ r.0) in
      let w : filled links.written links.response' ≡ record { number = 17; length = 0; buffer = response } =
      links.wrote ∙ ap (λ (a : List ℕ). response_written a t response) no_answer ∙ empty-answer t response in
      let no-message : take links.written.length links.response' ≡ [] = ap (λ n. take n links.response') (length-filled w) in
      let b : taken links.returned links.back' ≡ refused BadEncoding back =
      links.came-back ∙ ap (λ (m : List ℕ). response_read m back) no-message ∙ empty-message back in
      record {
        not_done = h;
        same-table = table-left links.did ∙ r.1;
        same_answer = answer-left links.did ∙ r.2;
        unsent = (number-filled w, buffer-filled w);
        unread = (number-taken b, buffer-taken b);
      }

  untaken : (links.taken.number ≡ 0 → ⊥) → (links.buffer' ≡ buffer) × Nothing links
  untaken h =
      let r = cancel-refused message buffer (λ z. h (number-taken links.took ∙ z)) in
      let no_record : take links.taken.length links.buffer' ≡ [] = ap (λ n. take n links.buffer') (length_taken links.took ∙ r.1) in
      let done = ap (λ (a : List ℕ). (applied current table a answer).number) no_record in
      (buffer-taken links.took ∙ r.2, unapplied (λ z. empty-record table answer (sym done ∙ sym (number-left links.did) ∙ z)))

-- ---- every input has a chain: each link is a definition of the one before it

chain : (message buffer table answer response back : List ℕ) → Chain message buffer table answer response back
chain message buffer table answer response back =
    let m = cancel_read message buffer in
    let o = applied current table (take m.length m.buffer) answer in
    let w = response_written (take o.length o.answer) m.transaction response in
    let b = response_read (take w.length w.buffer) back in
    record {
      taken = record { number = m.number; transaction = m.transaction; length = m.length };
      buffer' = m.buffer;
      took = refl;
      done = record { number = o.number; length = o.length };
      table' = o.table;
      answer' = o.answer;
      did = refl;
      written = record { number = w.number; length = w.length };
      response' = w.buffer;
      wrote = refl;
      returned = record { number = b.number; transaction = b.transaction; length = b.length };
      back' = b.buffer;
      came-back = refl;
    }

-- ---- all of it

pub wire_chain_holds : WireChain
wire_chain_holds =
    record {
      holds = λ message buffer table answer response back mb tb links.
          record {
            carried = λ went. carried links mb tb went;
            never_wrong = λ went. never_wrong links mb tb went;
            fits = λ went. written-fits links mb tb went;
            short = λ went. written-short links mb tb went;
            told = λ went. each_of (all_imply (told-cell message) (cells-sound links mb tb went).each);
            left = λ went. table-after links mb tb went;
            refused = untaken links;
            unapplied = unapplied links;
          };
      there-is = chain;
    }

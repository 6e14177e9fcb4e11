-- Demand 1 holds.
-- What is returned and left is what the definition says: its number is the verdict's (NumberLaws), which its stages decide (StageLaws), and its refusals leave everything as it was.
use mathlib.Core.Path.{◌≡◌, refl, ◌∙◌}
use mathlib.Core.List.{List}
use Prim.Native.Nat.{ℕ}
use lib.ListN.{length}
use Rattle.rules.specs.Layout.{current}
use Rattle.rules.specs.Record.{request_of, items_of}
use Rattle.rules.specs.Refusals.{verdict_number, Verdict}
use Rattle.rules.specs.Applied.{Filled, built, conversion, written, read_of, item_at, applied}
use Rattle.rules.proofs.VerdictLaws.{write_chain, apply_chain, convert_chain, build_chain}
use Rattle.rules.proofs.OutcomeLaws.{built-refused, conversion-refused, written-refused, read-refused, applied-refused}
use Rattle.segments.specs.Segments.{lies_at, pack_verdict, packed}
use Rattle.segments.proofs.Refused.{lies-refused, packed-refused}
use Rattle.wire.specs.declared.Message.TheVariants.{CancelRequest}
use Rattle.responses.specs.ResponseRead.{answering, rows_read}
use Rattle.pws.specs.Surface.{filled}
use Rattle.pws.specs.declared.PwsDone.{PwsDone}
use Rattle.demands.specs.Demand1.{Stage, Filling, Demand1}
use Rattle.demands.proofs.ContractsHold.{contracts_hold}
use Rattle.demands.proofs.NumberLaws.{fill-number, reading-number, outcome-number, lying-number}
use Rattle.demands.proofs.FieldLaws.{number-filled, length-filled, buffer-filled, number_read, request-read, items-read, number-left, length-left, table-left, answer-left, number-lies, buffer-lies, start-lies, length-lies, number-taken, transaction-taken, length_taken, buffer-taken}
use Rattle.demands.proofs.MessageLaws.{cancel_chain, cancel-number, cancel-refused, sent_chain, sent-number, sent-refused, response_chain, response-number, response-refused}
use Rattle.demands.proofs.StageLaws.{within-table, within-older, within-record, within-items, within-asked, within-room, within-heads, within-segment, within-lengths, within_count, within-message, within-cancels, within-rows, within-answer, chain, EachWithin, numbered}

-- what fills a buffer as its stages say, and leaves it as it was where one refuses
filling : (stages : List Stage) → EachWithin stages → (v : Verdict) → v ≡ chain stages → (f : Filled) (buffer : List ℕ) → f.number ≡ verdict_number v
    → ((f.number ≡ 0 → ⊥) → (f.length ≡ 0) × (f.buffer ≡ buffer))
    → (d : PwsDone) (buffer' : List ℕ) → filled d buffer' ≡ f → Filling d buffer buffer' v stages
filling stages w v c f buffer n stays d buffer' p =
    record {
      numbered = numbered stages w v c d.number (number-filled p ∙ n);
      refused = λ h. let x = stays (λ z. h (number-filled p ∙ z)) in (length-filled p ∙ x.0, buffer-filled p ∙ x.1);
    }

pub demand_1 : Demand1
unfolding built conversion applied read_of written lies_at packed pack_verdict
demand_1 =
    record {
      contracts = contracts_hold;
      of_build = λ heads table.
          filling _ (within-heads heads, (within-room _ (length table), tt)) _ (build_chain heads (length table)) _ table (fill-number _ _ table) (built-refused heads table);
      of_convert = λ old table.
          filling _ (within-older old, (within-room _ (length table), tt)) _ (convert_chain old (length table)) _ table (fill-number _ _ table) (conversion-refused old table);
      apply-numbered = λ table req answer d table' answer' p.
          numbered _ (within-table table, (within-record req, (within-room _ (length answer), tt))) _ (apply_chain current table req (length answer)) d.number
          (number-left p ∙ outcome-number current _ (request_of req) (items_of req) table answer);
      apply-refused = λ table req answer d table' answer' p h.
          let x = applied-refused current table req answer (λ z. h (number-left p ∙ z)) in
          (length-left p ∙ x.0, table-left p ∙ x.1, answer-left p ∙ x.2);
      of_write = λ request items buffer.
          filling _ (within-items items, (within-asked request items, (within-room _ (length buffer), tt))) _ (write_chain request items (length buffer)) _ buffer
          (fill-number _ _ buffer) (written-refused request items buffer);
      of_pack = λ bytes lengths list.
          filling _ (within-lengths lengths (length bytes), (within_count lengths, (within-room _ (length list), tt))) _ refl _ list
          (fill-number _ _ list) (packed-refused bytes lengths list);
      cancel-numbered = λ message buffer m buffer' p.
          numbered _ (within-message CancelRequest message, (within-cancels _, (within-room _ (length buffer), tt))) _ (cancel_chain message (length buffer)) m.number
          (number-taken p ∙ cancel-number message buffer);
      cancel-refused = λ message buffer m buffer' p h.
          let x = cancel-refused message buffer (λ z. h (number-taken p ∙ z)) in
          (transaction-taken p ∙ x.0, length_taken p ∙ x.1, buffer-taken p ∙ x.2);
      of_write_response = λ answer transaction message.
          filling _ (within-answer answer, (within-room _ (length message), tt)) _ (sent_chain answer transaction (length message)) _ message
          (sent-number answer transaction message) (sent-refused answer transaction message);
      response-numbered = λ message answer m answer' p.
          numbered _ (within-message (answering message) message, (within-rows (rows_read message), (within-room _ (length answer), tt))) _ (response_chain message (length answer)) m.number
          (number-taken p ∙ response-number message answer);
      response-refused = λ message answer m answer' p h.
          let x = response-refused message answer (λ z. h (number-taken p ∙ z)) in
          (transaction-taken p ∙ x.0, length_taken p ∙ x.1, buffer-taken p ∙ x.2);
      read-numbered = λ req d p. numbered _ (within-record req, tt) _ refl d.number (number_read p ∙ reading-number _ req);
      read-refused = λ req d p h.
          let x = read-refused req (λ z. h (number_read p ∙ z)) in
          (request-read p ∙ x.0, items-read p ∙ x.1);
      segment-numbered = λ first more k d p. numbered _ (within-segment more k, tt) _ refl d.number (number-lies p ∙ lying-number _ first more k);
      segment-refused = λ first more k p e h.
          let x = lies-refused first more k (λ z. h (number-lies e ∙ z)) in
          (buffer-lies e ∙ x.0, start-lies e ∙ x.1, length-lies e ∙ x.2);
      item-answers = λ req k. (item_at req k, refl);
    }

-- What the first two links leave where both were accepted: the record of the message's Cancel, and an answer that can be given, which reads as the rows of the cells.
-- By what a taken message leaves (WireCancelHolds) and by what an accepted call is told (rules, AnsweredLaws).
use Rattle.std.specs.Prelude.{Ok}
use mathlib.Core.Path.{◌≡◌, sym, ap, ap₂, ◌∙◌}
use mathlib.Core.Bool.{true}
use mathlib.Core.List.{List, map, flat_map}
use Prim.Native.Nat.{ℕ, ◌<◌}
use native.Mathlib.Omega.{arith}
use borrow.Author.Tests.{lt-ltb}
use lib.ListN.{length, take, length-map}
use Rattle.octets.specs.Runs.{Bytes}
use Rattle.octets.specs.Numbers.{to_be}
use Rattle.octets.specs.Fields.{bytes_of}
use Rattle.octets.proofs.RunsLaws.{bytes_append}
use Rattle.octets.proofs.NumbersLaws.{bytes-to_be}
use Rattle.octets.proofs.FieldsLaws.{bytes_bytes_of}
use Rattle.rules.specs.Layout.{current, record_fields, item_size}
use Rattle.rules.specs.Table.{cells_of, table_bytes}
use Rattle.rules.specs.Record.{kind_of, request_of, request_numbers, record_bytes}
use Rattle.rules.specs.Reply.{reply_of}
use Rattle.rules.specs.Answer.{answer_of, answer_to}
use Rattle.rules.specs.Refusals.{apply_verdict}
use Rattle.rules.specs.Applied.{reading, read_of, step_cell, answered, applied}
use Rattle.rules.specs.Sound.{fits, fit_request}
use Rattle.rules.specs.declared.Request.{Request}
use Rattle.rules.proofs.AllLaws.{all_map, all_imply, bytes-flat_map_all}
use Rattle.rules.proofs.FitLaws.{fits-Fit}
use Rattle.rules.proofs.OutcomeLaws.{read-accepted, applied-accepted}
use Rattle.rules.proofs.AcceptedCallLaws.{call_accepted}
use Rattle.rules.proofs.LegalTableLaws.{SoundCells, sound-cells}
use Rattle.rules.proofs.TableCodec.{table-sound}
use Rattle.rules.proofs.AnswerCodec.{bytes-answer_bytes}
use Rattle.rules.proofs.AppliedLaws.{applied-table}
use Rattle.rules.proofs.AnsweredLaws.{answered-sound, applied-told, applied-reads}
use Rattle.answer_judge.specs.Answerable.{answerable, is_wired, answer_left}
use Rattle.answer_judge.proofs.ExactAnswersHold.{exact-answers}
use Rattle.wire.specs.MessageSaid.{Said, said_in}
use Rattle.wire.specs.CancelRead.{named, cancel_request, record_of}
use Rattle.wire.specs.declared.Message.TheVariants.{CancelRequest}
use Rattle.wire.proofs.SoundLaws.{SoundSaid, message-sound}
use Rattle.wire.proofs.CancelRecordLaws.{request-fits}
use Rattle.demands.specs.WireCancel.{CancelTaken}
use Rattle.demands.specs.WireChain.{after, stopped, Chain, Went}
use Rattle.demands.proofs.FieldLaws.{number_read, request-read, number-left, length-left, table-left, answer-left}
use Rattle.demands.proofs.WireCancelHolds.{wire_cancel-holds}

-- ---- the record of what a message says is bytes

-- the count of items fits besides
fit_count : (q : Request) (n : ℕ) → n < 65536 → fit_request q ≡ true → fits record_fields (request_numbers q n) ≡ true
unfolding fit_request fits request_numbers
fit_count q n h e = rw (lt-ltb n 65536 h) e

record-bytes : (c : Said) → SoundSaid CancelRequest c → Bytes (record_of c)
unfolding record_of record_bytes
record-bytes c s =
    let q = cancel_request c in
    let n = length (named c) in
    let few : n < 65536 = omega (arith, length-map c.cells (λ w. w.identity), s.few) in
    bytes_append (bytes_of record_fields (request_numbers q n)) (flat_map (to_be (item_size current)) (named c))
    (bytes_bytes_of record_fields (request_numbers q n) (fits-Fit record_fields (request_numbers q n) (fit_count q n few (request-fits c s))))
    (bytes-flat_map_all (to_be (item_size current))
    (all_map (λ n. Bytes (to_be (item_size current) n)) (λ w. w.identity) (all_imply (λ w h. bytes-to_be (item_size current) w.identity (omega (arith, h.below))) s.each)))

-- the request of a record that is read
request_of_lem : (r : List ℕ) (q : Request) (n : ℕ) → read_of r ≡ record { number = 0; request = q; items = n } → request_of r ≡ q
unfolding read_of reading
request_of_lem r q n e = let v = read-accepted r (number_read e) in rw v at (request-read e)

-- ---- the links

module _ {message buffer table answer response back : List ℕ} (links : Chain message buffer table answer response back) where
  abbrev c : Said
  c = said_in CancelRequest message

  -- what is applied, and what is answered
  abbrev asked : List ℕ
  asked = take links.taken.length links.buffer'

  abbrev pub told : List ℕ
  told = take links.done.length links.answer'

  module _ (message-bytes : Bytes message) (table-bytes : Bytes table) (went : Went links) where
    pub record-taken : CancelTaken message buffer links.taken links.buffer'
    record-taken = wire_cancel-holds.taken message buffer message-bytes links.taken links.buffer' links.took went.was_taken

    asked-bytes : Bytes asked
    asked-bytes = rw record-taken.whole (record-bytes c (message-sound CancelRequest message message-bytes))

    asked-request : request_of asked ≡ cancel_request c
    asked-request = request_of_lem asked (cancel_request c) (length (named c)) record-taken.reads

    accepted : apply_verdict current table asked (length answer) ≡ Ok tt
    accepted = applied-accepted current table asked answer (sym (number-left links.did) ∙ went.was_done)

    pub cells-sound : SoundCells current (cells_of current table)
    cells-sound = sound-cells current (cells_of current table) (table-sound current table table-bytes (call_accepted current table asked (length answer) accepted).table)

    pub table-after : links.table' ≡ table_bytes current (map (after message) (cells_of current table))
    table-after =
        table-left links.did ∙ applied-table current table asked answer table-bytes asked-bytes accepted
        ∙ ap₂ (λ (q : Request) (items : List ℕ). table_bytes current (map (step_cell q items) (cells_of current table))) asked-request record-taken.reads-cells

    -- ---- the answer

    told_is : told ≡ answer_left (applied current table asked answer)
    told_is = ap₂ take (length-left links.did) (answer-left links.did)

    -- with the names of the request
    pub told-reads : answer_of current told ≡ answer_to (cancel_request c) (record { rows = stopped message table })
    told-reads =
        ap (answer_of current) told_is ∙ applied-reads current table asked answer table-bytes asked-bytes accepted
        ∙ ap₂ (λ (q : Request) (items : List ℕ). answer_to q (reply_of q items (cells_of current table))) asked-request record-taken.reads-cells

    pub told-bytes : Bytes told
    told-bytes =
        rw (told_is, applied-told current table asked answer table-bytes asked-bytes accepted)
        (bytes-answer_bytes current (answered current table asked) (answered-sound current table asked answer table-bytes asked-bytes accepted))

    pub told-given : answerable told ≡ true
    unfolding cancel_request
    told-given =
        let wired : is_wired (kind_of (request_of asked).kind) ≡ true = rw asked-request in
        rw told_is (exact-answers.none-refused table asked answer table-bytes asked-bytes accepted wired)

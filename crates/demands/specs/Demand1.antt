-- Demand 1: every entry point takes every input and comes back; a damaged table, a bad request or a short buffer gets its refusal number, length 0 and every buffer as it was.
-- Said of all that meets the promises of the C surface (crate pws, specs/Promises), which are what a caller learns of each function (Contracts).
use Rattle.std.specs.Prelude.{◌≡◌, List, [], ◌∷◌, ℕ, ◌+◌, ◌*◌, ◌≤◌, leb, length, Ok, Err}
use Rattle.rules.specs.Lists.{ascending}
use Rattle.rules.specs.Layout.{current, longest_period, header_size, cell_size, record_size, item_size, answer_size, row_size}
use Rattle.rules.specs.Table.{cell_count}
use Rattle.rules.specs.Record.{request_of}
use Rattle.rules.specs.Reply.{Row, identities}
use Rattle.rules.specs.Answer.{answer_of, room_for}
use Rattle.rules.specs.Refusals.{number_of, verdict_number, refuse_unless, few_items, cancels_some, fits_in, head_count, legal_heads, table_verdict, older_verdict, record_verdict, request_verdict, build_verdict, convert_verdict, apply_verdict, write_verdict, Verdict}
use Rattle.rules.specs.Applied.{no_request}
use Rattle.rules.specs.declared.Request.{Request}
use Rattle.rules.specs.declared.Refusal.{Refusal}
use Rattle.rules.specs.declared.Refusal.TheVariants.{RecordLength, CancelsNothing, ShortBuffer, BadHeads, ListDamaged, TooManySegments, AnswerWrong}
use Rattle.answer_judge.specs.Answerable.{answerable}
use Rattle.segments.specs.Segments.{most_segments, list_bytes, cut_at, lengths_fit, segment_verdict, pack_verdict}
use Rattle.wire.specs.MessageRefusals.{message_verdict}
use Rattle.wire.specs.MessageSaid.{said_in}
use Rattle.wire.specs.CancelRead.{cancel_request, record_room, cancel_verdict}
use Rattle.wire.specs.declared.Message.{Message}
use Rattle.wire.specs.declared.Message.TheVariants.{CancelRequest}
use Rattle.responses.specs.Response.{response_of, response_verdict}
use Rattle.responses.specs.ResponseRead.{answering, rows_read, read_verdict}
use Rattle.pws.specs.Promises.{BuildPromise, ConvertPromise, ApplyPromise, ReadPromise, WritePromise, ItemPromise, SegmentPromise, PackPromise, ReadCancelPromise, WriteResponsePromise, ReadResponsePromise}
use Rattle.pws.specs.declared.PwsDone.{PwsDone}
use Rattle.pws.specs.declared.PwsReading.{PwsReading}
use Rattle.pws.specs.declared.PwsPart.{PwsPart}
use Rattle.pws.specs.declared.PwsMessage.{PwsMessage}
use Rattle.demands.specs.EntryPoints.{Contracts}

-- ---- what is judged, and the numbers that it can be refused with

pub record Stage : Type 0 where
  pub lowest : ℕ
  pub highest : ℕ
  pub verdict : Verdict

abbrev pub table_stage : List ℕ → Stage
table_stage table = record { lowest = 1; highest = 2; verdict = table_verdict current table }

-- a table to be converted: one of an older version
abbrev pub older_stage : List ℕ → Stage
older_stage old = record { lowest = 1; highest = 2; verdict = older_verdict old }

abbrev pub record_stage : List ℕ → Stage
record_stage req = record { lowest = 3; highest = 7; verdict = record_verdict current req }

-- a request to be written: the number of its items, then the rest
abbrev pub items_stage : List ℕ → Stage
items_stage items = record { lowest = 4; highest = 4; verdict = refuse_unless (few_items (length items)) RecordLength }

abbrev pub request_stage : Request → List ℕ → Stage
request_stage request items =
    record { lowest = 5; highest = 7; verdict = request_verdict (longest_period current) request items }

abbrev pub room_stage : (need room : ℕ) → Stage
room_stage need room = record { lowest = 8; highest = 8; verdict = refuse_unless (fits_in need room) ShortBuffer }

abbrev pub heads_stage : List ℕ → Stage
heads_stage heads = record { lowest = 9; highest = 9; verdict = refuse_unless (legal_heads heads) BadHeads }

abbrev pub segment_stage : List ℕ → ℕ → Stage
segment_stage more k = record { lowest = 10; highest = 12; verdict = segment_verdict more k }

-- a list to be packed: its lengths, then their number
abbrev pub lengths_stage : List ℕ → ℕ → Stage
lengths_stage lengths bytes = record { lowest = 10; highest = 10; verdict = refuse_unless (lengths_fit lengths bytes) ListDamaged }

abbrev pub count_stage : List ℕ → Stage
count_stage lengths =
    record { lowest = 11; highest = 11; verdict = refuse_unless (leb (length lengths) most_segments) TooManySegments }

-- a message from the wire; then whether what it asks for cancels anything, or whether the cells that it names ascend
abbrev pub message_stage : Message → List ℕ → Stage
message_stage m message = record { lowest = 13; highest = 16; verdict = message_verdict m message }

abbrev pub cancels_stage : Request → Stage
cancels_stage request = record { lowest = 7; highest = 7; verdict = refuse_unless (cancels_some request) CancelsNothing }

abbrev pub rows_stage : List Row → Stage
rows_stage rows = record { lowest = 17; highest = 17; verdict = refuse_unless (ascending (identities rows)) AnswerWrong }

-- an answer to be sent
abbrev pub answer_stage : List ℕ → Stage
answer_stage answer = record { lowest = 17; highest = 17; verdict = refuse_unless (answerable answer) AnswerWrong }

-- ---- a call's number

-- where a stage refuses, n is the number of that refusal, and one of the stage's; where none does, n is 0
abbrev pub Given : ℕ → List Stage → Type 0
Given n [] = n ≡ 0
Given n (s ∷ later) =
    ((x : Refusal) → s.verdict ≡ Err x → (n ≡ number_of x) × (s.lowest ≤ n) × (n ≤ s.highest))
    × (s.verdict ≡ Ok tt → Given n later)

pub record Numbered (n : ℕ) (verdict : Verdict) (stages : List Stage) : Type 0 where
  pub its_verdict : n ≡ verdict_number verdict
  pub by_stages : Given n stages

-- a call that fills one buffer: its number; and a number other than 0 comes with length 0 and the buffer as it was
pub record Filling (d : PwsDone) (buffer buffer' : List ℕ) (verdict : Verdict) (stages : List Stage) : Type 0 where
  pub numbered : Numbered d.number verdict stages
  pub refused : (d.number ≡ 0 → ⊥) → (d.length ≡ 0) × (buffer' ≡ buffer)

-- ---- THE CLAIM: whatever the bytes, and whatever is returned and left under the promise

pub record Demand1 : Type 2 where
  -- every input is taken, and every call comes back with what is promised
  pub contracts : Contracts
  pub of_build : (heads table : List ℕ) (d : PwsDone) (table' : List ℕ) → BuildPromise heads table d table'
      → let room = length table in
      Filling d table table' (build_verdict heads room) (heads_stage heads ∷ room_stage (header_size + cell_size current * head_count heads) room ∷ [])
  pub of_convert : (old table : List ℕ) (d : PwsDone) (table' : List ℕ) → ConvertPromise old table d table'
      → let room = length table in
      Filling d table table' (convert_verdict old room) (older_stage old ∷ room_stage (header_size + cell_size current * cell_count old) room ∷ [])
  pub apply-numbered : (table req answer : List ℕ) (d : PwsDone) (table' answer' : List ℕ) → ApplyPromise table req answer d table' answer'
      → let room = length answer in
      Numbered d.number (apply_verdict current table req room) (table_stage table ∷ record_stage req ∷ room_stage (room_for current (request_of req).kind (cell_count table)) room ∷ [])
  pub apply-refused : (table req answer : List ℕ) (d : PwsDone) (table' answer' : List ℕ) → ApplyPromise table req answer d table' answer'
      → (d.number ≡ 0 → ⊥) → (d.length ≡ 0) × (table' ≡ table) × (answer' ≡ answer)
  pub of_write : (request : Request) (items buffer : List ℕ) (d : PwsDone) (buffer' : List ℕ) → WritePromise request items buffer d buffer'
      → let room = length buffer in
      Filling d buffer buffer' (write_verdict request items room) (items_stage items ∷ request_stage request items ∷ room_stage (record_size + item_size current * length items) room ∷ [])
  pub of_pack : (bytes lengths list : List ℕ) (d : PwsDone) (list' : List ℕ) → PackPromise bytes lengths list d list'
      → let room = length list in
      Filling d list list' (pack_verdict bytes lengths room) (lengths_stage lengths (length bytes) ∷ count_stage lengths ∷ room_stage (length (list_bytes (cut_at lengths bytes))) room ∷ [])
  -- a message from the wire: 13 to 16, "then 7 and 8 of document 01"; a refusal comes with transaction identifier 0 too
  pub cancel-numbered : (message buffer : List ℕ) (m : PwsMessage) (buffer' : List ℕ) → ReadCancelPromise message buffer m buffer'
      → let room = length buffer in
      Numbered m.number (cancel_verdict message room) (message_stage CancelRequest message ∷ cancels_stage (cancel_request (said_in CancelRequest message)) ∷ room_stage (record_room (said_in CancelRequest message)) room ∷ [])
  pub cancel-refused : (message buffer : List ℕ) (m : PwsMessage) (buffer' : List ℕ) → ReadCancelPromise message buffer m buffer'
      → (m.number ≡ 0 → ⊥) → (m.transaction ≡ 0) × (m.length ≡ 0) × (buffer' ≡ buffer)
  -- a response to be written: 17, "then 8"
  pub of_write_response : (answer : List ℕ) (transaction : ℕ) (message : List ℕ) (d : PwsDone) (message' : List ℕ) → WriteResponsePromise answer transaction message d message'
      → let room = length message in
      Filling d message message' (response_verdict answer transaction room) (answer_stage answer ∷ room_stage (length (response_of (answer_of current answer) transaction)) room ∷ [])
  -- a response from the wire: "13 to 16 as in 5/13, 17 for cells that don't ascend, then 8"
  pub response-numbered : (message answer : List ℕ) (m : PwsMessage) (answer' : List ℕ) → ReadResponsePromise message answer m answer'
      → let room = length answer in
      Numbered m.number (read_verdict message room) (message_stage (answering message) message ∷ rows_stage (rows_read message) ∷ room_stage (answer_size current + row_size current * length (rows_read message)) room ∷ [])
  pub response-refused : (message answer : List ℕ) (m : PwsMessage) (answer' : List ℕ) → ReadResponsePromise message answer m answer'
      → (m.number ≡ 0 → ⊥) → (m.transaction ≡ 0) × (m.length ≡ 0) × (answer' ≡ answer)
  -- reading writes nothing; a refusal comes with no request and no items
  pub read-numbered : (req : List ℕ) (d : PwsReading) → ReadPromise req d → Numbered d.number (record_verdict current req) (record_stage req ∷ [])
  pub read-refused : (req : List ℕ) (d : PwsReading) → ReadPromise req d
      → (d.number ≡ 0 → ⊥) → (d.request ≡ no_request) × (d.items ≡ 0)
  -- looking for a segment writes nothing; a refusal comes with an empty part
  pub segment-numbered : (first more : List ℕ) (k : ℕ) (p : PwsPart) → SegmentPromise first more k p → Numbered p.number (segment_verdict more k) (segment_stage more k ∷ [])
  pub segment-refused : (first more : List ℕ) (k : ℕ) (p : PwsPart) → SegmentPromise first more k p
      → (p.number ≡ 0 → ⊥) → (p.buffer ≡ 0) × (p.start ≡ 0) × (p.length ≡ 0)
  -- an item is a number whatever the bytes and the index; it is never refused, and nothing is written
  pub item-answers : (req : List ℕ) (k : ℕ) → (n : ℕ) × ItemPromise req k n

-- Document 02, 6/13: "And answer on the wire. Write PWS CANCEL RESPONSE and WRITE-REPLACE WARNING RESPONSE from an answer and a transaction identifier .. A reader comes with it".
-- Said of whatever is returned and left under the promises of `pws_write_response` and `pws_read_response`, for any bytes and any buffers.
-- The response to an answer is a tree, and its bytes are that tree's encoding (responses, Response); the answer that a response gives is a definition too (ResponseRead).
use Rattle.std.specs.Prelude.{◌≡◌, true, false, List, [], ℕ, ◌+◌, ◌*◌, ◌≤◌, ◌<◌, length, take, drop, Ok}
use Rattle.octets.specs.Runs.{Bytes}
use Rattle.rules.specs.Layout.{current, answer_size, row_size}
use Rattle.rules.specs.Record.{kind_of}
use Rattle.rules.specs.Reply.{Row}
use Rattle.rules.specs.Answer.{answer_of, answer_bytes}
use Rattle.rules.specs.Refusals.{number_of, Held, FailsFirst}
use Rattle.rules.specs.declared.Refusal.{Refusal}
use Rattle.answer_judge.specs.Answerable.{answerable, ExactAnswers}
use Rattle.formats.specs.Format.{found}
use Rattle.wire.specs.Frame.{Frame}
use Rattle.wire.specs.MessageTree.{Elements, message}
use Rattle.wire.specs.MessageRefusals.{is_this, message_verdict}
use Rattle.wire.specs.MessageSaid.{said_in}
use Rattle.wire.specs.MessagePromises.{bare}
use Rattle.wire.specs.declared.Message.{Message}
use Rattle.responses.specs.Response.{response_to, response_for, response_of, response_tests}
use Rattle.responses.specs.ResponseSize.{response_size}
use Rattle.responses.specs.ResponseRead.{answering, kind_answered, unnamed, rows_read, answer_read, read_tests}
use Rattle.responses.specs.ResponsePromises.{without_names, TheTwo}
use Rattle.pws.specs.declared.PwsDone.{PwsDone}
use Rattle.pws.specs.declared.PwsMessage.{PwsMessage}
use Rattle.pws.specs.Promises.{WriteResponsePromise, ReadResponsePromise}
use Rattle.demands.specs.WireCancel.{ReadAs, SameTaken}

-- ---- one call that wrote, and returned 0

-- the message that an answer is sent as, its rows, and how many bytes that takes
abbrev pub sent_as : List ℕ → Message
sent_as answer = response_to (kind_of (answer_of current answer).kind)

abbrev pub rows_told : List ℕ → List Row
rows_told answer = (answer_of current answer).reply.rows

abbrev pub sent_size : List ℕ → ℕ
sent_size answer = response_size (sent_as answer) (length (rows_told answer))

pub record Sent (answer : List ℕ) (transaction : ℕ) (buffer : List ℕ) (d : PwsDone) (buffer' : List ℕ) : Type 0 where
  pub size : d.length ≡ sent_size answer
  pub whole : take d.length buffer' ≡ response_of (answer_of current answer) transaction
  -- the bytes behind it stay
  pub behind : drop d.length buffer' ≡ drop d.length buffer
  -- "under the same encoding": of one tree, which fits its message and is what it is read as ..
  pub read_as : ReadAs (sent_as answer) (take d.length buffer') (response_for (sent_as answer) transaction (rows_told answer))
  -- .. and 13 to 16 are not given for it
  pub passes : message_verdict (answering (take d.length buffer')) (take d.length buffer') ≡ Ok tt

-- ---- one call that read, and returned 0

-- the bytes of an answer with so many rows
abbrev pub answer_room : ℕ → ℕ
answer_room rows = answer_size current + row_size current * rows

pub record Given (response buffer : List ℕ) (m : PwsMessage) (buffer' : List ℕ) : Type 0 where
  pub size : m.length ≡ answer_room (length (rows_read response))
  pub whole : take m.length buffer' ≡ answer_bytes current (answer_read response)
  pub behind : drop m.length buffer' ≡ drop m.length buffer
  -- "an answer with message identifier and serial number 0"
  pub reads : answer_of current (take m.length buffer') ≡ unnamed (kind_answered (answering response)) (rows_read response)
  pub transaction : m.transaction ≡ (said_in (answering response) response).transaction
  pub one_byte : m.transaction < 256

-- ---- what was written, read back

pub record ReadBack (answer : List ℕ) (transaction : ℕ) (m : PwsMessage) (buffer' : List ℕ) : Type 0 where
  pub number : m.number ≡ 0
  pub same-transaction : m.transaction ≡ transaction
  pub same_answer : answer_of current (take m.length buffer') ≡ without_names (answer_of current answer)

-- an answer that was read came back whole
pub record OnceMore (transaction : ℕ) (m : PwsMessage) (buffer' : List ℕ) (d : PwsDone) (n : PwsMessage) (buffer'' : List ℕ) : Type 0 where
  pub written : d.number ≡ 0
  pub read : n.number ≡ 0
  pub same-transaction : n.transaction ≡ transaction
  pub same_bytes : take n.length buffer'' ≡ take m.length buffer'

-- ---- THE CLAIM

pub record WireResponse : Type 0 where
  -- "Write PWS CANCEL RESPONSE and WRITE-REPLACE WARNING RESPONSE from an answer and a transaction identifier"
  pub sent : (answer : List ℕ) (t : ℕ) (buffer : List ℕ) → Bytes answer → t < 256
      → (d : PwsDone) (buffer' : List ℕ) → WriteResponsePromise answer t buffer d buffer' → d.number ≡ 0 → Sent answer t buffer d buffer'
  -- "17 for bytes that no accepted Write-Replace or Cancel could have as its answer under any table": given exactly for bytes that are not answerable ..
  pub wrong : (answer : List ℕ) (t : ℕ) (buffer : List ℕ) (d : PwsDone) (buffer' : List ℕ) → WriteResponsePromise answer t buffer d buffer'
      → (answerable answer ≡ false → d.number ≡ 17) × (d.number ≡ 17 → answerable answer ≡ false)
  -- .. and answerable are those that one could have, and no others
  pub exact : ExactAnswers
  -- "then 8": exactly if the response does not fit
  pub short : (answer : List ℕ) (t : ℕ) (buffer : List ℕ) (d : PwsDone) (buffer' : List ℕ) → WriteResponsePromise answer t buffer d buffer' → answerable answer ≡ true
      → (length buffer < sent_size answer → d.number ≡ 8) × (sent_size answer ≤ length buffer → d.number ≡ 0)
  -- a refusal is that of the first test that fails, and leaves every byte; 0 is returned exactly if all hold
  pub unsent : (answer : List ℕ) (t : ℕ) (buffer : List ℕ) (d : PwsDone) (buffer' : List ℕ) → WriteResponsePromise answer t buffer d buffer'
      → (x : Refusal) → FailsFirst x (response_tests answer t (length buffer))
      → (d.number ≡ number_of x) × (d.length ≡ 0) × (buffer' ≡ buffer)
  pub sent_if : (answer : List ℕ) (t : ℕ) (buffer : List ℕ) (d : PwsDone) (buffer' : List ℕ) → WriteResponsePromise answer t buffer d buffer'
      → (Held (response_tests answer t (length buffer)) → d.number ≡ 0) × (d.number ≡ 0 → Held (response_tests answer t (length buffer)))
  -- "A reader .. writes an answer": that of the one tree that the response is the encoding of
  pub given : (response buffer : List ℕ) → Bytes response → (m : PwsMessage) (buffer' : List ℕ) → ReadResponsePromise response buffer m buffer' → m.number ≡ 0
      → Given response buffer m buffer'
  pub read_as : (response buffer : List ℕ) → Bytes response → (m : PwsMessage) (buffer' : List ℕ) → ReadResponsePromise response buffer m buffer' → m.number ≡ 0
      → (tree : Frame Elements) × ReadAs (answering response) response tree
  -- which messages are responses: a successful outcome of one of the two procedures, and no other
  pub the_two : TheTwo
  -- "the reader 13 to 16 as in 5/13, 17 for cells that don't ascend, then 8": the number of the first test that fails, 0 for the rest, every byte as it was ..
  pub refused : (response buffer : List ℕ) (m : PwsMessage) (buffer' : List ℕ) → ReadResponsePromise response buffer m buffer'
      → (x : Refusal) → FailsFirst x (read_tests response (length buffer))
      → (m.number ≡ number_of x) × (m.transaction ≡ 0) × (m.length ≡ 0) × (buffer' ≡ buffer)
  -- .. and 0 exactly if all hold
  pub accepted : (response buffer : List ℕ) (m : PwsMessage) (buffer' : List ℕ) → ReadResponsePromise response buffer m buffer'
      → (Held (read_tests response (length buffer)) → m.number ≡ 0) × (m.number ≡ 0 → Held (read_tests response (length buffer)))
  -- "What is written reads back as the same kind, cells, counts and transaction identifier": of two calls, where the second has room
  pub read_back : (answer : List ℕ) (t : ℕ) (response buffer : List ℕ) → Bytes answer → t < 256
      → (d : PwsDone) (response' : List ℕ) → WriteResponsePromise answer t response d response' → d.number ≡ 0
      → answer_room (length (rows_told answer)) ≤ length buffer
      → (m : PwsMessage) (buffer' : List ℕ) → ReadResponsePromise (take d.length response') buffer m buffer'
      → ReadBack answer t m buffer'
  -- "an answer that the reader gives comes back whole when written and read once more": of three calls, where the later ones have room, under any transaction identifier
  pub once_more : (message buffer response again : List ℕ) (t : ℕ) → Bytes message → t < 256
      → (m : PwsMessage) (buffer' : List ℕ) → ReadResponsePromise message buffer m buffer' → m.number ≡ 0
      → response_size (answering message) (length (rows_read message)) ≤ length response
      → (d : PwsDone) (response' : List ℕ) → WriteResponsePromise (take m.length buffer') t response d response'
      → m.length ≤ length again
      → (n : PwsMessage) (again' : List ℕ) → ReadResponsePromise (take d.length response') again n again'
      → OnceMore t m buffer' d n again'
  -- "diagnostics and the dedicated delivery list count as unknown", and what is unknown is skipped as in 5/13: responses that differ in nothing else give the same answer
  pub same-given : (first second buffer : List ℕ) (tree other : Frame Elements) → answering first ≡ answering second
      → (message (answering first)).parse first ≡ found tree [] → (message (answering second)).parse second ≡ found other []
      → is_this (answering first) first ≡ true → is_this (answering second) second ≡ true → bare tree.value ≡ bare other.value
      → (m : PwsMessage) (buffer' : List ℕ) → ReadResponsePromise first buffer m buffer'
      → (n : PwsMessage) (buffer'' : List ℕ) → ReadResponsePromise second buffer n buffer''
      → SameTaken m buffer' n buffer''

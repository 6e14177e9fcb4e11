-- The wire chain: a cancel message is taken, applied, answered on the wire and read back. "Each link was sound and the chain was not", the auditor wrote of what
-- we replace; so this page says of all links together what the sender of the message may rely on.
-- Said of whatever the four functions return and leave under their promises, each with the bytes that the one before it left.
use Rattle.std.specs.Prelude.{◌≡◌, List, [], map, ℕ, ◌≤◌, ◌<◌, length, take}
use Rattle.octets.specs.Runs.{Bytes}
use Rattle.rules.specs.Layout.{current}
use Rattle.rules.specs.Table.{Cell, cells_of, table_bytes}
use Rattle.rules.specs.Record.{cancel_or_kill}
use Rattle.rules.specs.Reply.{cell_rows, reply_of, Row}
use Rattle.rules.specs.Answer.{answer_of}
use Rattle.rules.specs.Applied.{step_cell}
use Rattle.formats.specs.Format.{Each}
use Rattle.wire.specs.MessageSaid.{said_in}
use Rattle.wire.specs.CancelRead.{named, cancel_request}
use Rattle.wire.specs.declared.Message.TheVariants.{CancelRequest, CancelResponse}
use Rattle.responses.specs.ResponseSize.{response_size}
use Rattle.responses.specs.ResponseRead.{unnamed}
use Rattle.pws.specs.declared.PwsDone.{PwsDone}
use Rattle.pws.specs.declared.PwsMessage.{PwsMessage}
use Rattle.pws.specs.Promises.{ApplyPromise, ReadCancelPromise, WriteResponsePromise, ReadResponsePromise}
use Rattle.demands.specs.WireResponse.{answer_room}

-- ---- the cells in which a text stopped

-- the rows that the message gets of a cell, and the cell after it
abbrev pub rows_of : List ℕ → Cell → List Row
rows_of message c = cell_rows (cancel_request (said_in CancelRequest message)) (named (said_in CancelRequest message)) c

abbrev pub after : List ℕ → Cell → Cell
after message c = step_cell (cancel_request (said_in CancelRequest message)) (named (said_in CancelRequest message)) c

-- of one cell: a row means that a text stopped in it, and there is no row where nothing did
pub record Told (message : List ℕ) (c : Cell) : Type 0 where
  pub none : rows_of message c ≡ [] → after message c ≡ c
  pub some : (rows_of message c ≡ [] → ⊥) → length (after message c).places < length c.places
  pub one : length (rows_of message c) ≤ 1

-- the rows of all cells, in their order
abbrev pub stopped : List ℕ → List ℕ → List Row
stopped message table = (reply_of (cancel_request (said_in CancelRequest message)) (named (said_in CancelRequest message)) (cells_of current table)).rows

-- ---- the four links

pub record Chain (message buffer table answer response back : List ℕ) : Type 0 where
  pub taken : PwsMessage
  pub buffer' : List ℕ
  pub took : ReadCancelPromise message buffer taken buffer'
  pub done : PwsDone
  pub table' : List ℕ
  pub answer' : List ℕ
  pub did : ApplyPromise table (take taken.length buffer') answer done table' answer'
  pub written : PwsDone
  pub response' : List ℕ
  pub wrote : WriteResponsePromise (take done.length answer') taken.transaction response written response'
  pub returned : PwsMessage
  pub back' : List ℕ
  pub came-back : ReadResponsePromise (take written.length response') back returned back'

module _ {message buffer table answer response back : List ℕ} (links : Chain message buffer table answer response back) where
  -- the message was taken, and the Cancel in it applied
  pub record Went : Type 0 where
    pub was_taken : links.taken.number ≡ 0
    pub was_done : links.done.number ≡ 0

  -- the response came back
  pub record Carried : Type 0 where
    pub sent : links.written.number ≡ 0
    pub read : links.returned.number ≡ 0
    -- it carries the request's transaction identifier
    pub same-transaction : links.returned.transaction ≡ (said_in CancelRequest message).transaction
    -- it names exactly the cells in which a text stopped, with their counts
    pub same-cells : answer_of current (take links.returned.length links.back') ≡ unnamed cancel_or_kill (stopped message table)

  -- nothing was done, and nothing is written
  pub record Nothing : Type 0 where
    pub not_done : links.done.number ≡ 0 → ⊥
    pub same-table : links.table' ≡ table
    pub same_answer : links.answer' ≡ answer
    pub unsent : (links.written.number ≡ 17) × (links.response' ≡ response)
    pub unread : (links.returned.number ≡ 13) × (links.back' ≡ back)

  -- ---- THE CLAIM

  -- of one chain
  pub record Holds : Type 0 where
    -- "What is written reads back as the same kind, cells, counts and transaction identifier", from the message that came in to the one that went out
    pub carried : Went → response_size CancelResponse (length (stopped message table)) ≤ length response → answer_room (length (stopped message table)) ≤ length back → Carried
    -- "17 for bytes that no accepted Write-Replace or Cancel could have as its answer .. then 8": an applied Cancel is answered, or its response does not fit
    pub never_wrong : Went → links.written.number ≡ 17 → ⊥
    pub fits : Went → response_size CancelResponse (length (stopped message table)) ≤ length response → links.written.number ≡ 0
    pub short : Went → length response < response_size CancelResponse (length (stopped message table)) → links.written.number ≡ 8
    -- document 01, of a Cancel: "A cell is reported exactly if one stopped there"
    pub told : Went → Each (Told message) (cells_of current table)
    -- the table is changed by the rule that the rows report
    pub left : Went → links.table' ≡ table_bytes current (map (after message) (cells_of current table))
    -- "A refusal returns its number and length 0, and nothing is written": of the message, nothing on the whole way ..
    pub refused : (links.taken.number ≡ 0 → ⊥) → (links.buffer' ≡ buffer) × Nothing
    -- .. and of the Cancel in it, nothing but the record that was read
    pub unapplied : (links.done.number ≡ 0 → ⊥) → Nothing

-- of every chain, and every input has one
pub record WireChain : Type 0 where
  pub holds : (message buffer table answer response back : List ℕ) → Bytes message → Bytes table → (links : Chain message buffer table answer response back) → Holds links
  pub there-is : (message buffer table answer response back : List ℕ) → Chain message buffer table answer response back

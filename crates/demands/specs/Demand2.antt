-- Demand 2: a call that document 01 accepts is accepted, changes the reached cells by the rule of its kind and nothing else, and its answer reports those cells in order.
-- A record that was written reads back as the request and items given, and one that was read is written back to the same bytes.
-- One of version 1 (document 02, 3/13) comes back as version 2 with the same fields.
use Rattle.std.specs.Prelude.{◌≡◌, Bool, true, false, ℕ, ◌+◌, ◌*◌, ◌≤◌, ◌<◌, length, take, drop, get_or, Ok}
use mathlib.Core.List.{List, [], ◌++◌, map, flat_map}
use Rattle.std.proofs.lemmas.List.Edits.{sets}
use Rattle.octets.specs.Runs.{Bytes}
use Rattle.rules.specs.Lists.{ascending}
use Rattle.rules.specs.Layout.{current, header_size, head_size, record_size, item_size, record_version, answer_size, row_size}
use Rattle.rules.specs.Table.{Cell, cell_of, cell_bytes, cell_count, cell_runs, cells_of, identity_at}
use Rattle.rules.specs.Record.{write_replace, request_of, items_of, version_in, renewed}
use Rattle.rules.specs.Reach.{reaches}
use Rattle.rules.specs.InCell.{in_cell, starts_nothing}
use Rattle.rules.specs.Answer.{answer_of, answer_bytes, legal_answer}
use Rattle.rules.specs.Refusals.{table_verdict, apply_verdict}
use Rattle.rules.specs.Applied.{Outcome, written, read_of, item_at, answered, applied}
use Rattle.rules.specs.Reply.{row_by, cell_rows, Row}
use Rattle.rules.specs.Sound.{fit_request}
use Rattle.rules.specs.declared.Request.{Request}
use Rattle.pws.specs.Surface.{left}
use Rattle.pws.specs.declared.PwsDone.{PwsDone}
use Rattle.pws.specs.Promises.{ApplyPromise}

-- ---- cells and rows

-- the bytes of the k-th cell
abbrev pub cell_at : List ℕ → ℕ → List ℕ
cell_at t k = get_or (cell_runs current t) k []

-- whether a record reaches a cell
abbrev pub reached : List ℕ → Cell → Bool
reached r c = reaches (request_of r).area (items_of r) c.head

-- a cell after the rule of the record's kind: the same head, and the places that the rule leaves
abbrev pub ruled : List ℕ → Cell → Cell
ruled r c = record { head = c.head; places = (in_cell (request_of r) c.places).places }

-- the rows that the rule tells of a cell
abbrev pub told : List ℕ → Cell → List Row
told r c = map (row_by c) (in_cell (request_of r) c.places).rows

-- what is reported of one cell, and of all in the table's order
abbrev pub rows_in : List ℕ → Cell → List Row
rows_in r c = cell_rows (request_of r) (items_of r) c

abbrev pub rows_of : List ℕ → List ℕ → List Row
rows_of t r = flat_map (rows_in r) (cells_of current t)

-- ---- of a table t, a record r and an answer buffer a: what an outcome says of the table

pub record TableChanged (t r : List ℕ) (o : Outcome) : Type 0 where
  pub same_length : length o.table ≡ length t
  pub same-header : take header_size o.table ≡ take header_size t
  pub same_count : cell_count o.table ≡ cell_count t
  -- it can be the table of the next call
  pub legal : table_verdict current o.table ≡ Ok tt
  pub bytes : Bytes o.table
  -- header and cells are all of it
  pub whole : take header_size o.table ++ flat_map (λ c. c) (cell_runs current o.table) ≡ o.table
  -- a cell that is not reached keeps every byte
  pub unreached_stays : (k : ℕ) → k < cell_count t → reached r (cell_of current (cell_at t k)) ≡ false → cell_at o.table k ≡ cell_at t k
  -- a reached one is decoded, changed by the rule and encoded ..
  pub reached-ruled : (k : ℕ) → k < cell_count t → reached r (cell_of current (cell_at t k)) ≡ true → cell_at o.table k ≡ cell_bytes current (ruled r (cell_of current (cell_at t k)))
  -- .. and decodes to what the rule left
  pub reached-reads : (k : ℕ) → k < cell_count t → reached r (cell_of current (cell_at t k)) ≡ true → cell_of current (cell_at o.table k) ≡ ruled r (cell_of current (cell_at t k))
  -- no cell's head changes
  pub head_stays : (k : ℕ) → k < cell_count t → take (head_size current) (cell_at o.table k) ≡ take (head_size current) (cell_at t k)

-- ---- of the answer

pub record Answered (t r a : List ℕ) (o : Outcome) : Type 0 where
  -- the answer's bytes stand at the start of the buffer, and those behind them stay
  pub answer-whole : o.answer ≡ answer_bytes current (answered current t r) ++ drop o.length a
  -- read, they say what is told: the record's kind, identifier and serial number, and these rows
  pub answer-reads : answer_of current (take o.length o.answer) ≡ answered current t r
  pub answer-rows : (answered current t r).reply.rows ≡ rows_of t r
  pub answer-legal : legal_answer current (take o.length o.answer) ≡ true
  -- 12 + 14 for each row
  pub answer-length : o.length ≡ answer_size current + row_size current * length (rows_of t r)
  pub answer-fits : o.length ≤ length a
  -- rows are told of reached cells only, by the rule; the cells stand in ascending order, and so do their rows
  pub reached-told : (c : Cell) → reached r c ≡ true → rows_in r c ≡ told r c
  pub unreached_silent : (c : Cell) → reached r c ≡ false → rows_in r c ≡ []
  pub cells_ascend : ascending (map (identity_at current) (cell_runs current t)) ≡ true

-- ---- a start that the zero rules stop changes nothing and has no rows

abbrev pub Idle : List ℕ → List ℕ → Outcome → Type 0
Idle t r o =
    (request_of r).kind ≡ write_replace → starts_nothing (request_of r) ≡ true
    → (o.table ≡ t) × (rows_of t r ≡ []) × (o.length ≡ answer_size current)

-- ---- records, written and read

-- what was written reads back as the request and the items that were given
abbrev pub WriteRead : Type 0
WriteRead =
    (q : Request) (items buffer : List ℕ) → fit_request q ≡ true → (written q items buffer).number ≡ 0
    → let bytes = take (written q items buffer).length (written q items buffer).buffer in
    ((written q items buffer).length ≡ record_size + item_size current * length items)
    × (read_of bytes ≡ record { number = 0; request = q; items = length items })
    × (items_of bytes ≡ items)
    -- `pws_item` gives the k-th of them, and 0 behind the last
    × ((k : ℕ) → item_at bytes k ≡ get_or items k 0)

-- what was read is written back at the start of any buffer that holds it: the same bytes in the writer's version ..
pub record ReadBack (r buffer : List ℕ) : Type 0 where
  pub written_back : written (read_of r).request (items_of r) buffer ≡ record { number = 0; length = length r; buffer = sets buffer 0 (renewed r) }
  -- .. which are the very bytes if they had that version ..
  pub same_bytes : version_in r ≡ record_version → renewed r ≡ r
  -- .. and say the same if they had not
  pub same_fields : read_of (renewed r) ≡ read_of r
  pub same-items : items_of (renewed r) ≡ items_of r
  -- `pws_item` gives the k-th of these items from either, and 0 behind the last
  pub each_item : (k : ℕ) → item_at r k ≡ get_or (items_of r) k 0
  pub each_renewed : (k : ℕ) → item_at (renewed r) k ≡ get_or (items_of r) k 0

abbrev pub ReadWrite : Type 0
ReadWrite = (r buffer : List ℕ) → Bytes r → (read_of r).number ≡ 0 → length r ≤ length buffer → ReadBack r buffer

-- ---- a unit

-- a table, a record and an answer buffer give all that is returned and left
abbrev pub CallUnit : Type 0
CallUnit = List ℕ → List ℕ → List ℕ → Outcome

pub record AcceptedCall (t r a : List ℕ) (o : Outcome) : Type 0 where
  pub on_table : TableChanged t r o
  pub on_answer : Answered t r a o
  pub on_idle : Idle t r o

-- of one call: what document 01 accepts is accepted, and what is accepted is done as it says
pub record Served (t r a : List ℕ) (o : Outcome) : Type 0 where
  pub accepts : apply_verdict current t r (length a) ≡ Ok tt → o.number ≡ 0
  pub accepted : o.number ≡ 0 → AcceptedCall t r a o

abbrev pub MeetsDemand2 : CallUnit → Type 0
MeetsDemand2 u = (t r a : List ℕ) → Bytes t → Bytes r → Served t r a (u t r a)

-- ---- THE CLAIM

pub record Demand2 : Type 0 where
  pub of_applied : MeetsDemand2 (applied current)
  -- of whatever is returned and left under the promise of the C surface
  pub promised : (t r a : List ℕ) → Bytes t → Bytes r → (d : PwsDone) (t' a' : List ℕ) → ApplyPromise t r a d t' a'
      → Served t r a (left d t' a')
  -- the demand leaves nothing of an accepted call open
  pub one-outcome : (u : CallUnit) → MeetsDemand2 u → (t r a : List ℕ) → Bytes t → Bytes r
      → apply_verdict current t r (length a) ≡ Ok tt → u t r a ≡ applied current t r a
  pub write_read : WriteRead
  pub read-write : ReadWrite

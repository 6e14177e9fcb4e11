-- What each entry point leaves behind, whole: the number, the length and every byte of every lent buffer.
use Rattle.std.specs.Prelude.{cond, List, [], map, ℕ, ◌+◌, ◌*◌, leb, length, Ok, Err}
use Rattle.std.proofs.lemmas.List.Edits.{sets}
use Rattle.octets.specs.Runs.{gets}
use Rattle.octets.specs.Numbers.{be}
use Rattle.rules.specs.Layout.{Version, current, record_size, item_size}
use Rattle.rules.specs.Table.{Cell, head_of, cell_of, cell_bytes, cells_of, table_bytes, own_version}
use Rattle.rules.specs.Record.{request_of, written_in, item_count, items_of, record_bytes}
use Rattle.rules.specs.Reach.{reaches}
use Rattle.rules.specs.InCell.{in_cell}
use Rattle.rules.specs.Reply.{reply_of}
use Rattle.rules.specs.Answer.{Answer, answer_to, answer_bytes}
use Rattle.rules.specs.Refusals.{number_of, writing_number, writing_length, head_runs, record_verdict, write_verdict, apply_verdict, build_verdict, convert_verdict, Verdict, Writing, Reading}
use Rattle.rules.specs.declared.Request.{Request}

-- ---- one buffer is filled: by the builder, by the converter and by the record writer

pub record Filled : Type 0 where
  pub number : ℕ
  pub length : ℕ
  pub buffer : List ℕ

-- accepted: the bytes at the start of the buffer, and what is behind them stays; refused: nothing is written
unfoldable pub fill : Verdict → List ℕ → List ℕ → Filled
fill (Ok tt) bs buffer = record { number = 0; length = length bs; buffer = sets buffer 0 bs }
fill (Err x) bs buffer = record { number = number_of x; length = 0; buffer = buffer }

-- what an answer, and the buffer that it leaves, say
abbrev pub filled_by : Writing → List ℕ → Filled
filled_by x buffer = record { number = writing_number x; length = writing_length x; buffer = buffer }

unfoldable pub empty_cell : List ℕ → Cell
empty_cell b = record { head = head_of current b; places = [] }

-- "from cell heads back to back .. an empty table"
unfoldable pub built : List ℕ → List ℕ → Filled
built heads buffer = fill (build_verdict heads (length buffer)) (table_bytes current (map empty_cell (head_runs heads))) buffer

-- a table of an older version in the current layout: the same cells
unfoldable pub converted : List ℕ → List ℕ
converted old = table_bytes current (cells_of (own_version old) old)

unfoldable pub conversion : List ℕ → List ℕ → Filled
conversion old buffer = fill (convert_verdict old (length buffer)) (converted old) buffer

unfoldable pub written : Request → List ℕ → List ℕ → Filled
written q items buffer = fill (write_verdict q items (length buffer)) (record_bytes q items) buffer

-- ---- a record is read

pub record ReadOutcome : Type 0 where
  pub number : ℕ
  pub request : Request
  pub items : ℕ

unfoldable pub no_request : Request
no_request =
    record {
      kind = 0;
      flags = 0;
      area = 0;
      identifier = 0;
      serial = 0;
      content = 0;
      period = record { 0 = 0 };
      requested = record { 0 = 0 };
      sib = 0;
    }

-- the fields and the count of items; all 0 if refused
unfoldable pub reading : Verdict → List ℕ → ReadOutcome
reading (Ok tt) r = record { number = 0; request = request_of r; items = item_count r }
reading (Err x) r = record { number = number_of x; request = no_request; items = 0 }

unfoldable pub read_of : List ℕ → ReadOutcome
read_of r = reading (record_verdict current r) r

-- what a reading says: document 01's number and values for each of its cases
abbrev pub read_by : Reading → ReadOutcome
read_by (Ok (q, n)) = record { number = 0; request = q; items = n }
read_by (Err x) = record { number = number_of x; request = no_request; items = 0 }

-- the k-th item as a number, 0 where the record ends before it
unfoldable pub item_at : List ℕ → ℕ → ℕ
item_at r k =
    cond (leb (record_size + item_size (written_in r) * (k + 1)) (length r)) (be (gets r (record_size + item_size (written_in r) * k) (item_size (written_in r)))) 0

-- ---- a request is applied

-- a reached cell is changed by its kind's rule, any other stays
unfoldable pub step_cell : Request → List ℕ → Cell → Cell
step_cell q items c =
    cond (reaches q.area items c.head) (record { head = c.head; places = (in_cell q c.places).places }) c

-- the same of a cell's bytes: a reached cell is decoded, changed and encoded, any other keeps every byte
unfoldable pub cell_after : Version → Request → List ℕ → List ℕ → List ℕ
cell_after v q items c =
    cond (reaches q.area items (cell_of v c).head) (cell_bytes v (step_cell q items (cell_of v c))) c

pub record Outcome : Type 0 where
  pub number : ℕ
  pub length : ℕ
  pub table : List ℕ
  pub answer : List ℕ

-- what an answer, and both buffers that it leaves, say
abbrev pub outcome_by : Writing → List ℕ → List ℕ → Outcome
outcome_by x t a = record { number = writing_number x; length = writing_length x; table = t; answer = a }

-- what an accepted call is told
abbrev pub answered : Version → List ℕ → List ℕ → Answer
answered v t r = answer_to (request_of r) (reply_of (request_of r) (items_of r) (cells_of v t))

-- refused: both buffers as they were; accepted: the cells after the rule, and their reply, as an answer, at the start of its buffer
unfoldable pub outcome : Version → Verdict → Request → List ℕ → List ℕ → List ℕ → Outcome
outcome v (Err x) q items t a = record { number = number_of x; length = 0; table = t; answer = a }
outcome v (Ok tt) q items t a =
    let bs = answer_bytes v (answer_to q (reply_of q items (cells_of v t))) in
    record {
      number = 0;
      length = length bs;
      table = table_bytes v (map (step_cell q items) (cells_of v t));
      answer = sets a 0 bs;
    }

unfoldable pub applied : Version → List ℕ → List ℕ → List ℕ → Outcome
applied v t r a = outcome v (apply_verdict v t r (length a)) (request_of r) (items_of r) t a

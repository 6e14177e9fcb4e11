-- Document 02, 2/13: an earthquake primary goes out every second until it is stopped.
-- Said of the answers of a run: whatever calls come between, as long as none stops it in a cell, each second's answer has a row for that cell with its content.
use Rattle.std.specs.Prelude.{◌≡◌, Bool, true, false, not, ◌&&◌, ◌||◌, List, [], ◌∷◌, ℕ, ◌<◌, eqb, length, take, Ok}
use Rattle.std.proofs.Math.Option.{some}
use Rattle.std.proofs.Math.ListN.{get_elem?}
use Rattle.octets.specs.Runs.{Bytes}
use Rattle.rules.specs.Lists.{any}
use Rattle.rules.specs.Layout.{current, places_per_cell}
use Rattle.rules.specs.Table.{is_text, running, cell_count}
use Rattle.rules.specs.Record.{Kind, a_write_replace, a_cancel, a_restart, a_failure, a_second, unknown_kind, kind_of, write_replace, one_second, concurrent, cancel_all, is_primary, request_of}
use Rattle.rules.specs.InCell.{starts_nothing}
use Rattle.rules.specs.Reply.{Reply}
use Rattle.rules.specs.Answer.{answer_to, answer_of, answer_bytes}
use Rattle.rules.specs.Refusals.{table_verdict}
use Rattle.rules.specs.declared.Place.{Place}
use Rattle.rules.specs.declared.Request.{Request}
use Rattle.demands.specs.Demand3.{Call, Result, outcome_on, run, Accepted_on, Reaches, Chain}
use Rattle.demands.specs.RowOrder.{cell_in}

-- ---- a text that goes out every second

-- by its identifier, serial number and content: due, period 1, without end
unfoldable pub goes_out : (identifier serial content : ℕ) → Place → Bool
goes_out identifier serial content p =
    is_text identifier serial p
    && eqb p.content content
    && eqb p.wait.0 0
    && eqb p.period.0 1
    && eqb p.requested.0 0

-- the k-th cell of a table has it live
abbrev pub GoesOutIn : List ℕ → ℕ → (identifier serial content : ℕ) → Type 0
GoesOutIn t k identifier serial content = any (goes_out identifier serial content) (cell_in t k).places ≡ true

-- ---- what stops it

-- a request that reaches a cell with these places: a start that replaces them; a cancel of all or of this text; a restart, a failure
abbrev pub stops_by : Kind → (identifier serial : ℕ) → Request → List Place → Bool
stops_by a_write_replace identifier serial q ps =
    not (starts_nothing q) && not (running q.identifier q.serial ps) && not (concurrent q)
stops_by a_cancel identifier serial q ps = cancel_all q || eqb identifier q.identifier && eqb serial q.serial
stops_by a_restart identifier serial q ps = true
stops_by a_failure identifier serial q ps = true
stops_by a_second identifier serial q ps = false
stops_by unknown_kind identifier serial q ps = false

unfoldable pub stops_text : (identifier serial : ℕ) → Request → List Place → Bool
stops_text identifier serial q ps = stops_by (kind_of q.kind) identifier serial q ps

-- no call of a run on a table does so in the k-th cell: none that is accepted and reaches it
abbrev pub Spared : (identifier serial k : ℕ) → List ℕ → List Call → Type 0
Spared identifier serial k t [] = Unit {0}
Spared identifier serial k t (c ∷ cs) =
    (Accepted_on t c → Reaches c (cell_in t k) → stops_text identifier serial (request_of c.req) (cell_in t k).places ≡ false)
    × Spared identifier serial k (outcome_on t c).table cs

-- ---- what its seconds answer

-- a call's answer, whole, tells a row with this NR CGI and content
pub record HasRow (identity content : ℕ) (c : Call) (x : Result) : Type 0 where
  pub reply : Reply
  pub bytes : take x.length x.answer ≡ answer_bytes current (answer_to (request_of c.req) reply)
  pub reads : answer_of current (take x.length x.answer) ≡ answer_to (request_of c.req) reply
  pub among : any (λ w. eqb w.identity identity && eqb w.content content) reply.rows ≡ true

-- of the results of calls on t: each accepted second's
abbrev pub InEachSecond : List ℕ → List Call → (identity content : ℕ) → List Result → Type 0
InEachSecond t cs identity content xs =
    (i : ℕ) (c : Call) → get_elem? cs i ≡ some c → Accepted_on t c → (request_of c.req).kind ≡ one_second
    → (x : Result) × (get_elem? xs i ≡ some x) × HasRow identity content c x

-- ---- THE CLAIM

pub record PrimaryRuns : Type 0 where
  -- an earthquake primary goes out from its start on, where it is not live yet and a place is free or all are dropped ..
  pub starts : (t : List ℕ) → Bytes t → (k : ℕ) → k < cell_count t → (c : Call) → Accepted_on t c → Reaches c (cell_in t k)
      → let q = request_of c.req in q.kind ≡ write_replace → is_primary q ≡ true
      → running q.identifier q.serial (cell_in t k).places ≡ false → (concurrent q ≡ true → length (cell_in t k).places < places_per_cell)
      → GoesOutIn (outcome_on t c).table k q.identifier q.serial q.content
  -- .. in every second of any calls that do not stop it ..
  pub goes-out : (t : List ℕ) → Bytes t → table_verdict current t ≡ Ok tt → (k identifier serial content : ℕ) → k < cell_count t → GoesOutIn t k identifier serial content
      → (cs : List Call) → Spared identifier serial k t cs → InEachSecond t cs (cell_in t k).head.identity content (run t cs).1
  -- .. and so by any code that keeps apply's promise
  pub promised : (t : List ℕ) → Bytes t → table_verdict current t ≡ Ok tt → (k identifier serial content : ℕ) → k < cell_count t → GoesOutIn t k identifier serial content
      → (cs : List Call) → Spared identifier serial k t cs → (u : List ℕ) (xs : List Result) → Chain t cs u xs → InEachSecond t cs (cell_in t k).head.identity content xs

-- Document 02, 6/13: bytes that an accepted Write-Replace or Cancel can have as its answer under some table, and no others.
use Rattle.std.specs.Prelude.{◌≡◌, Bool, true, false, ◌&&◌, List, ℕ, eqb, leb, length, take, Ok}
use Rattle.octets.specs.Runs.{Bytes}
use Rattle.rules.specs.Lists.{every, ascending}
use Rattle.rules.specs.Layout.{current, most_cells}
use Rattle.rules.specs.Record.{Kind, a_write_replace, a_cancel, a_restart, a_failure, a_second, unknown_kind, kind_of, request_of}
use Rattle.rules.specs.Reply.{Row, identities}
use Rattle.rules.specs.Answer.{row_count, answer_of, legal_answer}
use Rattle.rules.specs.Refusals.{apply_verdict}
use Rattle.rules.specs.Applied.{Outcome, applied}

-- the requests that are answered on the wire
abbrev pub is_wired : Kind → Bool
is_wired a_write_replace = true
is_wired a_cancel = true
is_wired a_restart = false
is_wired a_failure = false
is_wired a_second = false
is_wired unknown_kind = false

-- a cell in which a text starts is reported with the count 0
abbrev pub counts_of : Kind → Row → Bool
counts_of a_write_replace w = eqb w.count 0
counts_of a_cancel w = true
counts_of a_restart w = false
counts_of a_failure w = false
counts_of a_second w = false
counts_of unknown_kind w = false

-- a legal answer to one of them: a row of a cell at most, so at most as many as a table has cells, and ascending strictly; contents are 0 in every
-- legal answer but that of one second
unfoldable pub answerable : List ℕ → Bool
answerable b =
    legal_answer current b
    && is_wired (kind_of (answer_of current b).kind)
    && leb (row_count current b) most_cells
    && every (counts_of (kind_of (answer_of current b).kind)) (answer_of current b).reply.rows
    && ascending (identities (answer_of current b).reply.rows)

-- ---- that this is the exact set

-- the answer that an applied request leaves
abbrev pub answer_left : Outcome → List ℕ
answer_left o = take o.length o.answer

-- a table, a record and a buffer for which a call is accepted and gives this answer
pub record GivenBy (b : List ℕ) : Type 0 where
  pub table : List ℕ
  pub asked : List ℕ
  pub buffer : List ℕ
  pub table-bytes : Bytes table
  pub bytes : Bytes asked
  pub accepted : apply_verdict current table asked (length buffer) ≡ Ok tt
  pub wired : is_wired (kind_of (request_of asked).kind) ≡ true
  pub gives : answer_left (applied current table asked buffer) ≡ b

pub record ExactAnswers : Type 0 where
  -- no answer to an accepted Write-Replace or Cancel is refused
  pub none-refused : (t r a : List ℕ) → Bytes t → Bytes r → apply_verdict current t r (length a) ≡ Ok tt → is_wired (kind_of (request_of r).kind) ≡ true
      → answerable (answer_left (applied current t r a)) ≡ true
  -- and every one that is not refused is given by some table and request
  pub all_given : (b : List ℕ) → Bytes b → answerable b ≡ true → GivenBy b

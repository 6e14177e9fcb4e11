-- Document 01, the zero rules of a Write-Replace (004, 8.9.1.3), as the table that document 02, 4/13, asks for, and in document 01's words.
-- No primary comes to them: document 02, 2/13.
use Rattle.std.specs.Prelude.{◌≡◌, Bool, true, false, cond, not, ◌&&◌, ◌||◌, ℕ, eqb}
use Rattle.rules.specs.Record.{concurrent}
use Rattle.rules.specs.declared.Request.{Request}

-- ---- what the rows tell apart

-- flag 1
pub data Concurrent : Type 0 where
  no : Concurrent
  yes : Concurrent

pub data Requested : Type 0 where
  requested0 : Requested
  requested1 : Requested
  requested_more : Requested

pub data Period : Type 0 where
  period0 : Period
  period_more : Period

pub data Decision : Type 0 where
  idle : Decision
  proceeds : Decision

-- ---- the table, a row for each case

abbrev pub decided : Concurrent → Requested → Period → Decision
decided no requested0 period0 = idle
decided no requested0 period_more = idle
decided no requested1 period0 = proceeds
decided no requested1 period_more = proceeds
decided no requested_more period0 = idle
decided no requested_more period_more = proceeds
decided yes requested0 period0 = idle
decided yes requested0 period_more = proceeds
decided yes requested1 period0 = proceeds
decided yes requested1 period_more = proceeds
decided yes requested_more period0 = idle
decided yes requested_more period_more = proceeds

-- ---- the row of a request

abbrev pub concurrent_of : Request → Concurrent
concurrent_of q = cond (concurrent q) yes no

abbrev pub requested_of : ℕ → Requested
requested_of n = cond (eqb n 0) requested0 (cond (eqb n 1) requested1 requested_more)

abbrev pub period_of : ℕ → Period
period_of n = cond (eqb n 0) period0 period_more

abbrev pub stops : Decision → Bool
stops idle = true
stops proceeds = false

abbrev pub zero_rules_stop : Request → Bool
zero_rules_stop q = stops (decided (concurrent_of q) (requested_of q.requested.0) (period_of q.period.0))

-- ---- document 01's words: requested is 0 without flag 1, or period is 0 and requested is not 1

abbrev pub in_words : Request → Bool
in_words q =
    eqb q.requested.0 0 && not (concurrent q)
    || eqb q.period.0 0 && not (eqb q.requested.0 1)

-- what is proved of the table: it stops the requests that the words stop, and no other
abbrev pub ZeroRulesHold : Type 0
ZeroRulesHold = (q : Request) → zero_rules_stop q ≡ in_words q

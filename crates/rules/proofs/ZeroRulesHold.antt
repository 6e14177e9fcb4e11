-- The table of the zero rules decides as document 01's words do.
-- Row by row, over what the tests that choose a row may say; of requested, that what is 0 is not 1.
use mathlib.Core.Path.{◌≡◌, refl}
use mathlib.Core.Bool.{Bool, true, false, cond, not, ◌&&◌, ◌||◌}
use lib.Dec.{eqb}
use borrow.Author.Tests.{eqb-true}
use Rattle.rules.specs.Record.{concurrent}
use Rattle.rules.specs.ZeroRules.{yes, no, requested0, requested1, requested_more, period0, period_more, decided, stops, ZeroRulesHold}

rows : (flag none once zero : Bool) → (none ≡ true → once ≡ false)
    → stops (decided (cond flag yes no) (cond none requested0 (cond once requested1 requested_more)) (cond zero period0 period_more))
    ≡ (none && not flag || zero && not once)
rows false true once true e = refl
rows false true once false e = refl
rows false false true true e = refl
rows false false true false e = refl
rows false false false true e = refl
rows false false false false e = refl
rows true true once true e = rw (e refl)
rows true true once false e = refl
rows true false true true e = refl
rows true false true false e = refl
rows true false false true e = refl
rows true false false false e = refl

pub zero-rules_hold : ZeroRulesHold
zero-rules_hold q =
    rows (concurrent q) (eqb q.requested.0 0) (eqb q.requested.0 1) (eqb q.period.0 0)
    (λ e. rw (eqb-true q.requested.0 0 e))

-- `verdict` gives the first of the refusals 1 to 8 that applies.
-- Each way out is its case of `apply_verdict`, by the verdicts that led there.
use Rattle.std.specs.Prelude.{Ok}
use Rattle.std.proofs.lemmas.Result.{err_from_is_err_and}
use mathlib.Core.Path.{◌≡◌, sym, ◌∙◌}
use native.Mathlib.Omega.{arith}
use Rattle.rules.specs.Layout.{current}
use Rattle.rules.specs.Refusals.{table_verdict, record_verdict}
use Rattle.engine.proofs.CallLaws.{table-refused, record-refused, room-refused, none-refused, long-table, long-record, few-cells, known-kind}
use Rattle.engine.proofs.apply.verdict.Goals.{In_ok-verdict, In_ok-verdict-2}
use Rattle.engine.proofs.apply.verdict.Goals as goal

-- a table that was not refused, and a record that was not refused either
table_fine : (c : In_ok-verdict) → table_verdict current c.args.table.now ≡ Ok tt
table_fine c = sym c.verdict.ensures ∙ c.in_ok-verdict.was

record_fine : (c : In_ok-verdict-2) → record_verdict current c.args.req.now ≡ Ok tt
record_fine c = sym c.verdict-2.ensures ∙ c.in_ok-verdict-2.was

pub returns-in_err-verdict : goal.returns-in_err-verdict
returns-in_err-verdict c =
    let p = err_from_is_err_and c.from_residual.result c.from_residual.ensures.1 in
    rw (p.1, p.2) (table-refused _ _ _ _ (sym c.verdict.ensures ∙ c.in_err-verdict.was))

pub returns-in_err-verdict-2 : goal.returns-in_err-verdict-2
returns-in_err-verdict-2 c =
    let p = err_from_is_err_and c.from_residual-in_err-verdict-2.result c.from_residual-in_err-verdict-2.ensures.1 in
    rw (p.1, p.2) (record-refused _ _ _ (table_fine (goal.at.returns-in_err-verdict-2 c).In_ok-verdict) _ (sym c.verdict-2.ensures ∙ c.in_err-verdict-2.was))

pub request-fields-requires : goal.request-fields-requires
request-fields-requires c = long-record _ (record_fine (goal.at.request-fields-requires c).In_ok-verdict-2)

pub cells_of-requires : goal.cells_of-requires
cells_of-requires c = long-table _ (table_fine (goal.at.cells_of-requires c).In_ok-verdict)

pub room_for-requires : goal.room_for-requires
room_for-requires c = (
  omega (arith, c.cells_of.ensures, few-cells _ (table_fine (goal.at.room_for-requires c).In_ok-verdict)),
  rw c.request-fields.ensures (known-kind _ (record_fine (goal.at.room_for-requires c).In_ok-verdict-2)),
)

pub returns-then-room-room_for : goal.returns-then-room-room_for
returns-then-room-room_for c =
    room-refused _ _ _ (table_fine (goal.at.returns-then-room-room_for c).In_ok-verdict) (record_fine (goal.at.returns-then-room-room_for c).In_ok-verdict-2)
    (rw (← c.request-fields.ensures, ← c.cells_of.ensures, ← c.room_for.ensures) c.if-room-room_for.true)

pub returns : goal.returns
returns c =
    none-refused _ _ _ (table_fine (goal.at.returns c).In_ok-verdict) (record_fine (goal.at.returns c).In_ok-verdict-2)
    (rw (← c.request-fields.ensures, ← c.cells_of.ensures, ← c.room_for.ensures) c.if-room-room_for.false)

-- `step_cell` does in a reached cell what document 01 says for the request's kind.
-- Each arm is the kind's own routine, by the law of its kind; what no arm names is a failure.
use mathlib.Core.Path.{◌≡◌, refl}
use native.Mathlib.Omega.{arith}
use Rattle.rules.specs.Record.{write_replace, cancel_or_kill, restart_kind, failure_kind}
use Rattle.rules.proofs.KindAreaLaws.{kind-known}
use Rattle.rules.proofs.InCellLaws.{in_cell-start, in_cell-cancel, in_cell-restart, in_cell-failure}
use Rattle.in_cell.proofs.KindLaws.{ready_for, stepped_by, rows_of-kind, is-failure}
use Rattle.in_cell.proofs.step.step_cell.Goals.{In_default}
use Rattle.in_cell.proofs.step.step_cell.Goals as goal

pub returns-in-1 : goal.returns-in-1
returns-in-1 c =
    let q = c.args.request in
    stepped_by q _ _ 1 _ _ _ _ _ (in_cell-start q _ c.in-1.is) (rows_of-kind q.kind write_replace 1 c.in-1.is refl) c.start_in_cell.ensures

pub returns-in-2 : goal.returns-in-2
returns-in-2 c =
    let q = c.args.request in
    stepped_by q _ _ 1 _ _ _ _ _ (in_cell-cancel q _ c.in-2.is) (rows_of-kind q.kind cancel_or_kill 1 c.in-2.is refl) c.cancel_in_cell.ensures

pub returns-in-3 : goal.returns-in-3
returns-in-3 c =
    let q = c.args.request in
    stepped_by q _ _ 1 _ _ _ _ _ (in_cell-restart q _ c.in-3.is) (rows_of-kind q.kind restart_kind 1 c.in-3.is refl) c.restart_in_cell.ensures

-- what no arm names
fails : (c : In_default) → c.args.request.kind ≡ failure_kind
fails c =
    let q = c.args.request in
    is-failure q.kind (omega arith) (omega arith) (omega arith) c.requires.to_step.1 (kind-known q c.requires.to_step.0.kind)

pub failure_in_cell-requires : goal.failure_in_cell-requires
failure_in_cell-requires c =
    let q = c.args.request in
    ready_for q.kind 1 _ _ (rows_of-kind q.kind failure_kind 1 (fails (goal.at.failure_in_cell-requires c).In_default) refl) c.requires.ready

pub returns-in_default : goal.returns-in_default
returns-in_default c =
    let q = c.args.request in
    let e = fails (goal.at.returns-in_default c).In_default in
    stepped_by q _ _ 1 _ _ _ _ _ (in_cell-failure q _ e) (rows_of-kind q.kind failure_kind 1 e refl) c.failure_in_cell.ensures

-- `cancel_in_cell` does what document 01's cancel says.
-- Flag 2 is a failure, `cancel-every`; otherwise the one number tells identifier and serial number, `cancel-one`.
use mathlib.Core.Path.{sym, ◌∙◌}
use Prim.Native.Nat.{◌<◌}
use native.Mathlib.Omega.{arith}
use borrow.Author.Rules.{rules}
use Rattle.in_cell.proofs.ReadyLaws.{ready_apart, ready_small}
use Rattle.in_cell.proofs.StopLaws.{cancel-every, cancel-one}
use Rattle.in_cell.proofs.cancel.cancel_in_cell.Goals.{Else-cancels_all}
use Rattle.in_cell.proofs.cancel.cancel_in_cell.Goals as goal

-- without flag 2
small : (c : Else-cancels_all) → c.args.request.serial < 65536
small c = omega arith

pub returns-then-cancels_all : goal.returns-then-cancels_all
returns-then-cancels_all c =
    let flag = sym c.cancels_all.ensures ∙ c.if-cancels_all.true in
    rw (cancel-every c.args.request _ flag) c.failure_in_cell.ensures

pub returns : goal.returns
returns c =
    let flag = sym c.cancels_all.ensures ∙ c.if-cancels_all.false in
    let each = ready_small c.args.cell.now c.args.out.now 1 c.requires (search rules) in
    let apart = ready_apart c.args.cell.now c.args.out.now 1 c.requires in
    rw (cancel-one c.args.request _ flag (small (goal.at.returns c).Else-cancels_all) each apart, ← c.text.ensures) c.cancel_text.ensures

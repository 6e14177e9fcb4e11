-- With one element more, what was met keeps what it tells: each way is a law of `WithLaws`.
use mathlib.Core.Path.{sym, ◌∙◌}
use Rattle.response_judge.proofs.WithLaws.{identifier_met, no_identifier, list_met, no_list, other_met}
use Rattle.response_judge.proofs.MetKept.with.Goals as goal

pub returns-in_err-transaction : goal.returns-in_err-transaction
returns-in_err-transaction c = λ at read.
    rw c.from_residual.ensures
    (no_identifier _ _ _ _ c.requires.lies _ _ _ _ read c.if-element-eq-TRANSACTION.true c.in_err-transaction.ensures)

pub returns-then-element-eq-TRANSACTION : goal.returns-then-element-eq-TRANSACTION
returns-then-element-eq-TRANSACTION c = λ at read.
    rw c.identified.ensures
    (identifier_met _ _ _ _ c.requires.lies _ _ _ _ read c.if-element-eq-TRANSACTION.true _ c.in_ok-transaction.ensures)

pub returns-in_err-told : goal.returns-in_err-told
returns-in_err-told c = λ at read.
    rw c.from_residual-in_err-told.ensures
    (no_list _ _ _ _ c.requires.lies _ _ _ _ read c.if-element-eq-TRANSACTION.false (c.if-element-cells_id.true ∙ c.cells_id.ensures) c.in_err-told.ensures)

pub returns-then-element-cells_id : goal.returns-then-element-cells_id
returns-then-element-cells_id c = λ at read.
    rw c.listed.ensures
    (list_met _ _ _ _ c.requires.lies _ _ _ _ read c.if-element-eq-TRANSACTION.false (c.if-element-cells_id.true ∙ c.cells_id.ensures) _ c.in_ok-told.ensures)

pub returns : goal.returns
returns c = λ at read.
    rw c.past.ensures
    (other_met _ _ _ _ c.requires.lies _ _ _ _ read c.if-element-eq-TRANSACTION.false c.requires.judges (λ e. c.if-element-cells_id.false (e ∙ sym c.cells_id.ensures)))

-- `read_response` leaves what the definition of reading says: a refused message leaves nothing, and of a fit one the answer decides (`fit-taken`).
use Rattle.std.specs.Prelude.{Ok, Err}
use Rattle.std.proofs.lemmas.Result.{err_from_is_err_and}
use mathlib.Core.Path.{sym, ◌∙◌}
use Rattle.wire_judge.proofs.LentLaws.{lent-lies}
use Rattle.response_read.proofs.MeantLaws.{a-response}
use Rattle.response_read.proofs.ResponseTakenLaws.{not_taken, fit-taken}
use Rattle.response_read.proofs.read_response.Goals as goal

pub judge-requires : goal.judge-requires
judge-requires c = λ e. a-response _ (sym c.meant-m.ensures ∙ e)

pub put_answer-requires-clause-lies : goal.put_answer-requires-clause-lies
put_answer-requires-clause-lies c = lent-lies _ _ _ _ c.in_ok-start.ensures

pub returns-in_err-start : goal.returns-in_err-start
returns-in_err-start c =
    let p = err_from_is_err_and c.from_residual.result c.from_residual.ensures.1 in
    rw (p.1, p.2) (not_taken _ _ (λ i. (c.type_inv.message i).fits) c.meant-m.ensures _ _ c.in_err-start.ensures)

pub returns-in_err-length : goal.returns-in_err-length
returns-in_err-length c =
    let p = err_from_is_err_and c.from_residual-in_err-length.result c.from_residual-in_err-length.ensures.1 in
    rw (p.1, p.2) (fit-taken _ _ (λ i. (c.type_inv.message i).fits) c.meant-m.ensures _ _ c.in_ok-start.ensures _ (Err c.in_err-length.field-0.0) _ c.in_err-length.ensures)

pub returns : goal.returns
returns c = fit-taken _ _ (λ i. (c.type_inv.message i).fits) c.meant-m.ensures _ _ c.in_ok-start.ensures _ (Ok c.in_ok-length.length) _ c.in_ok-length.ensures

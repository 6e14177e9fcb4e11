-- `read_cancel` leaves what the definition of reading says: a refused message leaves nothing, and of a fit one the record decides (`fit-taken`).
use Rattle.std.specs.Prelude.{Ok, Err}
use Rattle.std.proofs.lemmas.Result.{err_from_is_err_and}
use Rattle.wire_judge.proofs.LentLaws.{lent-lies}
use Rattle.wire_cancel.proofs.TakenLaws.{not_taken, fit-taken}
use Rattle.wire_cancel.proofs.read_cancel.Goals as goal

pub put_record-requires-clause-lies : goal.put_record-requires-clause-lies
put_record-requires-clause-lies c = lent-lies _ _ _ _ c.in_ok-start.ensures

pub returns-in_err-start : goal.returns-in_err-start
returns-in_err-start c =
    let p = err_from_is_err_and c.from_residual.result c.from_residual.ensures.1 in
    rw (p.1, p.2) (not_taken _ _ _ c.in_err-start.ensures)

pub returns-in_err-length : goal.returns-in_err-length
returns-in_err-length c =
    let p = err_from_is_err_and c.from_residual-in_err-length.result c.from_residual-in_err-length.ensures.1 in
    rw (p.1, p.2) (fit-taken _ _ _ c.in_ok-start.ensures _ (Err c.in_err-length.field-0.0) _ c.in_err-length.ensures)

pub returns : goal.returns
returns c = fit-taken _ _ _ c.in_ok-start.ensures _ (Ok c.in_ok-length.length) _ c.in_ok-length.ensures

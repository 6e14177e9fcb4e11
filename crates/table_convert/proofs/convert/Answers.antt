-- `convert` leaves and answers what `conversion` says of any bytes.
-- What the judge of an older version refuses is refused; the rest is `converted`, whose `requires` the check finds.
use mathlib.Core.Path.{sym, ◌∙◌}
use Rattle.std.proofs.lemmas.Result.{err_from_is_err_and}
use Rattle.table_convert.proofs.ConvertLaws.{old-refused}
use Rattle.table_convert.proofs.convert.Goals as goal

pub returns-in_err-verdict : goal.returns-in_err-verdict
returns-in_err-verdict c =
    let p = err_from_is_err_and c.from_residual.result c.from_residual.ensures.1 in
    rw (p.1, p.2) (old-refused _ _ (sym c.in_err-verdict.was ∙ c.verdict.ensures))

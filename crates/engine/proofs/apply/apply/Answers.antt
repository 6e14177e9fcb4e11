-- `apply` leaves what `applied` gives: on a refusal everything as it was, else what a granted request leaves.
-- By the verdict's two cases.
use Rattle.std.proofs.lemmas.Result.{err_from_is_err_and}
use mathlib.Core.Path.{sym, ◌∙◌}
use Rattle.engine.proofs.CallLaws.{refused-applied, granted_applied}
use Rattle.engine.proofs.apply.apply.Goals as goal

pub returns-in_err-verdict : goal.returns-in_err-verdict
returns-in_err-verdict c =
    let p = err_from_is_err_and c.from_residual.result c.from_residual.ensures.1 in
    rw (p.1, p.2) (refused-applied _ _ _ _ (sym c.verdict.ensures ∙ c.in_err-verdict.was))

pub grant-rows-requires : goal.grant-rows-requires
grant-rows-requires c = sym c.verdict.ensures ∙ c.in_ok-verdict.was

pub returns : goal.returns
returns c =
    let accepted = sym c.verdict.ensures ∙ c.in_ok-verdict.was in
    rw c.length_with.ensures (granted_applied _ _ _ _ _ _ accepted c.grant-rows.ensures)

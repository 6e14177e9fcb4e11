-- `judge_by` gives the lowest of 13 to 16 over the whole message, or what a fit message says: each case is a law of `JudgeLaws`.
use Rattle.std.proofs.lemmas.Result.{err_from_is_err_and}
use mathlib.Core.Path.{◌≡◌, sym, ◌∙◌}
use Rattle.rules.specs.declared.Refusal.TheVariants.{BadEncoding}
use Rattle.wire_judge.proofs.JudgeLaws.{unframed, unwalked, rejected, wrong, fine}
use Rattle.wire_judge.proofs.judge_by.Goals as goal

pub returns-in_err-start : goal.returns-in_err-start
returns-in_err-start g c =
    let p = err_from_is_err_and c.from_residual.result c.from_residual.ensures.1 in
    rw (p.1, p.2) (unframed _ _ _ c.in_err-start.ensures)

pub returns-in_err-kept : goal.returns-in_err-kept
returns-in_err-kept g c =
    let p = err_from_is_err_and c.from_residual-in_err-kept.result c.from_residual-in_err-kept.ensures.1 in
    let none = c.in_err-kept.ensures.ok_part in
    let refusal = rw none at c.in_err-kept.ensures.value in
    let bad : c.in_err-kept.field-0.0 ≡ BadEncoding = cc refusal in
    let walked = rw none at c.elements.ensures in
    rw (p.1, p.2, bad) (unwalked _ _ _ c.in_ok-start.ensures walked)

pub returns-then-rejects : goal.returns-then-rejects
returns-then-rejects g c =
    let walked = rw c.in_ok-kept.ensures.ok_part at c.elements.ensures in
    rejected _ _ _ c.in_ok-start.ensures _ walked (sym c.rejects.ensures ∙ c.if-rejects.true)

pub returns-then-not-is_complete : goal.returns-then-not-is_complete
returns-then-not-is_complete g c =
    let walked = rw c.in_ok-kept.ensures.ok_part at c.elements.ensures in
    wrong _ _ _ c.in_ok-start.ensures _ walked (sym c.rejects.ensures ∙ c.if-rejects.false) (sym c.is_complete.ensures ∙ c.if-not-is_complete.true)

pub returns : goal.returns
returns g c =
    let walked = rw c.in_ok-kept.ensures.ok_part at c.elements.ensures in
    fine _ _ _ c.in_ok-start.ensures _ walked (sym c.rejects.ensures ∙ c.if-rejects.false) (sym c.is_complete.ensures ∙ c.if-not-is_complete.false)

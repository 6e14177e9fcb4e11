-- `verdict` gives the first of the refusals 4 to 8 that applies to a request and its items, or none.
-- What each test found is put into their order, by the laws of WriteLaws; 5, 6 and 7 come from the judge, which is told the truth of the request.
use mathlib.Core.Path.{◌≡◌, refl, ◌∙◌}
use Rattle.std.proofs.lemmas.Result.{err_from_is_err_and}
use Rattle.rules.specs.Layout.{current, longest_period}
use Rattle.rules.specs.Refusals.{request_verdict}
use Rattle.record_judge.proofs.ToldLaws.{told-verdict}
use Rattle.record_write.proofs.WriteLaws.{many-refused, request-refused, room-refused, writing_allowed}
use Rattle.record_write.proofs.verdict.Goals as goal
use Rattle.record_write.proofs.verdict.Goals.{After-judged}

-- what the judge said is the verdict of the request
said : (j : After-judged) → j.judged.result ≡ request_verdict (longest_period current) j.args.request j.args.items.now
said j =
    j.judged.ensures
    ∙ told-verdict (longest_period current) j.args.request j.args.items.now
    j.no_text.ensures j.cancel_zeros.ensures refl j.any_item-any.ensures

pub returns-then-n-gt-MOST_ITEMS : goal.returns-then-n-gt-MOST_ITEMS
returns-then-n-gt-MOST_ITEMS c = many-refused _ c.args.items.now _ c.if-n-gt-MOST_ITEMS.true

pub returns-in_err-judged : goal.returns-in_err-judged
returns-in_err-judged c =
    let judged = said (goal.at.returns-in_err-judged c).After-judged in
    let p = err_from_is_err_and c.from_residual.result c.from_residual.ensures.1 in
    rw (p.1, p.2) (request-refused _ c.args.items.now _ c.if-n-gt-MOST_ITEMS.false judged c.in_err-judged.was)

pub returns-then-room-n : goal.returns-then-room-n
returns-then-room-n c =
    let judged = said (goal.at.returns-then-room-n c).After-judged in
    room-refused _ c.args.items.now _ c.if-n-gt-MOST_ITEMS.false judged c.in_ok-judged.was c.if-room-n.true

pub returns : goal.returns
returns c =
    let judged = said (goal.at.returns c).After-judged in
    writing_allowed _ c.args.items.now _ c.if-n-gt-MOST_ITEMS.false judged c.in_ok-judged.was c.if-room-n.false

-- `verdict` gives the first of the refusals 3 to 7 that applies to any bytes, or none.
-- Each test is found in its place; where the zero byte is not 0 it takes to be told that it was read (`zero_read`).
use mathlib.Core.Path.{sym, ◌∙◌}
use borrow.Author.Rules.{rules}
use Rattle.rules.specs.Refusals.{record_verdict}
use Rattle.record_read.proofs.FieldReads.{zero_read}
use Rattle.record_read.proofs.verdict.Goals as goal

pub returns-then-get-ne0 : goal.returns-then-get-ne0
unfolding record_verdict
returns-then-get-ne0 c =
    let zero = zero_read c.args.req.now (sym c.marked.ensures ∙ c.if-not-marked.false) in
    search rules

-- `one_more` gives one more, but stays at the most: the rule's own two cases, said by the lesser of two numbers.
use native.Mathlib.Omega.{arith}
use lib.Dec.{ltb}
use borrow.Author.Tests.{ltb-true, ltb-false}
use Rattle.rules.specs.Layout.{most_sent}
use Rattle.rules.specs.InCell.{one_more}
use Rattle.rules.proofs.TestLaws.{by_test}
use Rattle.in_cell.proofs.second.one_more.Goals as goal

pub returns : goal.returns
unfolding one_more
returns c =
    let n = c.args.sent.0 in
    by_test (ltb n most_sent)
    (λ t. let below = ltb-true n most_sent t in rw t (omega arith))
    (λ t. let most = ltb-false n most_sent t in rw t (omega arith))

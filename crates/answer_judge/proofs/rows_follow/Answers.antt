-- `rows_follow` says whether the rows follow one another from NR CGI 0 on.
-- The invariant, `RowsLeft`, speaks of the rows still to come and of the least NR CGI that may follow.
use Rattle.answer_judge.proofs.RowsLeftLaws.{row_below, row_large, row-wrong, row_on, rows_end}
use Rattle.answer_judge.proofs.rows_follow.Goals as goal

pub returns-then-identity-least : goal.returns-then-identity-least
returns-then-identity-least c =
    row_below _ _ _ c.requires c.loop-k.invariant c.loop-k-test.true _ c.get-identity.ensures c.if-identity-least.true

pub returns-then-identity-ge-CELL_END : goal.returns-then-identity-ge-CELL_END
returns-then-identity-ge-CELL_END c =
    row_large _ _ _ c.requires c.loop-k.invariant c.loop-k-test.true _ c.get-identity.ensures c.if-identity-least.false c.if-identity-ge-CELL_END.true

pub returns-then-not-told_right : goal.returns-then-not-told_right
returns-then-not-told_right c =
    row-wrong _ _ _ c.requires c.loop-k.invariant c.loop-k-test.true _ c.get-identity.ensures c.if-identity-least.false c.if-identity-ge-CELL_END.false
    _ c.told_right.ensures c.if-not-told_right.true

pub loop-k-preserved : goal.loop-k-preserved
loop-k-preserved c =
    row_on _ _ _ c.requires c.loop-k.invariant c.loop-k-test.true _ c.get-identity.ensures c.if-identity-least.false c.if-identity-ge-CELL_END.false
    _ c.told_right.ensures c.if-not-told_right.false

pub returns : goal.returns
returns c = rows_end _ _ _ c.requires c.loop-k.invariant c.loop-k-test.false

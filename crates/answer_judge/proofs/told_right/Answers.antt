-- `told_right` says whether what a row says besides its cell is right.
-- Each number is the field that stands where it is read: `told-read`.
use borrow.Author.Tests.{eq-eqb, ne_eqb}
use Rattle.answer_judge.proofs.RowsLeftLaws.{told-read}
use Rattle.answer_judge.proofs.told_right.Goals as goal

pub returns-then-get-ne0 : goal.returns-then-get-ne0
returns-then-get-ne0 c =
    let s = c.args in
    rw (told-read s.answer.now s.at s.counted, ← c.get.ensures, ne_eqb c.get.result 0 c.if-get-ne0.true)

pub returns-then-counted : goal.returns-then-counted
returns-then-counted c =
    let s = c.args in
    rw (told-read s.answer.now s.at s.counted, ← c.get.ensures, eq-eqb c.get.result 0 c.if-get-ne0.false, c.if-counted.true)

pub returns : goal.returns
returns c =
    let s = c.args in
    rw (
      told-read s.answer.now s.at s.counted,
      ← c.get.ensures,
      eq-eqb c.get.result 0 c.if-get-ne0.false,
      c.if-counted.false,
      c.get-2.ensures,
    )

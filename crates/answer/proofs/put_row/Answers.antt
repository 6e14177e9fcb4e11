-- `put_row` stores the bytes of a row at the index, and nothing else.
-- Three stores one behind the other are one run: `row-stored`.
use Rattle.answer.specs.Rows.{row_said}
use Rattle.answer.proofs.RowsLaws.{row-stored}
use Rattle.answer.proofs.put_row.Goals as goal

pub returns : goal.returns
returns c =
    let s = c.args in
    row-stored s.out.now s.at (row_said s.row) _ _ _ c.put.ensures c.put-2.ensures c.put-3.ensures

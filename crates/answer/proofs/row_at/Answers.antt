-- `row_at` reads the three numbers of a row, which are the fields of its bytes: `row_read`.
use Prim.Native.Nat.{◌+◌, ◌*◌}
use Rattle.rules.specs.Layout.{current, answer_size, row_size}
use Rattle.answer.specs.Rows.{row_at}
use Rattle.answer.proofs.RowsLaws.{row_read}
use Rattle.answer.proofs.row_at.Goals as goal

pub returns : goal.returns
unfolding row_at
returns c =
    let s = c.args in
    row_read s.answer.now (answer_size current + row_size current * s.k) _ _ _ c.get.ensures c.get-2.ensures c.get-3.ensures

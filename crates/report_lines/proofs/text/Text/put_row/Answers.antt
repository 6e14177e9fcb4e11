-- `put_row` stores the line of one row: its cell, its count, its content.
use Rattle.report_lines.specs.Text.{row_text}
use Rattle.report_lines.proofs.TextLaws.{tells_then}
use Rattle.report_lines.proofs.text.Text.put_row.Goals as goal

pub returns-clause-tells : goal.returns-clause-tells
unfolding row_text
returns-clause-tells c =
    tells_then c.put_cell.ensures.tells (tells_then (rw c.from.ensures at c.put_number.ensures.tells) c.put_number-2.ensures.tells)

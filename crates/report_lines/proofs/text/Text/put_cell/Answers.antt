-- `put_cell` stores an NR CGI as 15 digits, and a space.
use Rattle.report_lines.specs.Text.{cell_text}
use Rattle.report_lines.proofs.TextLaws.{tells_then}
use Rattle.report_lines.proofs.text.Text.put_cell.Goals as goal

pub returns-clause-tells : goal.returns-clause-tells
unfolding cell_text
returns-clause-tells c = tells_then (rw c.hex.ensures at c.put.ensures) c.put_byte.ensures

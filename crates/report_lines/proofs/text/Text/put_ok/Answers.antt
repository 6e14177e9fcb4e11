-- `put_ok` stores the first line of an answer: its word, the kind, the number of rows.
use Rattle.report_lines.specs.Text.{ok_text}
use Rattle.report_lines.proofs.TextLaws.{tells_then}
use Rattle.report_lines.proofs.text.Text.put_ok.Goals as goal

pub returns-clause-tells : goal.returns-clause-tells
unfolding ok_text
returns-clause-tells c =
    tells_then c.put_word.ensures (tells_then (rw c.from.ensures at c.put_number.ensures.tells) c.put_number-2.ensures.tells)

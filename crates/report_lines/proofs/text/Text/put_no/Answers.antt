-- `put_no` stores the line of a refusal: its word, its number.
use Rattle.report_lines.specs.Text.{no_text}
use Rattle.report_lines.proofs.TextLaws.{tells_then}
use Rattle.report_lines.proofs.text.Text.put_no.Goals as goal

pub returns-clause-tells : goal.returns-clause-tells
unfolding no_text
returns-clause-tells c = tells_then c.put_word.ensures c.put_number.ensures.tells

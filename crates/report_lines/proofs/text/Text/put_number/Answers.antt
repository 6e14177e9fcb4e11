-- `put_number` stores a number's decimal digits and what ends it.
use Rattle.report_lines.specs.Text.{number_text}
use Rattle.report_lines.proofs.TextLaws.{tells_then}
use Rattle.report_lines.proofs.text.Text.put_number.Goals as goal

pub returns-clause-tells : goal.returns-clause-tells
unfolding number_text
returns-clause-tells c = tells_then c.put_decimal.ensures.tells c.put_byte.ensures

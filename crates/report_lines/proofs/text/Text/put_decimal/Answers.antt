-- `put_decimal` stores a number's decimal digits: one is `decimal_one`, and what std prints is `decimal-printed`.
use mathlib.Core.Path.{◌∙◌}
use native.Mathlib.Omega.{arith}
use Rattle.report_lines.proofs.TextLaws.{decimal_one, decimal-printed}
use Rattle.report_lines.proofs.text.Text.put_decimal.Goals as goal

pub returns-then-n-lt10-clause-tells : goal.returns-then-n-lt10-clause-tells
returns-then-n-lt10-clause-tells c = rw (decimal_one c.args.n (omega arith)) c.put_byte.ensures

pub returns-clause-tells : goal.returns-clause-tells
returns-clause-tells c = rw (c.as_bytes.ensures.value ∙ c.format.ensures.text ∙ decimal-printed c.args.n c.ranges.n.fits) at c.put.ensures

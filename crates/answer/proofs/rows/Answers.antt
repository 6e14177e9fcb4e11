-- `rows` reads the count of rows that an answer's head says.
use mathlib.Core.Path.{◌∙◌}
use Rattle.answer.proofs.HeadLaws.{rows-read}
use Rattle.answer.proofs.rows.Goals as goal

pub returns : goal.returns
returns c = c.get.ensures ∙ rows-read _ c.requires

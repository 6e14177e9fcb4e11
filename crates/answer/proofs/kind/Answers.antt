-- `kind` reads the kind that an answer's head says.
use mathlib.Core.Path.{◌∙◌}
use Rattle.answer.proofs.HeadLaws.{kind-read}
use Rattle.answer.proofs.kind.Goals as goal

pub returns : goal.returns
returns c = c.get.ensures ∙ kind-read _ c.requires

-- `ended` says whether place k has ended.
-- What it reads of the place, put into the rule.
use mathlib.Core.Path.{◌∙◌}
use Rattle.rules.specs.InCell.{has_ended}
use Rattle.in_cell.proofs.second.ended.Goals as goal

pub returns : goal.returns
unfolding has_ended
returns c = c.all_sent.ensures ∙ rw (c.terms_of.ensures.1, c.sent.ensures)

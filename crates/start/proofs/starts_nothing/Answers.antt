-- `starts_nothing` returns what the table of the zero rules says of a text that is no primary.
use Rattle.rules.specs.InCell.{starts_nothing}
use Rattle.start.proofs.starts_nothing.Goals as goal

pub returns : goal.returns
unfolding starts_nothing
returns c = rw c.zero_rules_stop.ensures

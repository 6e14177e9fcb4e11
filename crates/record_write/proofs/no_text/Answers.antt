-- `no_text_lem` says whether the fields from the identifier to the SIB kind are zero.
-- The tests are the definition's, grouped the other way.
use mathlib.Core.Bool.{and_assoc, and-true}
use Rattle.rules.specs.Lists.{every, zeros}
use Rattle.record_write.proofs.no_text.Goals as goal

pub returns : goal.returns
unfolding zeros every
returns c = simp (and_assoc, and-true)

-- `identity_at` returns the NR CGI of the cell or head from an index on.
-- It stands first in a head: `identity-read`.
use mathlib.Core.Path.{◌∙◌}
use Rattle.table_judge.proofs.ReadLaws.{identity-read}
use Rattle.table_judge.proofs.identity_at.Goals as goal

pub returns : goal.returns
returns c = c.get.ensures ∙ identity-read _ _ c.requires

-- `set_wait` leaves the cell with place k waiting so long.
-- One store where the place has the number: `wait-stored`.
use mathlib.Core.Path.{◌∙◌}
use Rattle.cell_change.proofs.CountsLaws.{wait-stored}
use borrow.Author.Rules.{rules}
use Rattle.cell_change.proofs.set_wait.Goals as goal

pub returns : goal.returns
returns c = c.put.ensures ∙ wait-stored _ _ (search rules) _

-- `set_counts` leaves the cell with place k sent so often and waiting so long.
-- Two stores where the place has the numbers: `counts-stored`.
use Rattle.cell_change.proofs.CountsLaws.{counts-stored}
use borrow.Author.Rules.{rules}
use Rattle.cell_change.proofs.set_counts.Goals as goal

pub returns : goal.returns
returns c = rw (c.put-2.ensures, c.put.ensures) (counts-stored _ _ (search rules) _ _)

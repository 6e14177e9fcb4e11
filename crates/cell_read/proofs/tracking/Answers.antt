-- `tracking` returns the item that names the tracking area of the cell.
-- The code stands behind the NR CGI: `code_read`.
use Rattle.cell_read.proofs.ReadsLaws.{code_read}
use Rattle.cell_read.proofs.tracking.Goals as goal

pub returns : goal.returns
returns c = rw (c.tracking_item.ensures, c.get24.ensures, c.identity-identity.ensures, code_read c.args.cell.now c.requires)

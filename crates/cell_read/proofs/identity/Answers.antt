-- `identity` returns the NR CGI of the head.
-- It stands first: `identity-read`.
use mathlib.Core.Path.{sym, ◌∙◌}
use Rattle.cell_read.proofs.ReadsLaws.{identity-read}
use Rattle.cell_read.proofs.identity.Goals as goal

pub returns : goal.returns
returns c = c.get.ensures ∙ sym (identity-read c.args.cell.now c.requires)

-- `put_cell` leaves the head and zeros.
-- The head is copied, and the rest is lent and cleared: `cell-stored`.
use Rattle.table_build.proofs.BuildLaws.{cell-stored}
use Rattle.table_build.proofs.put_cell.Goals as goal

pub returns : goal.returns
returns c =
    cell-stored _ _ _ _ c.requires.0 c.requires.1 c.put_head.ensures (c.fill.ensures.after (λ y e. e))

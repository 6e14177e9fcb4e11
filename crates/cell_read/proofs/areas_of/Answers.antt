-- `areas_of` returns the emergency areas of the head.
-- The count and the four identifiers stand behind the code: `areas-read`.
use Rattle.cell_read.proofs.ReadsLaws.{areas-read}
use Rattle.cell_read.proofs.areas_of.Goals as goal

pub returns : goal.returns
returns c =
    areas-read c.args.cell.now c.requires _ c.get.ensures (rw (c.get24.ensures, c.get24-2.ensures, c.get24-3.ensures, c.get24-4.ensures))

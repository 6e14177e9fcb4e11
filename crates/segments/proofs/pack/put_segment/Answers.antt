-- `put_segment` stores the length, and the segment behind it.
-- Two stores in a row are one: `segment-stored`.
use Rattle.segments.proofs.Packing.{segment-stored}
use Rattle.segments.proofs.pack.put_segment.Goals as goal

pub returns : goal.returns
returns c = segment-stored _ _ _ _ _ c.put.ensures c.copy.ensures

-- `requested` tells the number of broadcasts: two bytes, by the laws of contents of a fixed number of bytes.
use Rattle.wire.proofs.FixedLaws.{requested-length, requested-there}
use Rattle.wire.proofs.requested.Goals as goal

pub returns-then-part-ne2 : goal.returns-then-part-ne2
returns-then-part-ne2 c = requested-length _ c.if-part-ne2.true

pub returns : goal.returns
returns c = requested-there _ _ c.if-part-ne2.false c.get.ensures

-- `new_bytes` returns the bytes of the place that a Write-Replace makes.
-- Its two calls, one behind the other.
use Rattle.start.proofs.new_bytes.Goals as goal

pub returns : goal.returns
returns c = rw (c.place_bytes.ensures, c.new_place.ensures)

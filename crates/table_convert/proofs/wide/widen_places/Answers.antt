-- `widen_places` leaves the widened places of a cell.
-- The invariant, `PlacesLeft`: what is stored is, with the places still to come, all of them.
use Rattle.table_convert.proofs.CellStoreLaws.{places-start, places_on, places-end}
use Rattle.table_convert.proofs.wide.widen_places.Goals as goal

pub loop-k-init : goal.loop-k-init
loop-k-init c = places-start _ _

pub loop-k-preserved : goal.loop-k-preserved
loop-k-preserved c = places_on c.loop-k.invariant c.loop-k-test.true c.requires.1 _ c.widen_place.ensures

pub returns : goal.returns
returns c = places-end c.loop-k.invariant c.loop-k-test.false c.requires.0

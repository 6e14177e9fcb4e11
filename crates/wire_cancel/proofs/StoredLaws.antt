-- The cells of a list as items of the record.
use mathlib.Core.Path.{◌≡◌, sym}
use mathlib.Core.List.{List, flat_map}
use lib.ListN.{length}
use Rattle.octets.specs.Numbers.{to_be}
use Rattle.octets.proofs.NumbersLaws.{length-to_be}
use Rattle.rules.specs.Layout.{current, item_size}
use Rattle.rules.specs.Reply.{Row, identities}
use Rattle.rules.proofs.MapLaws.{flat_map-map}
use Rattle.wire_cancel.specs.Taken.{item_of}

pub item-sized : (w : Row) → length (item_of w) ≡ item_size current
item-sized w = rw length-to_be

pub items-stored : (rows : List Row) → flat_map item_of rows ≡ flat_map (to_be (item_size current)) (identities rows)
items-stored rows = sym (flat_map-map (to_be (item_size current)) (λ w. w.identity) rows)

-- `place_bytes` returns the bytes of a live place.
-- The fields are stored one behind the other over zeros; both sides are then the same bytes, written out.
use Rattle.octets.specs.Numbers.{to_be}
use Rattle.octets.specs.Fields.{bytes_of}
use Rattle.rules.specs.Table.{place_numbers, place_bytes}
use Rattle.cell_change.proofs.place_bytes.Goals as goal

pub returns : goal.returns
unfolding to_be bytes_of place_numbers place_bytes
returns c =
    rw (
      c.put-9.ensures,
      c.put-8.ensures,
      c.put-7.ensures,
      c.put-6.ensures,
      c.put-5.ensures,
      c.put-4.ensures,
      c.put-3.ensures,
      c.put-2.ensures,
      c.put.ensures,
    )

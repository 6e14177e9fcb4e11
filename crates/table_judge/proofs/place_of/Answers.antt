-- `place_of` returns the place that 24 bytes say.
-- Each read is the field that stands there: `field_at`.
use native.Mathlib.Omega.{arith}
use Rattle.octets.specs.Fields.{offset}
use Rattle.octets.proofs.FieldsLaws.{field_at}
use Rattle.rules.specs.Layout.{current, place_fields, identifier_in_place, serial_in_place, content_in_place, period_in_place, requested_in_place, sent_in_place, wait_in_place, sib_in_place}
use Rattle.rules.specs.Table.{place_of}
use Rattle.table_judge.proofs.place_of.Goals as goal

pub returns : goal.returns
unfolding place_of offset
returns c =
    let b = c.args.place.now in
    let long = c.requires in
    rw (
      c.get.ensures,
      ← field_at (place_fields current) identifier_in_place b (omega (arith, long)),
      c.get-2.ensures,
      ← field_at (place_fields current) serial_in_place b (omega (arith, long)),
      c.get-3.ensures,
      ← field_at (place_fields current) content_in_place b (omega (arith, long)),
      c.get-4.ensures,
      ← field_at (place_fields current) period_in_place b (omega (arith, long)),
      c.get-5.ensures,
      ← field_at (place_fields current) requested_in_place b (omega (arith, long)),
      c.get-6.ensures,
      ← field_at (place_fields current) sent_in_place b (omega (arith, long)),
      c.get-7.ensures,
      ← field_at (place_fields current) wait_in_place b (omega (arith, long)),
      c.get-8.ensures,
      ← field_at (place_fields current) sib_in_place b (omega (arith, long)),
    )

-- `live_legal` says whether a place is live and what a live one must be.
-- The live byte and the last two bytes are fields; the rest is `legal_place` of the place that the bytes say.
use native.Mathlib.Omega.{arith}
use Rattle.octets.specs.Fields.{offset}
use Rattle.octets.proofs.FieldsLaws.{field_at}
use Rattle.rules.specs.Layout.{current, place_fields, live_in_place, zero_in_place}
use Rattle.rules.specs.Table.{is_live}
use Rattle.table_judge.specs.Judge.{legal_live}
use Rattle.table_judge.proofs.live_legal.Goals as goal

pub returns : goal.returns
unfolding legal_live is_live offset
returns c =
    let b = c.args.place.now in
    let long = c.requires in
    rw (
      c.get.ensures,
      ← field_at (place_fields current) live_in_place b (omega (arith, long)),
      c.get-2.ensures,
      ← field_at (place_fields current) zero_in_place b (omega (arith, long)),
      c.terms_legal.ensures,
      c.place_of.ensures,
    )

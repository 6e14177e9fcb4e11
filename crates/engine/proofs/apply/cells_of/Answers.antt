-- `cells_of` reads the number of cells from the header.
-- It stands where `field_at` says.
use mathlib.Core.Path.{sym, ◌∙◌}
use native.Mathlib.Omega.{arith}
use Rattle.octets.specs.Fields.{offset}
use Rattle.octets.proofs.FieldsLaws.{field_at}
use Rattle.rules.specs.Layout.{header_fields, cells_in_header}
use Rattle.engine.proofs.apply.cells_of.Goals as goal

pub returns : goal.returns
unfolding offset
returns c = c.get.ensures ∙ sym (field_at header_fields cells_in_header c.args.table.now (omega (arith, c.requires)))

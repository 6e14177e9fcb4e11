-- `add_place` leaves the cell with one place more, behind the others.
-- All bytes of the new place stand where the first free place was: `added`.
use mathlib.Core.Path.{◌∙◌}
use Rattle.octets.specs.Runs.{Bytes}
use Rattle.octets.proofs.NumbersLaws.{words-stored}
use Rattle.cell_change.proofs.AddedLaws.{added}
use Rattle.cell_read.specs.Places.{place_from}
use Rattle.cell_change.proofs.add_place.Goals as goal

pub returns : goal.returns
returns c =
    let a = c.args in
    let bytes : Bytes a.new.now = λ i. (c.type_inv.new i).fits in
    words-stored a.cell.now a.new.now (place_from a.k) bytes c.requires.one_place.long c.get.ensures c.get-2.ensures c.get-3.ensures c.put.ensures c.put-2.ensures c.put-3.ensures
    ∙ added a.cell.now a.k c.requires.free_at a.new.now c.requires.one_place bytes

-- The text with a number stops in a cell: what a search for its place makes of the places. That this is what a cancel says is a law of proofs/.
use Rattle.std.specs.Prelude.{cond, List, [], ℕ, ltb, length, get_or}
use Rattle.rules.specs.InCell.{Done, done, reported}
use Rattle.rules.specs.declared.Place.{Place}
use Rattle.cell_read.specs.Places.{no_place, index_of, without}

-- found: the place goes and the cell is reported with its sent count; not found: nothing
unfoldable pub stop_text : ℕ → List Place → Done
stop_text text ps =
    cond (ltb (index_of text ps) (length ps))
    (done (without (index_of text ps) ps) (reported (get_or ps (index_of text ps) no_place).sent.0))
    (done ps [])

-- What the judge tests of an answer, in its order: the head, then the rows in one pass. `answerable` says the same of the whole.
use Rattle.std.specs.Prelude.{Bool, true, ◌&&◌, ◌||◌, List, [], ◌∷◌, ℕ, ◌+◌, ◌*◌, eqb, ltb, leb, length}
use Rattle.octets.specs.Fields.{field_of}
use Rattle.rules.specs.Layout.{current, mark_field, version_field, answer_fields, answer_size, row_size, answer_mark, answer_version, most_cells, cell_end}
use Rattle.rules.specs.Record.{kind_of}
use Rattle.rules.specs.Reply.{Row}
use Rattle.rules.specs.Answer.{row_count, answer_of}
use Rattle.answer_judge.specs.Answerable.{is_wired}

-- "PWA" and the version
unfoldable pub answer_marked : List ℕ → Bool
answer_marked b =
    eqb (field_of (answer_fields current) mark_field b) answer_mark
    && eqb (field_of (answer_fields current) version_field b) (answer_version current)

-- a whole head, no more rows than cells, mark and version, a kind that is answered on the wire, and the exact length
unfoldable pub right_head : List ℕ → Bool
right_head b =
    leb (answer_size current) (length b)
    && leb (row_count current b) most_cells
    && (answer_marked b
    && is_wired (kind_of (answer_of current b).kind)
    && eqb (length b) (answer_size current + row_size current * row_count current b))

-- what a row says besides the cell: content 0, and a count only where they are counted
unfoldable pub right_told : (counted : Bool) → Row → Bool
right_told counted w = eqb w.content 0 && (counted || eqb w.count 0)

-- a row in its place: `least` is the least NR CGI that may stand there
unfoldable pub may_follow : (counted : Bool) (least : ℕ) → Row → Bool
may_follow counted least w = leb least w.identity && (ltb w.identity cell_end && right_told counted w)

unfoldable pub follow : (counted : Bool) (least : ℕ) → List Row → Bool
follow counted least [] = true
follow counted least (w ∷ ws) = may_follow counted least w && follow counted (w.identity + 1) ws

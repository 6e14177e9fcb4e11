-- What a legal table or answer says, decoded: heads, places, cells and rows whose numbers fit their fields and keep document 01's rules.
use Rattle.std.specs.Prelude.{Bool, true, false, ◌&&◌, List, [], ◌∷◌, map, ℕ, ◌^◌, ltb, leb, length}
use Rattle.rules.specs.Lists.{every, ascending, rising}
use Rattle.rules.specs.Layout.{Version, head_fields, place_fields, record_fields, answer_fields, row_fields, places_per_cell, most_areas, most_cells, cell_end}
use Rattle.rules.specs.Table.{Head, Cell, head_numbers, place_numbers, legal_place, different}
use Rattle.rules.specs.Record.{kind_of, request_numbers}
use Rattle.rules.specs.Reply.{Row, identities}
use Rattle.rules.specs.Answer.{Answer, row_numbers, answer_numbers, legal_row, is_known}
use Rattle.rules.specs.declared.Place.{Place}
use Rattle.rules.specs.declared.Request.{Request}

-- one number for each field, below the limit that its width sets
unfoldable pub fits : List ℕ → List ℕ → Bool
fits [] [] = true
fits [] (v ∷ vs) = false
fits (w ∷ ws) [] = false
fits (w ∷ ws) (v ∷ vs) = ltb v (256 ^ w) && fits ws vs

unfoldable pub sound_head : Version → Head → Bool
sound_head v h =
    fits (head_fields v) (head_numbers h)
    && ltb h.identity cell_end
    && leb (length h.areas) most_areas
    && ascending h.areas

unfoldable pub sound_place : Version → Place → Bool
sound_place v p = fits (place_fields v) (place_numbers p) && legal_place v p

unfoldable pub sound_places : Version → List Place → Bool
sound_places v ps = leb (length ps) places_per_cell && every (sound_place v) ps && different ps

unfoldable pub sound_cell : Version → Cell → Bool
sound_cell v c = sound_head v c.head && sound_places v c.places

abbrev pub identity_of_cell : Cell → ℕ
identity_of_cell c = c.head.identity

unfoldable pub sound_cells : Version → List Cell → Bool
sound_cells v cells =
    (leb 1 (length cells) && leb (length cells) most_cells)
    && every (sound_cell v) cells
    && ascending (map identity_of_cell cells)

unfoldable pub sound_row : Version → ℕ → Row → Bool
sound_row v kind w = fits (row_fields v) (row_numbers w) && legal_row kind w

unfoldable pub sound_answer : Version → Answer → Bool
sound_answer v a =
    fits (answer_fields v) (answer_numbers v a.kind a.identifier a.serial (length a.reply.rows))
    && is_known (kind_of a.kind)
    && every (sound_row v a.kind) a.reply.rows
    && rising (identities a.reply.rows)

-- the fields of a request fit a record's: what the types of `Request` say
unfoldable pub fit_request : Request → Bool
fit_request q = fits record_fields (request_numbers q 0)

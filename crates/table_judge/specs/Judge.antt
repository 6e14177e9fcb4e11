-- The parts of "a legal table" that one function tests each, where document 01's definitions in `rules` do not name them. Their conjunctions are those definitions.
use denote.Ref.{Bor}
use Rattle.std.specs.Prelude.{◌≡◌, Bool, ◌&&◌, List, map, ℕ, ◌+◌, ◌*◌, eqb, leb, length, take, drop}
use Rattle.std.specs.Fn.{Shared}
use Rattle.octets.specs.Fields.{field_of}
use Rattle.rules.specs.Lists.{every, zeros, ascending}
use Rattle.rules.specs.Layout.{Version, current, places_in_header, zero_in_header, header_fields, places_per_cell, most_areas, header_size, most_cells}
use Rattle.rules.specs.Table.{is_live, place_of, legal_place, cell_count, identity_at}

-- at most four are used, the used ones come first and ascend, the rest is zero
unfoldable pub legal_areas : ℕ → List ℕ → Bool
legal_areas used areas = leb used most_areas && ascending (take used areas) && zeros (drop used areas)

-- a place that is no free one
unfoldable pub legal_live : List ℕ → Bool
legal_live b = is_live current b && legal_place current (place_of current b)

-- the header, mark and version apart, and the exact length, of cells of a size
unfoldable pub legal_header : ℕ → List ℕ → Bool
legal_header size t =
    (leb 1 (cell_count t) && leb (cell_count t) most_cells)
    && eqb (field_of header_fields places_in_header t) places_per_cell
    && eqb (field_of header_fields zero_in_header t) 0
    && eqb (length t) (header_size + size * cell_count t)

-- runs of bytes, cells or heads of a version, that f finds legal, strictly ascending by NR CGI
unfoldable pub legal_runs : Version → (List ℕ → Bool) → List (List ℕ) → Bool
legal_runs v f bs = every f bs && ascending (map (identity_at v) bs)

-- what a caller asks of each run: each call's answer is what f says of the bytes lent
abbrev pub IsTest : {F : Type 0} → Shared F (Bor (List ℕ) × Unit {0}) Bool → F → (List ℕ → Bool) → Type 0
IsTest g legal f = (run : Bor (List ℕ)) (r : Bool) → g.post legal (run, tt) r → r ≡ f run.now

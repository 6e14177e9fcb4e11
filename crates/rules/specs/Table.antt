-- Document 01, "The table": what a cell is, what its bytes say, the bytes of a cell, and which bytes are a legal table.
use Rattle.std.specs.Prelude.{Bool, true, cond, not, ◌&&◌, ◌||◌, ℕ, ◌+◌, ◌*◌, eqb, ltb, leb, length, take, drop, replicate}
use mathlib.Core.List.{List, [], ◌∷◌, ◌++◌, map, flat_map}
use Rattle.octets.specs.Runs.{pieces}
use Rattle.octets.specs.Fields.{numbers, bytes_of, padded, field_of}
use Rattle.rules.specs.Lists.{every, any, zeros, ascending, larger}
use Rattle.rules.specs.Layout.{Version, version_number, version_of, is_older, identity_in_head, code_in_head, areas_used_in_head, areas_in_head, identifier_in_place, serial_in_place, content_in_place, period_in_place, requested_in_place, sent_in_place, wait_in_place, sib_in_place, live_in_place, zero_in_place, cells_in_header, mark_field, version_field, places_in_header, zero_in_header, header_fields, head_fields, place_fields, places_per_cell, most_areas, header_size, head_size, place_size, cell_size, table_mark, most_cells, longest_period, first_sib, last_sib, cell_end}
use Rattle.rules.specs.declared.Place.{Place}

-- ---- cells

pub record Head : Type 0 where
  pub identity : ℕ
  pub code : ℕ
  -- the emergency areas in use
  pub areas : List ℕ

pub record Cell : Type 0 where
  pub head : Head
  -- the live ones, in order
  pub places : List Place

-- ---- a head and its bytes: 24

abbrev pub areas_used : Version → List ℕ → ℕ
areas_used v b = field_of (head_fields v) areas_used_in_head b

-- the four identifiers, used or not
abbrev pub all_areas : Version → List ℕ → List ℕ
all_areas v b = take most_areas (drop areas_in_head (numbers (head_fields v) b))

unfoldable pub head_of : Version → List ℕ → Head
head_of v b =
    record {
      identity = field_of (head_fields v) identity_in_head b;
      code = field_of (head_fields v) code_in_head b;
      areas = take (areas_used v b) (all_areas v b);
    }

unfoldable pub head_numbers : Head → List ℕ
head_numbers h = h.identity ∷ h.code ∷ length h.areas ∷ padded most_areas 0 h.areas

unfoldable pub head_bytes : Version → Head → List ℕ
head_bytes v h = bytes_of (head_fields v) (head_numbers h)

-- NR CGI below 2^60; 0 to 4 emergency areas, the used ones first and strictly ascending, the rest zero
unfoldable pub legal_head : Version → List ℕ → Bool
legal_head v b =
    ltb (head_of v b).identity cell_end
    && leb (areas_used v b) most_areas
    && ascending (head_of v b).areas
    && zeros (drop (areas_used v b) (all_areas v b))

-- ---- a place and its bytes: 20, in version 2 24

unfoldable pub place_of : Version → List ℕ → Place
place_of v b =
    record {
      identifier = field_of (place_fields v) identifier_in_place b;
      serial = field_of (place_fields v) serial_in_place b;
      content = field_of (place_fields v) content_in_place b;
      period = record { 0 = field_of (place_fields v) period_in_place b };
      requested = record { 0 = field_of (place_fields v) requested_in_place b };
      sent = record { 0 = field_of (place_fields v) sent_in_place b };
      wait = record { 0 = field_of (place_fields v) wait_in_place b };
      sib = field_of (place_fields v) sib_in_place b;
    }

unfoldable pub place_numbers : Place → List ℕ
place_numbers p =
    p.identifier
    ∷ p.serial
    ∷ p.content
    ∷ p.period.0
    ∷ p.requested.0
    ∷ p.sent.0
    ∷ p.wait.0
    ∷ p.sib
    ∷ 1
    ∷ 0
    ∷ []

unfoldable pub place_bytes : Version → Place → List ℕ
place_bytes v p = bytes_of (place_fields v) (place_numbers p)

abbrev pub free_bytes : Version → List ℕ
free_bytes v = replicate (place_size v) 0

-- "A free place is all zero."
unfoldable pub is_free : List ℕ → Bool
is_free b = zeros b

-- live = 1, and zero in the last two bytes
unfoldable pub is_live : Version → List ℕ → Bool
is_live v b = eqb (field_of (place_fields v) live_in_place b) 1 && eqb (field_of (place_fields v) zero_in_place b) 0

-- "Live places come first." Behind a free place all are free.
unfoldable pub live_first : Version → List (List ℕ) → Bool
live_first v [] = true
live_first v (b ∷ bs) = cond (is_free b) (every is_free bs) (is_live v b && live_first v bs)

-- the live places
unfoldable pub places_of : Version → List (List ℕ) → List Place
places_of v [] = []
places_of v (b ∷ bs) = cond (is_free b) [] (place_of v b ∷ places_of v bs)

-- period at most 4095, in version 2 at most 131,071; period 0 only with requested 1; wait below the larger of period and 1; sent below requested unless requested is 0; SIB kind 6 to 8
unfoldable pub legal_place : Version → Place → Bool
legal_place v p =
    leb p.period.0 (longest_period v).0
    && (not (eqb p.period.0 0) || eqb p.requested.0 1)
    && ltb p.wait.0 (larger p.period.0 1)
    && (eqb p.requested.0 0 || ltb p.sent.0 p.requested.0)
    && (leb first_sib p.sib && leb p.sib last_sib)

-- the same identifier and serial number
unfoldable pub is_text : ℕ → ℕ → Place → Bool
is_text identifier serial p = eqb p.identifier identifier && eqb p.serial serial

-- both, side by side in one number
unfoldable pub text_of : Place → ℕ
text_of p = p.identifier * 65536 + p.serial

unfoldable pub running : ℕ → ℕ → List Place → Bool
running identifier serial ps = any (is_text identifier serial) ps

-- "No two live places of a cell have the same identifier and serial number."
unfoldable pub different : List Place → Bool
different [] = true
different (p ∷ ps) = not (running p.identifier p.serial ps) && different ps

unfoldable pub legal_places : Version → List (List ℕ) → Bool
legal_places v bs = live_first v bs && every (legal_place v) (places_of v bs) && different (places_of v bs)

-- ---- a cell and its bytes: 104, in version 2 120

abbrev pub place_runs : Version → List ℕ → List (List ℕ)
place_runs v c = pieces (place_size v) places_per_cell (drop (head_size v) c)

unfoldable pub cell_of : Version → List ℕ → Cell
cell_of v c = record { head = head_of v (take (head_size v) c); places = places_of v (place_runs v c) }

-- the live places first, then free ones
unfoldable pub places_bytes : Version → List Place → List ℕ
places_bytes v ps = flat_map (λ b. b) (padded places_per_cell (free_bytes v) (map (place_bytes v) ps))

unfoldable pub cell_bytes : Version → Cell → List ℕ
cell_bytes v c = head_bytes v c.head ++ places_bytes v c.places

unfoldable pub legal_cell : Version → List ℕ → Bool
legal_cell v c = legal_head v (take (head_size v) c) && legal_places v (place_runs v c)

-- ---- a whole table

abbrev pub cell_count : List ℕ → ℕ
cell_count t = field_of header_fields cells_in_header t

abbrev pub cell_runs : Version → List ℕ → List (List ℕ)
cell_runs v t = pieces (cell_size v) (cell_count t) (drop header_size t)

unfoldable pub cells_of : Version → List ℕ → List Cell
cells_of v t = map (cell_of v) (cell_runs v t)

unfoldable pub header_bytes : Version → ℕ → List ℕ
header_bytes v n = bytes_of header_fields (table_mark ∷ version_number v ∷ n ∷ places_per_cell ∷ 0 ∷ [])

unfoldable pub table_bytes : Version → List Cell → List ℕ
table_bytes v cells = header_bytes v (length cells) ++ flat_map (cell_bytes v) cells

-- the number by which the cell whose bytes these are is known and ordered
abbrev pub identity_at : Version → List ℕ → ℕ
identity_at v b = (head_of v (take (head_size v) b)).identity

-- the version that a header says
abbrev pub own_version : List ℕ → Version
own_version t = version_of (field_of header_fields version_field t)

-- the mark, and the version by its number
unfoldable pub table_marked : ℕ → List ℕ → Bool
table_marked n t = leb 5 (length t) && eqb (field_of header_fields mark_field t) table_mark && eqb (field_of header_fields version_field t) n

-- the mark, and an older version
unfoldable pub older_marked : List ℕ → Bool
older_marked t =
    leb 5 (length t) && eqb (field_of header_fields mark_field t) table_mark && is_older (field_of header_fields version_field t)

-- 1 to 512 cells; the byte 4; zeros; the exact length; legal cells, strictly ascending by NR CGI
unfoldable pub legal_table : Version → List ℕ → Bool
legal_table v t =
    (leb 1 (cell_count t) && leb (cell_count t) most_cells)
    && eqb (field_of header_fields places_in_header t) places_per_cell
    && eqb (field_of header_fields zero_in_header t) 0
    && eqb (length t) (header_size + cell_size v * cell_count t)
    && every (legal_cell v) (cell_runs v t)
    && ascending (map (identity_at v) (cell_runs v t))

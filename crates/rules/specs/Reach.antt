-- Document 01, "Which cells a request reaches".
use Rattle.std.specs.Prelude.{Bool, true, false, cond, List, ℕ, eqb}
use Rattle.rules.specs.Lists.{any, one_of, up_to}
use Rattle.rules.specs.Identity.{cell_item, tracking_item}
use Rattle.rules.specs.Table.{Head}
use Rattle.rules.specs.Record.{no_area, Area, everywhere, in_cells, in_tracking_areas, in_emergency_areas, unknown_area, area_of}

-- an item names a cell by its NR CGI; by its PLMN and code; by one of its emergency areas in use
abbrev pub names_in : Area → Head → ℕ → Bool
names_in everywhere h item = false
names_in in_cells h item = eqb item (cell_item h.identity)
names_in in_tracking_areas h item = eqb item (tracking_item h.identity h.code)
names_in in_emergency_areas h item = one_of item h.areas
names_in unknown_area h item = false

unfoldable pub names : ℕ → Head → ℕ → Bool
names area h item = names_in (area_of area) h item

-- every cell without an area, else those that some item names
unfoldable pub reaches : ℕ → List ℕ → Head → Bool
reaches area items h = cond (eqb area no_area) true (any (names area h) items)

-- what the search for a cell looks at, in document 02's words: "the items up to and including the first match, or all n without one"; none without an area
unfoldable pub looked_at : ℕ → List ℕ → Head → ℕ
looked_at area items h = cond (eqb area no_area) 0 (up_to (names area h) items)

-- What the converter makes of a version 1 place and of a version 1 cell: the same numbers, in the fields of the current layout.
use Rattle.std.specs.Prelude.{Bool, ℕ, leb, take}
use mathlib.Core.List.{List, ◌++◌, flat_map}
use Rattle.octets.specs.Fields.{numbers, bytes_of, field_of}
use Rattle.rules.specs.Lists.{every}
use Rattle.rules.specs.Layout.{version1, current, period_in_place, place_fields, longest_period, head_size}
use Rattle.rules.specs.Table.{place_runs}

unfoldable pub wide_place : List ℕ → List ℕ
wide_place b = bytes_of (place_fields current) (numbers (place_fields version1) b)

-- the four places of a cell
unfoldable pub wide_places : List ℕ → List ℕ
wide_places c = flat_map wide_place (place_runs version1 c)

-- the head stays
unfoldable pub wide_cell : List ℕ → List ℕ
wide_cell c = take (head_size version1) c ++ wide_places c

-- of version 1's rules only this is none of the current ones, once a place is widened
unfoldable pub short_period : List ℕ → Bool
short_period b = leb (field_of (place_fields version1) period_in_place b) (longest_period version1).0

unfoldable pub short_periods : List ℕ → Bool
short_periods c = every short_period (place_runs version1 c)

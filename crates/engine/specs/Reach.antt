-- What names a cell, read once for each cell before the items are looked through.
use Rattle.std.specs.Prelude.{◌≡◌, Bool, List, [], ◌∷◌, map, ℕ, take, get_or}
use Rattle.octets.specs.Turned.{turned}
use Rattle.rules.specs.Lists.{one_of}
use Rattle.rules.specs.Identity.{cell_item, tracking_item}
use Rattle.rules.specs.Layout.{current}
use Rattle.rules.specs.Table.{head_of, areas_used, all_areas}
use Rattle.rules.specs.Record.{Area, everywhere, in_cells, in_tracking_areas, in_emergency_areas, unknown_area, area_of}
use Rattle.rules.specs.Reach.{names}
use Rattle.engine.specs.declared.reach.Naming.{Naming}

-- the keys in use, each turned back
unfoldable pub keys_in : Naming → List ℕ
keys_in s = take s.keys (map (turned 8) s.turned)

-- whether an item is one of them
unfoldable pub named_by : Naming → ℕ → Bool
named_by s item = one_of item (keys_in s)

-- n keys in use, each turned as an item lies in its record; 0 where none is given
unfoldable pub turned_keys : ℕ → List ℕ → Naming
turned_keys n keys =
    record {
      keys = n;
      turned = map (turned 8) (get_or keys 0 0 ∷ get_or keys 1 0 ∷ get_or keys 2 0 ∷ get_or keys 3 0 ∷ []);
    }

-- by the area's kind, out of the bytes of a head: its NR CGI, its tracking area as an item, its emergency areas in use
abbrev pub naming_in : Area → List ℕ → Naming
naming_in everywhere b = turned_keys 0 []
naming_in in_cells b = turned_keys 1 (cell_item (head_of current b).identity ∷ [])
naming_in in_tracking_areas b = turned_keys 1 (tracking_item (head_of current b).identity (head_of current b).code ∷ [])
naming_in in_emergency_areas b = turned_keys (areas_used current b) (all_areas current b)
naming_in unknown_area b = turned_keys 0 []

unfoldable pub naming_of : ℕ → List ℕ → Naming
naming_of area b = naming_in (area_of area) b

pub record KeysOf (area : ℕ) (b : List ℕ) (s : Naming) : Type 0 where
  pub keys : s ≡ naming_of area b
  -- which follows
  pub meant : (x : ℕ) → named_by s x ≡ names area (head_of current b) x

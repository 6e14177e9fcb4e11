-- The live places that a cell's bytes say, and the cell with other places: what this crate's promises speak of. A place is named by its number, from 0 on.
use Rattle.std.specs.Prelude.{◌≡◌, true, cond, List, [], ◌∷◌, ◌++◌, ℕ, suc, ◌+◌, ◌*◌, ◌<◌, eqb, length, get_or, take, drop, set}
use Rattle.rules.specs.Layout.{current, head_size, place_size, places_per_cell, cell_size}
use Rattle.rules.specs.Table.{areas_used, all_areas, head_of, is_live, places_of, text_of, place_runs, places_bytes}
use Rattle.rules.specs.declared.Place.{Place}
use Rattle.cell_read.specs.declared.Areas.{Areas}

abbrev pub live_places : List ℕ → List Place
live_places c = places_of current (place_runs current c)

-- the cell with other places; its head stays
unfoldable pub with_places : List ℕ → List Place → List ℕ
with_places c ps = take (head_size current) c ++ places_bytes current ps

-- the cell with another place k
abbrev pub with_place : List ℕ → ℕ → Place → List ℕ
with_place c k p = with_places c (set (live_places c) k p)

-- a cell whose live places come first and whose free ones are zero: less than legal
pub record Formed (c : List ℕ) : Type 0 where
  pub size : length c ≡ cell_size current
  pub whole : c ≡ with_places c (live_places c)

-- ---- one place

abbrev pub no_place : Place
no_place =
    record {
      identifier = 0;
      serial = 0;
      content = 0;
      period = record { 0 = 0 };
      requested = record { 0 = 0 };
      sent = record { 0 = 0 };
      wait = record { 0 = 0 };
      sib = 0;
    }

-- the byte at which place k begins
abbrev pub place_from : ℕ → ℕ
place_from k = head_size current + place_size current * k

-- live place k
unfoldable pub place_at : List ℕ → ℕ → Place
place_at c k = get_or (live_places c) k no_place

pub record LiveAt (c : List ℕ) (k : ℕ) : Type 0 where
  pub formed : Formed c
  pub live : k < length (live_places c)
  -- which follows, by `live-few`
  pub few : k < places_per_cell

-- the first free place is k
pub record FreeAt (c : List ℕ) (k : ℕ) : Type 0 where
  pub formed : Formed c
  pub first : k ≡ length (live_places c)
  pub room : k < places_per_cell

-- the bytes of a live place
pub record OnePlace (b : List ℕ) : Type 0 where
  pub long : length b ≡ place_size current
  pub live : is_live current b ≡ true

-- ---- the place of a text

-- the number of the first place with that text, the list's length if there is none
unfoldable pub index_of : ℕ → List Place → ℕ
index_of text [] = 0
index_of text (p ∷ ps) = cond (eqb (text_of p) text) 0 (suc (index_of text ps))

-- all but place k
unfoldable pub without : ℕ → List Place → List Place
without k ps = take k ps ++ drop (k + 1) ps

-- ---- the head

-- the used ones of the four
unfoldable pub areas_in : Areas → List ℕ
areas_in a = take a.used a.all

-- what the bytes of a head say of them
pub record HeadAreas (b : List ℕ) (a : Areas) : Type 0 where
  pub used : a.used ≡ areas_used current b
  pub four : a.all ≡ all_areas current b
  -- which follows
  pub in_use : areas_in a ≡ (head_of current b).areas

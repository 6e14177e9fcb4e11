-- A converted table is legal and says the cells that its own version says.
-- What is sound by any version is sound by the current rules, so the cells encode to a legal table of today.
use Rattle.std.specs.Prelude.{Ok}
use mathlib.Core.Path.{◌≡◌, ap, ◌∙◌}
use mathlib.Core.Bool.{true}
use mathlib.Core.List.{List}
use Prim.Native.Nat.{ℕ, ◌+◌, ◌*◌}
use native.Mathlib.Omega.{arith}
use lib.ListN.{length}
use Rattle.octets.specs.Runs.{Bytes}
use Rattle.rules.specs.Layout.{Version, version1, version2, version_of, current, header_size, cell_size}
use Rattle.rules.specs.Table.{Head, Cell, cell_count, cells_of, table_bytes, own_version}
use Rattle.rules.specs.Refusals.{table_verdict}
use Rattle.rules.specs.Applied.{converted}
use Rattle.rules.specs.Sound.{sound_head, sound_place, sound_cell, sound_cells}
use Rattle.rules.specs.declared.Place.{Place}
use Rattle.rules.proofs.TestLaws.{and-true}
use Rattle.rules.proofs.AllLaws.{all_every, every_all, all_imply}
use Rattle.rules.proofs.LayoutLaws.{version-back, longest-most}
use Rattle.rules.proofs.SoundPlaceLaws.{sound_facts, facts_sound, places_facts, facts_places}
use Rattle.rules.proofs.CellCodec.{sound-cell}
use Rattle.rules.proofs.TableCodec.{table-sound, table-again, table-legal, count-table_bytes, length_cells_of, length-table_bytes, bytes-table_bytes}
use Rattle.rules.proofs.LegalTableLaws.{table-accepted, sound-cells, cells-sound}

-- ---- sound by any version, sound by the current rules

head_still_sound : (v : Version) (h : Head) → sound_head v h ≡ true → sound_head current h ≡ true
unfolding sound_head
head_still_sound version1 h e = e
head_still_sound version2 h e = e

module _ (v : Version) where
  place_still_sound : (p : Place) → sound_place v p ≡ true → sound_place current p ≡ true
  place_still_sound p e =
      let s = sound_facts v p e in
      let l = s.legal in
      facts_sound current p
      (record {
        identifier = s.identifier;
        serial = s.serial;
        content = s.content;
        requested = s.requested;
        sent = s.sent;
        legal = record { period = omega (arith, l.period, longest-most v); once = l.once; wait = l.wait; sent = l.sent; sib = l.sib };
      })

  cell_still_sound : (c : Cell) → sound_cell v c ≡ true → sound_cell current c ≡ true
  unfolding sound_cell
  cell_still_sound c e =
      let s = sound-cell v c e in
      let p = places_facts v c.places s.1 in
      let each = every_all (sound_place current) (all_imply place_still_sound (all_every (sound_place v) c.places p.each)) in
      and-true _ _ (head_still_sound v c.head s.0) (facts_places current c.places (record { few = p.few; each = each; apart = p.apart }))

  cells_still_sound : (cells : List Cell) → sound_cells v cells ≡ true → sound_cells current cells ≡ true
  cells_still_sound cells e =
      let s = sound-cells v cells e in
      cells-sound current cells
      (record { some = s.some; few = s.few; each = all_imply cell_still_sound s.each; order = s.order })

  -- ---- the converted table

  module _ (t : List ℕ) (accepted : table_verdict v t ≡ Ok tt) where
    -- a table that a version accepts says that version
    pub own-version : own_version t ≡ v
    own-version = ap version_of (table-accepted v t accepted).version ∙ version-back v

    pub converted_by : converted t ≡ table_bytes current (cells_of v t)
    unfolding converted
    converted_by = rw own-version

    module _ (bytes : Bytes t) where
      sound : sound_cells current (cells_of v t) ≡ true
      sound = cells_still_sound (cells_of v t) (table-sound v t bytes accepted)

      pub converted-cells : cells_of current (converted t) ≡ cells_of v t
      converted-cells = rw converted_by (table-again current (cells_of v t) sound)

      pub converted-legal : table_verdict current (converted t) ≡ Ok tt
      converted-legal = rw converted_by (table-legal current (cells_of v t) sound)

      pub converted-count : cell_count (converted t) ≡ cell_count t
      converted-count = rw converted_by (count-table_bytes current (cells_of v t) sound ∙ length_cells_of v t)

      pub bytes-converted : Bytes (converted t)
      bytes-converted = rw converted_by (bytes-table_bytes current (cells_of v t) sound)

      pub length-converted : length (converted t) ≡ header_size + cell_size current * cell_count t
      length-converted = rw converted_by (length-table_bytes current (cells_of v t) ∙ rw (length_cells_of v t))

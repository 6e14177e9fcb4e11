-- What a table that is accepted gives, test by test, and sound cells likewise; and back.
-- A definition by `&&` is taken apart once, into a record of plain facts.
use Rattle.std.specs.Prelude.{Ok}
use mathlib.Core.Path.{◌≡◌}
use mathlib.Core.Bool.{true}
use mathlib.Core.List.{List, map}
use Prim.Native.Nat.{ℕ, ◌+◌, ◌*◌, ◌≤◌}
use native.Mathlib.Omega.{arith}
use borrow.Author.Tests.{eqb-true, eq-eqb, leb-true, le-leb}
use lib.Dec.{leb}
use lib.ListN.{length}
use Rattle.octets.specs.Fields.{field_of}
use Rattle.rules.specs.Lists.{every, ascending}
use Rattle.rules.specs.Layout.{Version, mark_field, version_field, places_in_header, zero_in_header, header_fields, header_size, cell_size, places_per_cell, table_mark, version_number, most_cells}
use Rattle.rules.specs.Table.{Cell, legal_cell, cell_count, cell_runs, identity_at, table_marked, legal_table}
use Rattle.rules.specs.Sound.{sound_cell, identity_of_cell, sound_cells}
use Rattle.rules.specs.Refusals.{table_tests, table_verdict}
use Rattle.rules.proofs.TestLaws.{both}
use Rattle.rules.proofs.AllLaws.{All, all_every, every_all}
use Rattle.rules.proofs.VerdictLaws.{all_held}

module _ (v : Version) where
  -- ---- the tests, part by part

  pub record LegalTable (t : List ℕ) : Type 0 where
    pub mark : field_of header_fields mark_field t ≡ table_mark
    pub version : field_of header_fields version_field t ≡ version_number v
    pub some : 1 ≤ cell_count t
    pub few : cell_count t ≤ most_cells
    pub four : field_of header_fields places_in_header t ≡ places_per_cell
    pub spare : field_of header_fields zero_in_header t ≡ 0
    pub size : length t ≡ header_size + cell_size v * cell_count t
    pub cells : every (legal_cell v) (cell_runs v t) ≡ true
    pub order : ascending (map (identity_at v) (cell_runs v t)) ≡ true

  pub table-accepted : (t : List ℕ) → table_verdict v t ≡ Ok tt → LegalTable t
  unfolding table_verdict table_marked legal_table
  table-accepted t e =
      let h = all_held (table_tests v t) e in
      let m = both _ _ h.0 in
      let w = both (leb 5 (length t)) _ m.0 in
      let a = both _ _ h.1.0 in
      let b = both _ _ a.0 in
      let c = both _ _ b.0 in
      let d = both _ _ c.0 in
      let f = both _ _ d.0 in
      let n = both _ _ f.0 in
      record {
        mark = eqb-true (field_of header_fields mark_field t) table_mark w.1;
        version = eqb-true (field_of header_fields version_field t) (version_number v) m.1;
        some = leb-true 1 (cell_count t) n.0;
        few = leb-true (cell_count t) most_cells n.1;
        four = eqb-true (field_of header_fields places_in_header t) places_per_cell f.1;
        spare = eqb-true (field_of header_fields zero_in_header t) 0 d.1;
        size = eqb-true (length t) (header_size + cell_size v * cell_count t) c.1;
        cells = b.1;
        order = a.1;
      }

  pub accepted-table : (t : List ℕ) → LegalTable t → table_verdict v t ≡ Ok tt
  unfolding table_verdict table_marked legal_table
  accepted-table t l =
      let s = l.size in
      rw (
        le-leb 5 (length t) (omega arith),
        eq-eqb (field_of header_fields mark_field t) table_mark l.mark,
        eq-eqb (field_of header_fields version_field t) (version_number v) l.version,
        le-leb 1 (cell_count t) l.some,
        le-leb (cell_count t) most_cells l.few,
        eq-eqb (field_of header_fields places_in_header t) places_per_cell l.four,
        eq-eqb (field_of header_fields zero_in_header t) 0 l.spare,
        eq-eqb (length t) (header_size + cell_size v * cell_count t) l.size,
        l.cells,
        l.order,
      )

  pub record SoundCells (cells : List Cell) : Type 0 where
    pub some : 1 ≤ length cells
    pub few : length cells ≤ most_cells
    pub each : All (λ c. sound_cell v c ≡ true) cells
    pub order : ascending (map identity_of_cell cells) ≡ true

  pub sound-cells : (cells : List Cell) → sound_cells v cells ≡ true → SoundCells cells
  unfolding sound_cells
  sound-cells cells e =
      let a = both _ _ e in
      let b = both _ _ a.0 in
      let n = both _ _ b.0 in
      record {
        some = leb-true 1 (length cells) n.0;
        few = leb-true (length cells) most_cells n.1;
        each = all_every (sound_cell v) cells b.1;
        order = a.1;
      }

  pub cells-sound : (cells : List Cell) → SoundCells cells → sound_cells v cells ≡ true
  unfolding sound_cells
  cells-sound cells s =
      rw (le-leb 1 (length cells) s.some, le-leb (length cells) most_cells s.few, every_all (sound_cell v) s.each, s.order)

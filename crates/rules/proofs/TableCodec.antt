-- A table and its cells are each other's inverse: an accepted table is the bytes of its cells, and the bytes of sound cells are an accepted table that says those cells.
-- By the laws of one cell, over the pieces that the header's count cuts; and heads that may be built on make sound cells.
use Rattle.std.specs.Prelude.{Ok}
use mathlib.Core.Path.{◌≡◌, refl, ap, ◌∙◌}
use mathlib.Core.Bool.{true}
use mathlib.Core.List.{List, [], ◌∷◌, map, flat_map, append-nil, map-map, map-id}
use Prim.Native.Nat.{ℕ, ◌+◌, ◌*◌, ◌≤◌, ◌^◌}
use native.Mathlib.Omega.{arith}
use borrow.Author.Tests.{lt-ltb}
use lib.ListN.{length, take, drop, length-append, length-drop, length-map, take-append-drop}
use lib.Seq.{drop_at}
use Rattle.octets.specs.Runs.{Bytes}
use Rattle.octets.specs.Fields.{size, numbers, Fit, field_of}
use Rattle.octets.proofs.RunsLaws.{bytes_drop, bytes_append}
use Rattle.octets.proofs.PiecesLaws.{length-pieces, pieces_flat, pieces-flat_map, length-flat_map}
use Rattle.octets.proofs.FieldsLaws.{numbers_bytes_of, bytes_of_numbers, bytes_bytes_of}
use Rattle.rules.specs.Layout.{Version, header_fields, header_size, cell_size, places_per_cell, table_mark, version_number, most_cells}
use Rattle.rules.specs.Table.{Cell, cell_of, cell_bytes, legal_cell, cell_count, cell_runs, cells_of, header_bytes, table_bytes, identity_at}
use Rattle.rules.specs.Sound.{fits, sound_cell, identity_of_cell, sound_cells}
use Rattle.rules.specs.Refusals.{table_verdict}
use Rattle.rules.proofs.MapLaws.{flat_map-map}
use Rattle.rules.proofs.AllLaws.{All, all_every, every_all, all_imply, all_both, all_map, map_all, flat_map_all, all_pieces, bytes-flat_map_all}
use Rattle.rules.proofs.FitLaws.{fits-Fit, length-written}
use Rattle.rules.proofs.LayoutLaws.{number_fits}
use Rattle.rules.proofs.CellCodec.{cell-back, cell-sound, length-cell_bytes, cell-again, cell_legal_lem, bytes-cell_bytes}
use Rattle.rules.proofs.LegalTableLaws.{table-accepted, accepted-table, sound-cells, cells-sound}

module _ (v : Version) where
  -- ---- from bytes

  abbrev header_numbers : ℕ → List ℕ
  header_numbers n = table_mark ∷ version_number v ∷ n ∷ places_per_cell ∷ 0 ∷ []

  pub length_cells_of : (t : List ℕ) → length (cells_of v t) ≡ cell_count t
  unfolding cells_of
  length_cells_of t = length-map (cell_runs v t) (cell_of v) ∙ length-pieces (cell_size v) (cell_count t) (drop header_size t)

  module _ (t : List ℕ) (bytes : Bytes t) (accepted : table_verdict v t ≡ Ok tt) where
    behind : length (drop header_size t) ≡ cell_size v * cell_count t
    behind = let s = (table-accepted v t accepted).size in rw length-drop (omega arith)

    -- each cell's bytes, with what is known of them
    pub table-cells : All (λ c. Bytes c × (length c ≡ cell_size v) × (legal_cell v c ≡ true)) (cell_runs v t)
    table-cells =
        all_imply (λ c h. (h.0.0, h.0.1, h.1))
        (all_both (all_pieces (cell_size v) (cell_count t) (drop header_size t) (bytes_drop header_size t bytes) (omega (arith, behind))) (all_every (legal_cell v) (cell_runs v t) (table-accepted v t accepted).cells))

    same-header : header_numbers (cell_count t) ≡ numbers header_fields t
    unfolding field_of numbers
    same-header = let l = table-accepted v t accepted in rw (l.mark, l.version, l.four, l.spare)

    header-back : header_bytes v (cell_count t) ≡ take header_size t
    unfolding header_bytes size
    header-back =
        let s = (table-accepted v t accepted).size in
        rw same-header (bytes_of_numbers header_fields t bytes (omega arith))

    pub table-back : table_bytes v (cells_of v t) ≡ t
    unfolding table_bytes cells_of
    table-back =
        let each : flat_map (λ c. cell_bytes v (cell_of v c)) (cell_runs v t) ≡ flat_map (λ c. c) (cell_runs v t) =
        flat_map_all (λ c. cell_bytes v (cell_of v c)) (λ c. c) (all_imply (λ c h. cell-back v c h.0 h.1 h.2) table-cells) in
        rw (length_cells_of t, header-back, flat_map-map (cell_bytes v) (cell_of v) (cell_runs v t), each, pieces_flat (cell_size v) (cell_count t) (drop header_size t) behind) (take-append-drop header_size t)

    pub table-sound : sound_cells v (cells_of v t) ≡ true
    unfolding cells_of cell_of
    table-sound =
        let l = table-accepted v t accepted in
        let n = length_cells_of t in
        cells-sound v (cells_of v t)
        (record {
          some = omega (arith, l.some);
          few = omega (arith, l.few);
          each = all_map (λ c. sound_cell v c ≡ true) (cell_of v) (all_imply (λ c h. cell-sound v c h.0 h.1 h.2) table-cells);
          order = rw (map-map identity_of_cell (cell_of v) (cell_runs v t)) l.order;
        })

  -- ---- to bytes

  pub length-header_bytes : (n : ℕ) → length (header_bytes v n) ≡ header_size
  unfolding header_bytes size
  length-header_bytes n = length-written header_fields (header_numbers n) refl

  pub length-table_bytes : (cells : List Cell) → length (table_bytes v cells) ≡ header_size + cell_size v * length cells
  unfolding table_bytes
  length-table_bytes cells = rw (length-append, length-header_bytes (length cells), length-flat_map (cell_size v) (cell_bytes v) cells (length-cell_bytes v))

  cells_of-table_bytes : (cells : List Cell) → drop header_size (table_bytes v cells) ≡ flat_map (cell_bytes v) cells
  unfolding table_bytes
  cells_of-table_bytes cells = drop_at (header_bytes v (length cells)) (flat_map (cell_bytes v) cells) header_size (length-header_bytes (length cells))

  fit-header : (n : ℕ) → n ≤ most_cells → Fit header_fields (header_numbers n)
  unfolding fits
  fit-header n h = fits-Fit header_fields (header_numbers n) (rw (lt-ltb (version_number v) (256 ^ 2) (number_fits v), lt-ltb n (256 ^ 2) (omega arith)))

  module _ (cells : List Cell) (sound : sound_cells v cells ≡ true) where
    header-again : numbers header_fields (table_bytes v cells) ≡ header_numbers (length cells)
    unfolding table_bytes header_bytes
    header-again = numbers_bytes_of header_fields (header_numbers (length cells)) (flat_map (cell_bytes v) cells) (fit-header (length cells) (sound-cells v cells sound).few)

    pub count-table_bytes : cell_count (table_bytes v cells) ≡ length cells
    unfolding field_of
    count-table_bytes = rw header-again

    pub runs_of_table_bytes : cell_runs v (table_bytes v cells) ≡ map (cell_bytes v) cells
    runs_of_table_bytes =
        rw (count-table_bytes, cells_of-table_bytes cells)
        (rw append-nil at (pieces-flat_map (cell_size v) (cell_bytes v) cells (length-cell_bytes v) []))

    again_each : All (λ c. cell_of v (cell_bytes v c) ≡ c) cells
    again_each = all_imply (cell-again v) (sound-cells v cells sound).each

    pub table-again : cells_of v (table_bytes v cells) ≡ cells
    unfolding cells_of
    table-again =
        rw (runs_of_table_bytes, map-map (cell_of v) (cell_bytes v) cells, map_all (λ c. cell_of v (cell_bytes v c)) (λ c. c) again_each) (map-id cells)

    pub table-legal : table_verdict v (table_bytes v cells) ≡ Ok tt
    unfolding field_of cell_of
    table-legal =
        let s = sound-cells v cells sound in
        let n = count-table_bytes in
        let h = header-again in
        accepted-table v (table_bytes v cells)
        (record {
          mark = rw h;
          version = rw h;
          some = omega (arith, s.some);
          few = omega (arith, s.few);
          four = rw h;
          spare = rw h;
          size = rw n (length-table_bytes cells);
          cells = rw runs_of_table_bytes (every_all (legal_cell v) (all_map (λ b. legal_cell v b ≡ true) (cell_bytes v) (all_imply (cell_legal_lem v) s.each)));
          order =
              rw (
                runs_of_table_bytes,
                map-map (identity_at v) (cell_bytes v) cells,
                map_all (λ c. (identity_at v) (cell_bytes v c)) identity_of_cell (all_imply (λ c e. ap identity_of_cell e) again_each),
              )
              s.order;
        })

    pub bytes-table_bytes : Bytes (table_bytes v cells)
    unfolding table_bytes header_bytes
    bytes-table_bytes =
        let s = sound-cells v cells sound in
        bytes_append (header_bytes v (length cells)) (flat_map (cell_bytes v) cells) (bytes_bytes_of header_fields (header_numbers (length cells)) (fit-header (length cells) s.few))
        (bytes-flat_map_all (cell_bytes v) (all_imply (bytes-cell_bytes v) s.each))

-- The judge's tests in order are `table_verdict`: a table is legal if its header is and its cells are, each test being asked only where those before were passed.
-- What the code learnt, m of the mark, h of the header and r of the cells, settles each conjunction in turn.
use Rattle.std.specs.Prelude.{Ok, Err}
use mathlib.Core.Path.{◌≡◌, sym, ◌∙◌}
use mathlib.Core.Bool.{Bool, true, false, ◌&&◌, and_assoc}
use mathlib.Core.List.{List}
use Prim.Native.Nat.{ℕ, ◌+◌, ◌-◌, ◌*◌, ◌≤◌}
use native.Mathlib.Omega.{arith}
use borrow.Author.Tests.{eqb-true}
use lib.Dec.{eqb, leb}
use lib.ListN.{length, take, drop, length-drop}
use Rattle.octets.specs.Runs.{gets, pieces}
use Rattle.octets.specs.Numbers.{be}
use Rattle.octets.specs.Fields.{offset, field_of}
use Rattle.octets.proofs.FieldsLaws.{field_at}
use Rattle.rules.specs.Layout.{Version, version_number, cells_in_header, places_in_header, zero_in_header, header_fields, places_per_cell, header_size, cell_size, most_cells}
use Rattle.rules.specs.Table.{cell_count, cell_runs, legal_cell, table_marked, legal_table}
use Rattle.rules.specs.Refusals.{table_verdict}
use Rattle.rules.specs.declared.Refusal.TheVariants.{TableMark, TableWrong}
use Rattle.rules.proofs.TestLaws.{both}
use Rattle.table_judge.specs.Judge.{legal_header, legal_runs}
use Rattle.table_judge.proofs.PiecesLaws.{take_rest}

module _ (v : Version) where
  table_parts : (t : List ℕ) → legal_table v t ≡ legal_header (cell_size v) t && legal_runs v (legal_cell v) (cell_runs v t)
  unfolding legal_table legal_header legal_runs
  table_parts t = simp and_assoc

  -- a legal header gives the length
  header-size : (t : List ℕ) → legal_header (cell_size v) t ≡ true → length t ≡ header_size + cell_size v * cell_count t
  unfolding legal_header
  header-size t e =
      let few = leb 1 (cell_count t) && leb (cell_count t) most_cells in
      let four = eqb (field_of header_fields places_in_header t) places_per_cell in
      let spare = eqb (field_of header_fields zero_in_header t) 0 in
      let size = header_size + cell_size v * cell_count t in
      eqb-true (length t) size (both (few && four && spare) (eqb (length t) size) e).1

  -- the header was found legal
  module _ (t : List ℕ) (h : true ≡ legal_header (cell_size v) t) where
    pub header-long : header_size ≤ length t
    header-long = omega (arith, header-size t (sym h))

    count : (n : ℕ) → n ≡ be (gets t 5 2) → n ≡ cell_count t
    unfolding offset
    count n en = en ∙ sym (field_at header_fields cells_in_header t (omega (arith, header-long)))

    pub table-size : (n : ℕ) → n ≡ be (gets t 5 2) → length t ≡ header_size + cell_size v * n
    table-size n en = rw (count n en) (header-size t (sym h))

    pub runs-size : (n : ℕ) → n ≡ be (gets t 5 2) → length (take (length t - header_size) (drop header_size t)) ≡ cell_size v * n
    runs-size n en = rw (take_rest, length-drop) (omega (arith, table-size n en))

  module _ (t : List ℕ) where
    pub unmarked : false ≡ table_marked (version_number v) t → Err TableMark ≡ table_verdict v t
    unfolding table_verdict
    unmarked m = rw (← m)

    module _ (m : true ≡ table_marked (version_number v) t) where
      refused : legal_table v t ≡ false → Err TableWrong ≡ table_verdict v t
      unfolding table_verdict
      refused e = rw (← m, e)

      pub header-wrong : false ≡ legal_header (cell_size v) t → Err TableWrong ≡ table_verdict v t
      header-wrong h = refused (table_parts t ∙ rw (← h))

      module _ (h : true ≡ legal_header (cell_size v) t) (n : ℕ) (en : n ≡ be (gets t 5 2))
          {r : Bool} (er : r ≡ legal_runs v (legal_cell v) (pieces (cell_size v) n (take (length t - header_size) (drop header_size t)))) where
        cells : legal_table v t ≡ r
        cells = table_parts t ∙ rw (← h, ← count t h n en, ← take_rest) (sym er)

        pub cells-wrong : r ≡ false → Err TableWrong ≡ table_verdict v t
        cells-wrong e = refused (cells ∙ e)

        pub table_right : r ≡ true → (Ok tt) ≡ table_verdict v t
        unfolding table_verdict
        table_right e = rw (← m, cells, e)

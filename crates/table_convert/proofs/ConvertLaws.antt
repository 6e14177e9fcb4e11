-- The converter's answers are `conversion`: 1 and 2 by the older version's rules, then 8, then the same cells in the current layout, whole.
-- An older table is one of version 1, and the bytes of its cells are the widened ones, behind a header of the current version.
use Rattle.std.specs.Prelude.{Ok, Err}
use mathlib.Core.Path.{◌≡◌, sym, ◌∙◌}
use mathlib.Core.List.{List, ◌++◌, flat_map}
use Prim.Native.Nat.{ℕ, ◌+◌, ◌-◌, ◌*◌, ◌≤◌, ◌<◌}
use native.Mathlib.Omega.{arith}
use borrow.Author.Tests.{le-leb, lt-leb}
use lib.ListN.{length, take, drop}
use lib.Seq.{sets}
use Rattle.octets.specs.Runs.{gets, pieces, Bytes}
use Rattle.octets.specs.Numbers.{be}
use Rattle.octets.specs.Fields.{offset}
use Rattle.octets.proofs.RunsLaws.{sets-run}
use Rattle.octets.proofs.FieldsLaws.{field_at}
use Rattle.rules.specs.Layout.{version1, current, header_fields, cells_in_header, header_size, cell_size, most_cells}
use Rattle.rules.specs.Table.{cell_count, cell_of, cell_bytes, cell_runs, cells_of, header_bytes, table_bytes}
use Rattle.rules.specs.Refusals.{table_verdict, older_verdict}
use Rattle.rules.specs.Applied.{filled_by, fill, converted, conversion}
use Rattle.rules.specs.declared.Refusal.{Refusal}
use Rattle.rules.specs.declared.Refusal.TheVariants.{ShortBuffer}
use Rattle.rules.proofs.MapLaws.{flat_map-map}
use Rattle.rules.proofs.AllLaws.{all_imply, flat_map_all}
use Rattle.rules.proofs.VerdictLaws.{convert_chain}
use Rattle.rules.proofs.TableCodec.{length_cells_of, table-cells, length-header_bytes}
use Rattle.rules.proofs.LegalTableLaws.{table-accepted}
use Rattle.rules.proofs.OlderLaws.{older-verdict}
use Rattle.rules.proofs.ConvertedLaws.{converted_by, length-converted}
use Rattle.table_judge.proofs.PiecesLaws.{take_rest}
use Rattle.table_convert.specs.Wide.{wide_cell}
use Rattle.table_convert.proofs.WideCellLaws.{wide-bytes}

-- refused by the older version's rules
pub old-refused : (old t : List ℕ) {x : Refusal} → Err x ≡ older_verdict old → filled_by (Err x) t ≡ conversion old t
unfolding conversion fill
old-refused old t e = rw (convert_chain old (length t), ← e)

module _ (old : List ℕ) (accepted : older_verdict old ≡ Ok tt) where
  one : table_verdict version1 old ≡ Ok tt
  one = sym (older-verdict old) ∙ accepted

  pub old-size : length old ≡ header_size + cell_size version1 * cell_count old
  old-size = (table-accepted version1 old one).size

  pub old-few : cell_count old ≤ most_cells
  old-few = (table-accepted version1 old one).few

  -- the count that the code reads
  pub old-count : {n : ℕ} → n ≡ be (gets old 5 2) → n ≡ cell_count old
  unfolding offset
  old-count e = e ∙ sym (field_at header_fields cells_in_header old (omega (arith, old-size)))

  pub room-short : (t : List ℕ) {n : ℕ} → n ≡ be (gets old 5 2) → length t < header_size + cell_size current * n → filled_by (Err ShortBuffer) t ≡ conversion old t
  unfolding conversion fill
  room-short t e h = rw (convert_chain old (length t), accepted, lt-leb (header_size + cell_size current * cell_count old) (length t) (rw (old-count e) at h))

  -- the bytes of the same cells
  widened : Bytes old → converted old ≡ header_bytes current (cell_count old) ++ flat_map wide_cell (cell_runs version1 old)
  unfolding table_bytes cells_of
  widened bytes =
      rw (
        converted_by version1 old one,
        length_cells_of version1 old,
        flat_map-map (cell_bytes current) (cell_of version1) (cell_runs version1 old),
        flat_map_all (λ c. cell_bytes current (cell_of version1 c)) wide_cell (all_imply (λ c h. wide-bytes c h.0 h.1 h.2) (table-cells version1 old bytes one)),
      )

  pub table-converted : Bytes old → (t : List ℕ) {n : ℕ} → n ≡ be (gets old 5 2) → header_size + cell_size current * n ≤ length t
      → {a b : List ℕ} → a ≡ sets t 0 (header_bytes current n) → b ≡ sets a header_size (flat_map wide_cell (pieces (cell_size version1) n (take (length old - header_size) (drop header_size old))))
      → filled_by (Ok (header_size + cell_size current * n)) b ≡ conversion old t
  unfolding conversion fill
  table-converted bytes t e room p q =
      let c = old-count e in
      let long = length-converted version1 old one bytes in
      let fits = le-leb (header_size + cell_size current * cell_count old) (length t) (rw c at room) in
      let behind = sets-run (header_bytes current (cell_count old)) (flat_map wide_cell (cell_runs version1 old)) t 0 header_size (rw (length-header_bytes current)) in
      rw (convert_chain old (length t), accepted, fits, long, widened bytes, q, p, take_rest, c, behind)

-- The builder's answers are `built`: 9, then 8, then the empty table of the heads, whole.
-- What the code learnt of the heads and the room settles the verdict; the bytes of an empty cell are its head's and zeros, since a legal head is read and written back.
use Rattle.std.specs.Prelude.{Ok, Err}
use mathlib.Core.Path.{◌≡◌, sym, ◌∙◌}
use mathlib.Core.Bool.{true, false}
use mathlib.Core.List.{List, map, flat_map}
use Prim.Native.Nat.{ℕ, ◌+◌, ◌*◌, ◌≤◌, ◌<◌}
use native.Mathlib.Omega.{arith}
use borrow.Author.Tests.{le-leb, lt-leb}
use lib.ListN.{length, length-map}
use lib.Seq.{sets}
use Rattle.octets.specs.Runs.{Bytes}
use Rattle.octets.specs.Fields.{padded}
use Rattle.octets.proofs.RunsLaws.{sets-run}
use Rattle.octets.proofs.PiecesLaws.{length-pieces}
use Rattle.rules.specs.Layout.{current, header_size, head_size, cell_size, most_cells}
use Rattle.rules.specs.Table.{Cell, legal_head, header_bytes, places_bytes, cell_bytes, table_bytes}
use Rattle.rules.specs.Refusals.{head_count, head_runs, legal_heads, build_verdict}
use Rattle.rules.specs.Applied.{filled_by, fill, empty_cell, built}
use Rattle.rules.specs.declared.Refusal.TheVariants.{ShortBuffer, BadHeads}
use Rattle.rules.proofs.MapLaws.{flat_map-map}
use Rattle.rules.proofs.AllLaws.{all_every, all_imply, all_both, all_pieces, flat_map_all}
use Rattle.rules.proofs.HeadCodec.{head-back}
use Rattle.rules.proofs.TableCodec.{length-header_bytes, length-table_bytes}
use Rattle.rules.proofs.HeadsCodec.{legal-heads}
use Rattle.table_build.specs.Build.{empty_run}

-- ---- the bytes of empty cells

empty-run : (b : List ℕ) → Bytes b → length b ≡ head_size current → legal_head current b ≡ true → cell_bytes current (empty_cell b) ≡ empty_run b
unfolding cell_bytes empty_cell places_bytes padded flat_map empty_run
empty-run b h n l = rw (head-back current b h n l)

module _ (heads : List ℕ) (bytes : Bytes heads) (legal : legal_heads heads ≡ true) where
  -- the cells that the heads say
  abbrev cells : List Cell
  cells = map empty_cell (head_runs heads)

  count-cells : length cells ≡ head_count heads
  count-cells = length-map (head_runs heads) empty_cell ∙ length-pieces (head_size current) (head_count heads) heads

  cells-bytes : flat_map (cell_bytes current) cells ≡ flat_map empty_run (head_runs heads)
  cells-bytes =
      flat_map-map (cell_bytes current) empty_cell (head_runs heads)
      ∙ flat_map_all (λ b. cell_bytes current (empty_cell b)) empty_run
      (all_imply (λ b h. empty-run b h.0.0 h.0.1 h.1)
      (all_both (all_pieces (head_size current) (head_count heads) heads bytes (omega arith)) (all_every (legal_head current) (head_runs heads) (legal-heads heads legal).each)))

  -- a the buffer with the header, b that with the cells
  stored : (t : List ℕ) {a b : List ℕ} → a ≡ sets t 0 (header_bytes current (head_count heads)) → b ≡ sets a header_size (flat_map empty_run (head_runs heads)) → b ≡ sets t 0 (table_bytes current cells)
  unfolding table_bytes
  stored t p q =
      rw (q, p, count-cells, cells-bytes)
      (sets-run (header_bytes current (head_count heads)) (flat_map empty_run (head_runs heads)) t 0 header_size (rw (length-header_bytes current)))

-- ---- the answers

pub heads_bad : (heads t : List ℕ) → false ≡ legal_heads heads → filled_by (Err BadHeads) t ≡ built heads t
unfolding built build_verdict fill
heads_bad heads t bad = rw (← bad)

module _ (heads : List ℕ) (found : true ≡ legal_heads heads) where
  pub heads-few : head_count heads ≤ most_cells
  heads-few = (legal-heads heads (sym found)).few

  pub buffer-short : (t : List ℕ) → length t < header_size + cell_size current * head_count heads → filled_by (Err ShortBuffer) t ≡ built heads t
  unfolding built build_verdict fill
  buffer-short t h = rw (← found, lt-leb (header_size + cell_size current * head_count heads) (length t) h)

  pub table-built : (t : List ℕ) → Bytes heads → header_size + cell_size current * head_count heads ≤ length t → {a b : List ℕ} → a ≡ sets t 0 (header_bytes current (head_count heads))
      → b ≡ sets a header_size (flat_map empty_run (head_runs heads)) → filled_by (Ok (header_size + cell_size current * head_count heads)) b ≡ built heads t
  unfolding built build_verdict fill
  table-built t bytes room p q =
      let made = cells heads bytes (sym found) in
      let long : length (table_bytes current made) ≡ header_size + cell_size current * head_count heads = length-table_bytes current made ∙ rw (count-cells heads bytes (sym found)) in
      rw (← found, le-leb (header_size + cell_size current * head_count heads) (length t) room, long, stored heads bytes (sym found) t p q)

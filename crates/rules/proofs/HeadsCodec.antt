-- Legal heads, taken apart, make sound cells without a live place.
-- Each head is legal by itself, and the cells that they make are in the order of the heads.
use mathlib.Core.Path.{◌≡◌, sym, ap, ◌∙◌}
use mathlib.Core.Bool.{true}
use mathlib.Core.List.{List, map, map-map}
use Prim.Native.Nat.{ℕ, ◌≤◌, ◌%◌}
use native.Mathlib.Omega.{arith}
use borrow.Author.Tests.{eqb-true, leb-true}
use lib.ListN.{length, length-map}
use lib.Seq.{take_all}
use Rattle.octets.specs.Runs.{Bytes}
use Rattle.octets.proofs.PiecesLaws.{length-pieces}
use Rattle.rules.specs.Lists.{every, ascending}
use Rattle.rules.specs.Layout.{current, head_size, most_cells}
use Rattle.rules.specs.Table.{head_of, legal_head, identity_at, different}
use Rattle.rules.specs.Sound.{sound_places, sound_cell, identity_of_cell, sound_cells}
use Rattle.rules.specs.Refusals.{head_count, head_runs, legal_heads}
use Rattle.rules.specs.Applied.{empty_cell}
use Rattle.rules.proofs.TestLaws.{both}
use Rattle.rules.proofs.AllLaws.{All, all_every, all_imply, all_both, all_map, map_all, all_pieces}
use Rattle.rules.proofs.HeadCodec.{head-sound}
use Rattle.rules.proofs.LegalTableLaws.{cells-sound}

pub record LegalHeads (heads : List ℕ) : Type 0 where
  pub whole : length heads % head_size current ≡ 0
  pub some : 1 ≤ head_count heads
  pub few : head_count heads ≤ most_cells
  pub each : every (legal_head current) (head_runs heads) ≡ true
  pub order : ascending (map (identity_at current) (head_runs heads)) ≡ true

pub legal-heads : (heads : List ℕ) → legal_heads heads ≡ true → LegalHeads heads
unfolding legal_heads
legal-heads heads e =
    let a = both _ _ e in
    let b = both _ _ a.0 in
    let c = both _ _ b.0 in
    let n = both _ _ c.1 in
    record {
      whole = eqb-true (length heads % head_size current) 0 c.0;
      some = leb-true 1 (head_count heads) n.0;
      few = leb-true (head_count heads) most_cells n.1;
      each = b.1;
      order = a.1;
    }

empty-sound : (b : List ℕ) → Bytes b → length b ≡ head_size current → legal_head current b ≡ true → sound_cell current (empty_cell b) ≡ true
unfolding empty_cell sound_cell sound_places every different
empty-sound b h n l = rw (head-sound current b h n l)

pub heads-sound : (heads : List ℕ) → Bytes heads → legal_heads heads ≡ true → sound_cells current (map empty_cell (head_runs heads)) ≡ true
unfolding empty_cell
heads-sound heads bytes e =
    let l = legal-heads heads e in
    let n : length (map empty_cell (head_runs heads)) ≡ head_count heads = length-map (head_runs heads) empty_cell ∙ length-pieces (head_size current) (head_count heads) heads in
    let runs = all_pieces (head_size current) (head_count heads) heads bytes (omega arith) in
    let same : All (λ b. identity_of_cell (empty_cell b) ≡ identity_at current b) (head_runs heads) =
    all_imply (λ b h. ap (λ x. (head_of current x).identity) (sym (take_all (head_size current) b (omega (arith, h.1))))) runs in
    cells-sound current (map empty_cell (head_runs heads))
    (record {
      some = omega (arith, l.some);
      few = omega (arith, l.few);
      each = all_map (λ c. sound_cell current c ≡ true) empty_cell (all_imply (λ b h. empty-sound b h.0.0 h.0.1 h.1) (all_both runs (all_every (legal_head current) (head_runs heads) l.each)));
      order = rw (map-map identity_of_cell empty_cell (head_runs heads), map_all (λ b. identity_of_cell (empty_cell b)) (identity_at current) same) l.order;
    })

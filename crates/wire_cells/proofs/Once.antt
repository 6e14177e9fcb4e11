-- One outcome only: how many cells a list has, the cell at an index, and what is left where all of them were stored, the contracts settle.
-- A cell is settled by the row that it says, and its end by the bytes behind it, which are as many as are left.
use mathlib.Core.Path.{◌≡◌, sym, ap, ◌∙◌}
use mathlib.Core.List.{List, [], ◌∷◌}
use Prim.Native.Nat.{ℕ, ◌-◌}
use native.Mathlib.Omega.{arith}
use lib.ListN.{length, drop, get_or, length-drop}
use denote.Param.Laws.{Laws}
use denote.RattleType.{RattleType}
use mir.Syntax.{Dict}
use Rattle.octets.specs.Settled.{Settles, SettlesResult}
use Rattle.octets.proofs.Once.{one-outcome}
use Rattle.rules.specs.Reply.{Row}
use Rattle.formats.specs.Format.{found}
use Rattle.formats.proofs.SummaryLaws.{found-value, found-rest}
use Rattle.wire.specs.declared.Message.{Message}
use Rattle.wire_cells.specs.Listed.{row_said, CellAt}
use Rattle.wire_cells.specs.declared.Cell.{Cell}
use Rattle.wire_cells.specs.declared.each.Form.{Ghosts}
use Rattle.wire_cells.proofs.cell_count.Reads as cell_count_lem
use Rattle.wire_cells.proofs.cell_at.Reads as Cell-at
use Rattle.wire_cells.proofs.each.Form.put.Reads as put
use Rattle.wire_cells.proofs.each.put_each.Reads as put_each

pub cell_count_once : SettlesResult cell_count_lem.Learnt
cell_count_once κ args r s e f p q = p.counts ∙ sym q.counts

module _ (m : Message) (l : List ℕ) (at : ℕ) (c d : Cell) (p : CellAt m l at c) (q : CellAt m l at d) where
  both : found (row_said c ∷ []) (drop c.end l) ≡ found (row_said d ∷ []) (drop d.end l)
  both = sym p.says ∙ q.says

  row : row_said c ≡ row_said d
  row = ap (λ (ws : List Row). get_or ws 0 (row_said c)) (found-value (row_said c ∷ []) (row_said d ∷ []) (drop c.end l) (drop d.end l) both)

  left : length l - c.end ≡ length l - d.end
  left = sym (length-drop c.end l) ∙ ap length (found-rest (row_said c ∷ []) (row_said d ∷ []) (drop c.end l) (drop d.end l) both) ∙ length-drop d.end l

  ends : c.end ≡ d.end
  ends = omega (arith, left, p.ends, q.ends)

  settled : c ≡ d
  settled i =
      record {
        identity = record { 0 = ap (λ (w : Row). w.identity) row i };
        count = record { 0 = ap (λ (w : Row). w.count) row i };
        end = ends i;
      }

pub cell_at_once : SettlesResult Cell-at.Learnt
cell_at_once κ args r s e f p q = settled args.0 _ args.1.1.0 r s p q

-- in any form of a cell: where one was stored, and where all were
module _ (T : RattleType) (laws : Laws T) (F : Ghosts T.Denot) (dict : Dict) where
  pub put_once : Settles (put.Learnt T laws F dict) (λ κ r e. e.0.now)
  put_once κ args r s e f = one-outcome

  pub put_each_once : Settles (put_each.Learnt T laws F dict) (λ κ r e. e.1.0.now)
  put_each_once κ args r s e f = one-outcome

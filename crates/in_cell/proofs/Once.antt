-- One outcome only: what a public function of this crate returns and leaves, in the cell and in the answer, its contract settles.
-- `Stepped` gives the cell, the rows and their number by an equation each.
use mathlib.Core.Path.{◌≡◌}
use mathlib.Core.List.{List}
use Prim.Native.Nat.{ℕ}
use Rattle.octets.specs.Settled.{Settles}
use Rattle.octets.proofs.Once.{one-outcome}
use Rattle.rules.specs.InCell.{Done}
use Rattle.in_cell.specs.Step.{Stepped}
use Rattle.in_cell.proofs.step.step_cell.Reads as step_cell_lem
use Rattle.in_cell.proofs.second.second_in_cell.Reads as second_in_cell_lem

stepped_once : {d : Done} {c out a x b y : List ℕ} {most m n : ℕ} → Stepped d c out a x most m → Stepped d c out b y most n
    → ◌≡◌ {A = ℕ × List ℕ × List ℕ} (m, a, x) (n, b, y)
stepped_once p q i = (one-outcome p.many q.many i, one-outcome p.cell q.cell i, one-outcome p.rows q.rows i)

pub step_cell_once : Settles {X = ℕ × List ℕ × List ℕ} step_cell_lem.Learnt (λ κ r e. (r, e.0.now, e.1.1.1.0.now))
step_cell_once κ args r s e f = stepped_once

pub second_in_cell_once : Settles {X = ℕ × List ℕ × List ℕ} second_in_cell_lem.Learnt (λ κ r e. (r, e.0.now, e.1.0.now))
second_in_cell_once κ args r s e f = stepped_once

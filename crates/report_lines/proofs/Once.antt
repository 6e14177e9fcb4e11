-- One outcome only: what a public function of this crate returns and leaves, its contract settles.
use mathlib.Core.Path.{◌≡◌}
use mathlib.Core.List.{List}
use Prim.Native.Nat.{ℕ}
use Rattle.octets.specs.Settled.{Settles, SettlesResult}
use Rattle.octets.proofs.Once.{one-outcome}
use Rattle.report_lines.specs.Told.{Tells}
use Rattle.report_lines.specs.declared.text.Text.{Text}
use Rattle.report_lines.proofs.frame.cells.Reads as cells
use Rattle.report_lines.proofs.frame.frame.Reads as frame
use Rattle.report_lines.proofs.frame.settle.Reads as settle
use Rattle.report_lines.proofs.text.Text.put_no.Reads as put_no_lem
use Rattle.report_lines.proofs.text.Text.put_answer.Reads as put_answer_lem

-- ---- the input

pub cells_once : SettlesResult cells.Learnt
cells_once κ args r s e f p q = one-outcome p.0 q.0

pub frame_once : SettlesResult frame.Learnt
frame_once κ args r s e f p q = one-outcome p.0 q.0

pub settle_once : Settles {X = List ℕ} settle.Learnt (λ κ r e. e.0.now)
settle_once κ args r s e f = one-outcome

-- ---- the output

-- a writer's text and where it ends
told_once : {s x y : Text} {text : List ℕ} → Tells s text x → Tells s text y → ◌≡◌ {A = ℕ × List ℕ} (x.at, x.out.now) (y.at, y.out.now)
told_once a b k = (one-outcome a.said.ends b.said.ends k, one-outcome a.said.stored b.said.stored k)

pub put_no_once : Settles {X = ℕ × List ℕ} put_no_lem.Learnt (λ κ r e. (e.0.now.at, e.0.now.out.now))
put_no_once κ args r s e f p q = told_once p.0 q.0

pub put_answer_once : Settles {X = ℕ × List ℕ} put_answer_lem.Learnt (λ κ r e. (e.0.now.at, e.0.now.out.now))
put_answer_once κ args r s e f p q = told_once p.0 q.0

-- One outcome only: what a public function of this crate answers and leaves, its contract settles.
-- Each promise is an equation between all of it and a definition; of an answer, its number and length settle its case.
use Rattle.rules.specs.Refusals.{Writing}
use mathlib.Core.Path.{◌≡◌}
use mathlib.Core.List.{List}
use denote.Ref.{Bor, MutBor}
use denote.Param.Laws.{Laws}
use denote.RattleType.{RattleType}
use mir.Syntax.{Dict}
use Prim.Native.Nat.{ℕ}
use Rattle.octets.specs.Settled.{Settles}
use Rattle.octets.proofs.Once.{one-outcome, both_once}
use Rattle.rules.proofs.OnceLaws.{filled_injective}
use Rattle.table_build.proofs.build.Reads as build
use Rattle.table_build.proofs.put_header.Reads as put_header_lem
use Rattle.table_build.specs.contracts.put_cells.F-Fn.{Ghosts}
use Rattle.table_build.proofs.put_cells.Reads as put_cells_lem
use Rattle.table_build.proofs.put_head.Reads as put_head_lem

pub build_once : Settles {X = Writing × List ℕ} build.Learnt (λ κ r e. (r, e.1.0.now))
build_once κ args r s e f p q = let both = filled_injective r s e.1.0.now f.1.0.now (one-outcome p q) in both_once both.0 both.1

pub put_header_once : Settles put_header_lem.Learnt (λ κ r e. e.0.now)
put_header_once κ args r s e f = one-outcome

pub put_head_once : Settles put_head_lem.Learnt (λ κ r e. e.0.now)
put_head_once κ args r s e f = one-outcome

-- for a caller whose cells are settled too
pub put_cells_once : (T : RattleType) (laws : Laws T) (F : Ghosts T) (d e f g : Dict) (made : List ℕ → List ℕ)
    → Settles
    (λ κ args r left. ((cell : MutBor (List ℕ)) (run : Bor (List ℕ)) (x : MutBor (List ℕ)) → F.post args.1.1.1.1.0 (cell, (run, tt)) (tt, (x, tt)) → x.now ≡ made run.now)
    × put_cells_lem.Learnt T laws F d e f g κ args r left)
    (λ κ r left. left.0.now)
put_cells_once T laws F d e f g made κ args r s _ _ p q = one-outcome (p.1 made p.0) (q.1 made q.0)

-- One outcome only: what a public function of this crate returns, its contract settles.
-- Each promise is an equation between what is returned and a definition, so it admits one outcome.
use mathlib.Core.Path.{◌≡◌, ap}
use mathlib.Core.Bool.{Bool}
use mathlib.Core.List.{List}
use Prim.Native.Nat.{ℕ}
use denote.Ref.{Bor}
use denote.Param.Laws.{Laws}
use denote.RattleType.{RattleType}
use mir.Syntax.{Dict}
use Rattle.octets.specs.Settled.{SettlesResult}
use Rattle.octets.proofs.Once.{one-outcome}
use Rattle.table_judge.proofs.verdict.Reads as verdict
use Rattle.table_judge.proofs.marked.Reads as marked
use Rattle.table_judge.proofs.header_legal.Reads as header_legal_lem
use Rattle.table_judge.specs.contracts.runs_legal.F-Fn.{Ghosts}
use Rattle.table_judge.proofs.runs_legal.Reads as runs_legal_lem
use Rattle.table_judge.proofs.identity_at.Reads as identity_at_lem
use Rattle.table_judge.proofs.head_legal.Reads as head_legal_lem
use Rattle.table_judge.proofs.places_legal.Reads as places_legal_lem

pub verdict_once : SettlesResult verdict.Learnt
verdict_once κ args r s e f = one-outcome

pub marked_once : SettlesResult marked.Learnt
marked_once κ args r s e f = one-outcome

pub header_legal_once : SettlesResult header_legal_lem.Learnt
header_legal_once κ args r s e f = one-outcome

-- for a caller whose test is settled too
pub runs_legal_once : (T : RattleType) (laws : Laws T) (F : Ghosts T) (d e f g : Dict) (test : List ℕ → Bool)
    → SettlesResult (λ κ args r left. ((run : Bor (List ℕ)) (x : Bool) → F.post args.1.1.1.0 (run, tt) x → x ≡ test run.now) × runs_legal_lem.Learnt T laws F d e f g κ args r left)
runs_legal_once T laws F d e f g test κ args r s _ _ p q = one-outcome (p.1 test p.0) (q.1 test q.0)

pub identity_at_once : SettlesResult identity_at_lem.Learnt
identity_at_once κ args r s e f p q = ap (λ (n : ℕ). record { 0 = n }) (one-outcome p q)

pub head_legal_once : SettlesResult head_legal_lem.Learnt
head_legal_once κ args r s e f = one-outcome

pub places_legal_once : SettlesResult places_legal_lem.Learnt
places_legal_once κ args r s e f = one-outcome

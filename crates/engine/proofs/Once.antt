-- One outcome only: what a public function of this crate returns and leaves, in the table and in the answer, its contract settles.
-- Each promise is an equation between that and a definition, or a record that has one for each part of it.
use Rattle.rules.specs.Refusals.{Writing}
use mathlib.Core.List.{List}
use Prim.Native.Nat.{ℕ}
use Rattle.octets.specs.Settled.{Settles, SettlesResult}
use Rattle.octets.proofs.Once.{one-outcome}
use Rattle.rules.proofs.OnceLaws.{outcome_injective}
use Rattle.engine.proofs.apply.apply.Reads as apply
use Rattle.engine.proofs.walk.walk.Reads as walk
use Rattle.engine.proofs.reach.naming_of.Reads as naming_of_lem
use Rattle.engine.proofs.reach.named.Reads as named

pub apply_once : Settles {X = Writing × List ℕ × List ℕ} apply.Learnt (λ κ r e. (r, e.0.now, e.1.1.0.now))
apply_once κ args r s e f p q i =
    let all = outcome_injective r s e.0.now e.1.1.0.now f.0.now f.1.1.0.now (one-outcome p q) in
    (all.0 i, all.1 i, all.2 i)

-- ---- between this crate's modules

pub walk_once : Settles {X = ℕ × List ℕ × List ℕ} walk.Learnt (λ κ r e. (r, e.0.now, e.1.1.1.1.1.1.0.now))
walk_once κ args r s e f p q i = (one-outcome p.rows q.rows i, one-outcome p.table q.table i, one-outcome p.out q.out i)

pub naming_of_once : SettlesResult naming_of_lem.Learnt
naming_of_once κ args r s e f p q = one-outcome p.keys q.keys

pub named_once : SettlesResult named.Learnt
named_once κ args r s e f = one-outcome

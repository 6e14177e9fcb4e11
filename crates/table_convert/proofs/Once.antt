-- One outcome only: what a public function of this crate answers and leaves, its contract settles.
-- Each promise is an equation between all of it and a definition; of an answer, its number and length settle its case.
use Rattle.rules.specs.Refusals.{Writing}
use mathlib.Core.List.{List}
use Prim.Native.Nat.{ℕ}
use Rattle.octets.specs.Settled.{Settles}
use Rattle.octets.proofs.Once.{one-outcome, both_once}
use Rattle.rules.proofs.OnceLaws.{filled_injective}
use Rattle.table_convert.proofs.convert.Reads as convert

pub convert_once : Settles {X = Writing × List ℕ} convert.Learnt (λ κ r e. (r, e.1.0.now))
convert_once κ args r s e f p q = let both = filled_injective r s e.1.0.now f.1.0.now (one-outcome p q) in both_once both.0 both.1

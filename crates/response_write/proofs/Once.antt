-- One outcome only: what the public function of this crate answers and leaves, its contract settles.
-- The promise is an equation between all of it and a definition; the answer's number and length settle its case.
use Rattle.rules.specs.Refusals.{Writing}
use mathlib.Core.List.{List}
use Prim.Native.Nat.{ℕ}
use Rattle.octets.specs.Settled.{Settles}
use Rattle.octets.proofs.Once.{one-outcome, both_once}
use Rattle.rules.proofs.OnceLaws.{filled_injective}
use Rattle.response_write.proofs.write_response.Reads as write_response_lem

pub write_response_once : Settles {X = Writing × List ℕ} write_response_lem.Learnt (λ κ r e. (r, e.1.1.0.now))
write_response_once κ args r s e f p q = let both = filled_injective r s e.1.1.0.now f.1.1.0.now (one-outcome p q) in both_once both.0 both.1

-- One outcome only: what a public function of this crate answers and leaves, its contract settles.
-- Each promise is an equation between all of it and a definition; the answer's number and length settle its case.
use Rattle.rules.specs.Refusals.{Writing}
use mathlib.Core.List.{List}
use Prim.Native.Nat.{ℕ}
use Rattle.octets.specs.Settled.{Settles}
use Rattle.octets.proofs.Once.{one-outcome, both_once}
use Rattle.rules.proofs.OnceLaws.{filled_injective}
use Rattle.record_write.proofs.put_fields.Reads as put_fields_lem
use Rattle.record_write.proofs.write.Reads as write

pub put_fields_once : Settles put_fields_lem.Learnt (λ κ r e. e.0.now)
put_fields_once κ args r s e f = one-outcome

pub write_once : Settles {X = Writing × List ℕ} write.Learnt (λ κ r e. (r, e.1.1.0.now))
write_once κ args r s e f p q = let both = filled_injective r s e.1.1.0.now f.1.1.0.now (one-outcome p q) in both_once both.0 both.1

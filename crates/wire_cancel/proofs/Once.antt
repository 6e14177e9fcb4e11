-- One outcome only: what `read_cancel` returns and leaves, its contract settles.
-- Its promise is an equation between all of it and a definition, which settles the answer and the buffer.
use mathlib.Core.List.{List}
use Prim.Native.Nat.{ℕ}
use Rattle.octets.specs.Settled.{Settles}
use Rattle.octets.proofs.Once.{one-outcome, both_once}
use Rattle.wire.specs.MessageOutcome.{Taking}
use Rattle.wire.proofs.TakingLaws.{taking_settled, left_settled}
use Rattle.wire_cancel.proofs.read_cancel.Reads as read_cancel_lem

pub read_cancel_once : Settles {X = Taking × List ℕ} read_cancel_lem.Learnt (λ κ r e. (r, e.1.0.now))
read_cancel_once κ args r s e f p q =
    let same = one-outcome p q in
    both_once (taking_settled r s e.1.0.now f.1.0.now same) (left_settled r s e.1.0.now f.1.0.now same)

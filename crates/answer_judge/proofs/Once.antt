-- One outcome only: what the public function of this crate returns, its contract settles.
use Rattle.octets.specs.Settled.{SettlesResult}
use Rattle.octets.proofs.Once.{one-outcome}
use Rattle.answer_judge.proofs.can_be_answered.Reads as can_be_answered_lem

pub can_be_answered_once : SettlesResult can_be_answered_lem.Learnt
can_be_answered_once κ args r s e f = one-outcome

-- One outcome only: what a public function of this crate returns, its contract settles.
-- Each promise is one equation, between what is returned and a definition.
use Rattle.octets.specs.Settled.{SettlesResult}
use Rattle.octets.proofs.Once.{one-outcome}
use Rattle.start.proofs.starts_nothing.Reads as starts_nothing_lem
use Rattle.start.proofs.new_bytes.Reads as new_bytes_lem

pub starts_nothing_once : SettlesResult starts_nothing_lem.Learnt
starts_nothing_once κ args r s e f = one-outcome

pub new_bytes_once : SettlesResult new_bytes_lem.Learnt
new_bytes_once κ args r s e f = one-outcome

-- One outcome only: what the judge answers, its contract settles.
-- Its promise is an equation with a definition.
use Rattle.octets.specs.Settled.{SettlesResult}
use Rattle.octets.proofs.Once.{one-outcome}
use Rattle.record_judge.proofs.judged.Reads as judged

pub judged_once : SettlesResult judged.Learnt
judged_once κ args r s e f = one-outcome

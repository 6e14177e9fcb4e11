-- One outcome only: what a public function of this crate returns, its contract settles.
-- Each promise is an equation with a definition of the rules; where a number and values stand for a case of an enum, they settle the case too.
use Rattle.octets.specs.Settled.{SettlesResult}
use Rattle.octets.proofs.Once.{one-outcome}
use Rattle.rules.proofs.OnceLaws.{reading_injective}
use Rattle.record_read.proofs.verdict.Reads as verdict
use Rattle.record_read.proofs.request.Reads as request
use Rattle.record_read.proofs.count.Reads as count
use Rattle.record_read.proofs.item.Reads as item
use Rattle.record_read.proofs.read.Reads as read

pub verdict_once : SettlesResult verdict.Learnt
verdict_once κ args r s e f = one-outcome

pub request_once : SettlesResult request.Learnt
request_once κ args r s e f = one-outcome

pub count_once : SettlesResult count.Learnt
count_once κ args r s e f = one-outcome

pub item_once : SettlesResult item.Learnt
item_once κ args r s e f = one-outcome

pub read_once : SettlesResult read.Learnt
read_once κ args r s e f p q = reading_injective r s (one-outcome p q)

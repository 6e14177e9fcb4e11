-- One outcome only: what a public function of this crate returns, its contract settles.
-- Most promises are one equation, between what is returned and a definition; of a struct each field is settled.
use native.Mathlib.Omega.{arith}
use Rattle.std.specs.Prelude.{Ok, Err}
use Rattle.octets.specs.Settled.{SettlesResult}
use Rattle.octets.proofs.Once.{one-outcome}
use Rattle.cell_read.proofs.is_live.Reads as is_live
use Rattle.cell_read.proofs.content.Reads as content
use Rattle.cell_read.proofs.sent.Reads as sent
use Rattle.cell_read.proofs.wait.Reads as wait
use Rattle.cell_read.proofs.identity.Reads as identity
use Rattle.cell_read.proofs.tracking.Reads as tracking
use Rattle.cell_read.proofs.terms_of.Reads as terms_of_lem
use Rattle.cell_read.proofs.seek.Reads as seek
use Rattle.cell_read.proofs.areas_of.Reads as areas_of_lem

pub is_live_once : SettlesResult is_live.Learnt
is_live_once κ args r s e f = one-outcome

pub content_once : SettlesResult content.Learnt
content_once κ args r s e f = one-outcome

pub sent_once : SettlesResult sent.Learnt
sent_once κ args r s e f = one-outcome

pub wait_once : SettlesResult wait.Learnt
wait_once κ args r s e f = one-outcome

pub identity_once : SettlesResult identity.Learnt
identity_once κ args r s e f p q i = record { 0 = one-outcome p q i }

pub tracking_once : SettlesResult tracking.Learnt
tracking_once κ args r s e f = one-outcome

-- ---- structs, field by field

pub terms_of_once : SettlesResult terms_of_lem.Learnt
terms_of_once κ args r s e f p q = rw (p.0, p.1, q.0, q.1)

pub seek_once : SettlesResult seek.Learnt
seek_once κ args (Ok x) (Ok y) e f p q = cc
seek_once κ args (Err x) (Err y) e f p q = cc
seek_once κ args (Ok x) (Err y) e f p q = absurd (omega (arith, p.0, q.1))
seek_once κ args (Err x) (Ok y) e f p q = absurd (omega (arith, p.1, q.0))

pub areas_of_once : SettlesResult areas_of_lem.Learnt
areas_of_once κ args r s e f p q = rw (p.used, q.used, p.four, q.four)

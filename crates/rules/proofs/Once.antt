-- One outcome only: what each function of the types returns, its contract settles.
use mathlib.Core.Path.{ap}
use Prim.Native.Nat.{ℕ}
use Rattle.octets.specs.Settled.{SettlesResult}
use Rattle.octets.proofs.Once.{one-outcome}
use Rattle.rules.proofs.Refusal.number.Reads as refusal-number
use Rattle.rules.proofs.writing_number.Reads as writing_number_lem
use Rattle.rules.proofs.writing_length.Reads as writing_length_lem
use Rattle.rules.proofs.Request.concurrent.Reads as concurrent
use Rattle.rules.proofs.Request.cancels_all.Reads as cancels_all_lem
use Rattle.rules.proofs.Request.notified.Reads as notified
use Rattle.rules.proofs.Request.text.Reads as text
use Rattle.rules.proofs.CellIdentity.new.Reads as new
use Rattle.rules.proofs.CellIdentity.plmn.Reads as plmn
use Rattle.rules.proofs.CellIdentity.part.Reads as part
use Rattle.rules.proofs.CellIdentity.below.Reads as below
use Rattle.rules.proofs.CellIdentity.next.Reads as next
use Rattle.rules.proofs.CellIdentityPartialOrd.partial_cmp.Reads as partial_cmp_lem
use Rattle.rules.proofs.CellIdentity.cell_item.Reads as cell_item_lem
use Rattle.rules.proofs.CellIdentity.tracking_item.Reads as tracking_item_lem

pub refusal-number_once : SettlesResult refusal-number.Learnt
refusal-number_once κ args r s e f = one-outcome

pub writing_number_once : SettlesResult writing_number_lem.Learnt
writing_number_once κ args r s e f = one-outcome

pub writing_length_once : SettlesResult writing_length_lem.Learnt
writing_length_once κ args r s e f = one-outcome

pub concurrent_once : SettlesResult concurrent.Learnt
concurrent_once κ args r s e f = one-outcome

pub cancels_all_once : SettlesResult cancels_all_lem.Learnt
cancels_all_once κ args r s e f = one-outcome

pub notified_once : SettlesResult notified.Learnt
notified_once κ args r s e f = one-outcome

pub text_once : SettlesResult text.Learnt
text_once κ args r s e f = one-outcome

pub new_once : SettlesResult new.Learnt
new_once κ args r s e f = one-outcome

pub plmn_once : SettlesResult plmn.Learnt
plmn_once κ args r s e f = one-outcome

pub part_once : SettlesResult part.Learnt
part_once κ args r s e f = one-outcome

pub below_once : SettlesResult below.Learnt
below_once κ args r s e f = one-outcome

-- how two identities stand to each other
pub order_once : SettlesResult partial_cmp_lem.Learnt
order_once κ args r s e f = one-outcome

pub next_once : SettlesResult next.Learnt
next_once κ args r s e f p q = ap (λ (n : ℕ). record { 0 = n }) (one-outcome p q)

pub cell_item_once : SettlesResult cell_item_lem.Learnt
cell_item_once κ args r s e f = one-outcome

pub tracking_item_once : SettlesResult tracking_item_lem.Learnt
tracking_item_once κ args r s e f = one-outcome

-- One outcome only: what a public function of this crate returns or leaves, its contract settles.
-- Each promise is one equation, between what is returned or left and a definition.
use Rattle.octets.specs.Settled.{Settles, SettlesResult}
use Rattle.octets.proofs.Once.{one-outcome}
use Rattle.cell_change.proofs.set_counts.Reads as set_counts_lem
use Rattle.cell_change.proofs.set_wait.Reads as set_wait_lem
use Rattle.cell_change.proofs.drop_place.Reads as drop_place_lem
use Rattle.cell_change.proofs.free_all.Reads as free_all
use Rattle.cell_change.proofs.add_place.Reads as add_place_lem
use Rattle.cell_change.proofs.place_bytes.Reads as place_bytes_lem

pub set_counts_once : Settles set_counts_lem.Learnt (λ κ r e. e.0.now)
set_counts_once κ args r s e f = one-outcome

pub set_wait_once : Settles set_wait_lem.Learnt (λ κ r e. e.0.now)
set_wait_once κ args r s e f = one-outcome

pub drop_place_once : Settles drop_place_lem.Learnt (λ κ r e. e.0.now)
drop_place_once κ args r s e f = one-outcome

pub free_all_once : Settles free_all.Learnt (λ κ r e. e.0.now)
free_all_once κ args r s e f = one-outcome

pub add_place_once : Settles add_place_lem.Learnt (λ κ r e. e.0.now)
add_place_once κ args r s e f = one-outcome

pub place_bytes_once : SettlesResult place_bytes_lem.Learnt
place_bytes_once κ args r s e f = one-outcome

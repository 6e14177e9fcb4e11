-- One outcome only: what a public function of this crate returns and leaves, its contract settles.
-- Each promise is an equation between that and a definition; of a row each field is settled.
use mathlib.Core.Path.{ap}
use Rattle.octets.specs.Settled.{Settles, SettlesResult}
use Rattle.octets.proofs.Once.{one-outcome}
use Rattle.rules.specs.Reply.{Row}
use Rattle.answer.proofs.room_for.Reads as room_for
use Rattle.answer.proofs.length_with.Reads as length_with_lem
use Rattle.answer.proofs.put_head.Reads as put_head_lem
use Rattle.answer.proofs.put_row.Reads as put_row_lem
use Rattle.answer.proofs.kind.Reads as kind
use Rattle.answer.proofs.rows.Reads as rows
use Rattle.answer.proofs.row_at.Reads as row_at

pub room_for_once : SettlesResult room_for.Learnt
room_for_once κ args r s e f = one-outcome

pub length_with_once : SettlesResult length_with_lem.Learnt
length_with_once κ args r s e f = one-outcome

pub put_head_once : Settles put_head_lem.Learnt (λ κ r e. e.0.now)
put_head_once κ args r s e f = one-outcome

pub put_row_once : Settles put_row_lem.Learnt (λ κ r e. e.0.now)
put_row_once κ args r s e f = one-outcome

pub kind_once : SettlesResult kind.Learnt
kind_once κ args r s e f = one-outcome

pub rows_once : SettlesResult rows.Learnt
rows_once κ args r s e f = one-outcome

pub row_at_once : SettlesResult row_at.Learnt
row_at_once κ args r s e f p q i =
    let same = one-outcome p q in
    record {
      identity = record { 0 = ap (λ (w : Row). w.identity) same i };
      count = record { 0 = ap (λ (w : Row). w.count) same i };
      content = ap (λ (w : Row). w.content) same i;
    }

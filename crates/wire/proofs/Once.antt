-- One outcome only: what the public functions return, their contracts settle.
-- What is promised of `hear`, of a list and of a transaction identifier is an equation with what the format of the contents finds, and no two things heard are
-- found as the same.
use Rattle.std.specs.Prelude.{Option, Some, None}
use mathlib.Core.Path.{◌≡◌, ap}
use Prim.Native.Nat.{ℕ}
use Rattle.octets.specs.Settled.{SettlesResult}
use Rattle.octets.proofs.Once.{one-outcome}
use Rattle.wire.specs.Readers.{list_heard, transaction_heard}
use Rattle.wire.specs.declared.Marks.{Marks}
use Rattle.wire.specs.declared.Heard.{Heard}
use Rattle.wire.specs.declared.Heard.TheVariants.{Transaction, Requested, Cells, CancelAll, Notification, Unknown}
use Rattle.wire.proofs.HeardLaws.{heard_settled}
use Rattle.wire.proofs.hear.Reads as hear
use Rattle.wire.proofs.identity_at.Reads as identity_at_lem
use Rattle.wire.proofs.transaction.Reads as transaction
use Rattle.wire.proofs.list.heard.Reads as heard
use Rattle.wire.proofs.list.list_told.Reads as list_told_lem
use Rattle.wire.proofs.list.told.Reads as told
use Rattle.wire.proofs.Message.frame_id.Reads as frame_id_lem
use Rattle.wire.proofs.Message.cells_id.Reads as cells_id_lem
use Rattle.wire.proofs.Message.item_id.Reads as item_id_lem
use Rattle.wire.proofs.Message.count_size.Reads as count_size_lem
use Rattle.wire.proofs.Message.plain_head.Reads as plain_head_lem

-- what was heard says the number, or the marks, that it was heard of
abbrev number_back : Option Heard → Option ℕ
number_back (Some (Transaction t)) = Some t
number_back (Some (Requested n)) = None
number_back (Some (Cells r)) = None
number_back (Some CancelAll) = None
number_back (Some (Notification r)) = None
number_back (Some Unknown) = None
number_back None = None

abbrev marks_back : Option Heard → Option Marks
marks_back (Some (Transaction t)) = None
marks_back (Some (Requested n)) = None
marks_back (Some (Cells r)) = Some r
marks_back (Some CancelAll) = None
marks_back (Some (Notification r)) = None
marks_back (Some Unknown) = None
marks_back None = None

number_settled : (a b : Option ℕ) → transaction_heard a ≡ transaction_heard b → a ≡ b
number_settled (Some a) (Some b) e = ap number_back e
number_settled (Some a) None e = ap number_back e
number_settled None (Some b) e = ap number_back e
number_settled None None e = ap number_back e

marks_settled : (a b : Option Marks) → list_heard a ≡ list_heard b → a ≡ b
marks_settled (Some a) (Some b) e = ap marks_back e
marks_settled (Some a) None e = ap marks_back e
marks_settled None (Some b) e = ap marks_back e
marks_settled None None e = ap marks_back e

pub hear_once : SettlesResult hear.Learnt
hear_once κ args r s e f p q = heard_settled r s (one-outcome p q)

pub transaction_once : SettlesResult transaction.Learnt
transaction_once κ args r s e f p q = number_settled r s (heard_settled (transaction_heard r) (transaction_heard s) (one-outcome p q))

pub told_once : SettlesResult told.Learnt
told_once κ args r s e f p q = marks_settled r s (heard_settled (list_heard r) (list_heard s) (one-outcome p q))

pub list_told_once : SettlesResult list_told_lem.Learnt
list_told_once κ args r s e f p q = marks_settled r s (heard_settled (list_heard r) (list_heard s) (one-outcome p q))

pub heard_once : SettlesResult heard.Learnt
heard_once κ args r s e f = one-outcome

pub identity_at_once : SettlesResult identity_at_lem.Learnt
identity_at_once κ args r s e f = one-outcome

pub frame_id_once : SettlesResult frame_id_lem.Learnt
frame_id_once κ args r s e f = one-outcome

pub cells_id_once : SettlesResult cells_id_lem.Learnt
cells_id_once κ args r s e f = one-outcome

pub item_id_once : SettlesResult item_id_lem.Learnt
item_id_once κ args r s e f = one-outcome

pub count_size_once : SettlesResult count_size_lem.Learnt
count_size_once κ args r s e f = one-outcome

pub plain_head_once : SettlesResult plain_head_lem.Learnt
plain_head_once κ args r s e f = one-outcome

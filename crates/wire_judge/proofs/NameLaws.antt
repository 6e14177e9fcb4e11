-- An element's id and what its contents were read as belong together. By the cases of its name.
use mathlib.Core.Path.{◌≡◌, refl, sym, ap, subst, ◌∙◌}
use mathlib.Core.Bool.{false}
use mathlib.Core.List.{List}
use Prim.Native.Nat.{ℕ}
use lib.Dec.{eqb}
use borrow.Author.Tests.{eqb-true}
use Rattle.rules.proofs.TestLaws.{by_test}
use Rattle.formats.specs.Format.{Found, nothing, found, after, number, opaque, as_if}
use Rattle.formats.specs.Bits.{bits}
use Rattle.formats.proofs.SummaryLaws.{nothing-found, found-value}
use Rattle.wire.specs.Frame.{blank_fields}
use Rattle.wire.specs.Cells.{list}
use Rattle.wire.specs.Messages.{transaction_id, requested_id, cells_id, cancel_all_id, notification_id, Name, the_transaction, the_requested, the_cells, the_indicator, the_notification, unknown, is_named, further_name, name_of, known}
use Rattle.wire.specs.MessageTree.{note, Contents, transaction, requested, cells, cancel_all, notification, other, transaction_fields, contents_by, contents}
use Rattle.wire.specs.declared.Message.{Message}
use Rattle.wire.specs.declared.Message.TheVariants.{CancelRequest, CancelResponse, WriteReplaceResponse}

-- the name that contents have
abbrev pub name_in : Contents → Name
name_in (transaction t) = the_transaction
name_in (requested n) = the_requested
name_in (cells es) = the_cells
name_in cancel_all = the_indicator
name_in (notification n) = the_notification
name_in (other s) = unknown

made : {A : Type 0} (name : Name) (to : A → Contents) → ((a : A) → name_in (to a) ≡ name) → (x : Found A) (y : Contents) (r : List ℕ) → after x (λ a s. found (to a) s) ≡ found y r → name_in y ≡ name
made name to is nothing y r e = absurd (nothing-found y r e)
made name to is (found a s) y r e = ap name_in (sym (found-value (to a) y s r e)) ∙ is a

-- ---- an id by its name

abbrev pub IdOf : Message → Name → ℕ → Type 0
IdOf m the_transaction id = id ≡ transaction_id
IdOf m the_requested id = id ≡ requested_id
IdOf m the_cells id = id ≡ cells_id m
IdOf m the_indicator id = id ≡ cancel_all_id
IdOf m the_notification id = id ≡ notification_id
IdOf m unknown id = known m id ≡ false

further-own : (m : Message) (id : ℕ) → (is_named (further_name m id) ≡ false → known m id ≡ false) → IdOf m (further_name m id) id
further-own CancelRequest id none =
    by_test (eqb id requested_id)
    (λ t. rw t (eqb-true id requested_id t))
    (λ t. by_test (eqb id cancel_all_id)
    (λ u. rw (t, u) (eqb-true id cancel_all_id u))
    (λ u. by_test (eqb id notification_id)
    (λ v. rw (t, u, v) (eqb-true id notification_id v))
    (λ v. rw (t, u, v) (none (rw (t, u, v))))))
further-own CancelResponse id none = none refl
further-own WriteReplaceResponse id none = none refl

own : (m : Message) (id : ℕ) → IdOf m (name_of m id) id
own m id =
    by_test (eqb id transaction_id)
    (λ t. rw t (eqb-true id transaction_id t))
    (λ t. by_test (eqb id (cells_id m))
    (λ u. rw (t, u) (eqb-true id (cells_id m) u))
    (λ u. rw (t, u) (further-own m id (λ n. unfold known in rw (t, u) n))))

pub named : (m : Message) (name : Name) (l : List ℕ) (x : Contents) (r : List ℕ) → (contents_by m name).parse l ≡ found x r → name_in x ≡ name
unfolding contents_by as_if
named m the_transaction l x r e = made the_transaction _ (λ a. refl) ((bits 2 transaction_fields).parse l) x r e
named m the_requested l x r e = made the_requested _ (λ a. refl) ((number 2).parse l) x r e
named m the_cells l x r e = made the_cells _ (λ a. refl) ((list m).parse l) x r e
named m the_indicator l x r e = made the_indicator _ (λ a. refl) ((bits 1 blank_fields).parse l) x r e
named m the_notification l x r e = made the_notification _ (λ a. refl) (note.parse l) x r e
named m unknown l x r e = made unknown _ (λ a. refl) (opaque.parse l) x r e

pub id_of : (m : Message) (id : ℕ) (l : List ℕ) (x : Contents) (r : List ℕ) → (contents m id).parse l ≡ found x r → IdOf m (name_in x) id
unfolding contents
id_of m id l x r e = subst (λ (n : Name). IdOf m n id) (sym (named m (name_of m id) l x r e)) (own m id)

-- what contents are read as is known in this message exactly if it has a name
pub is_known_lem : (m : Message) (id : ℕ) (l : List ℕ) (x : Contents) (r : List ℕ) → (contents m id).parse l ≡ found x r → known m id ≡ is_named (name_in x)
unfolding contents known
is_known_lem m id l x r e = ap is_named (sym (named m (name_of m id) l x r e))

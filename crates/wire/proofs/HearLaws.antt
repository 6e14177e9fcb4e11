-- What an element tells, by its id: the id names the reader of its contents, and of an unknown one nothing is read.
use Rattle.std.specs.Prelude.{Option, Some}
use mathlib.Core.Path.{◌≡◌, refl}
use mathlib.Core.List.{List}
use Prim.Native.Nat.{ℕ}
use borrow.Author.Tests.{eq-eqb, ne_eqb}
use Rattle.formats.specs.Format.{opaque, as_if}
use Rattle.wire.specs.Messages.{the_transaction, the_requested, the_cells, the_indicator, the_notification, unknown, transaction_id, requested_id, cells_id, cancel_all_id, notification_id, beside_name, further_name}
use Rattle.wire.specs.MessageTree.{contents_by, contents}
use Rattle.wire.specs.Readers.{Tells}
use Rattle.wire.specs.declared.Message.{Message}
use Rattle.wire.specs.declared.Message.TheVariants.{CancelRequest, CancelResponse, WriteReplaceResponse}
use Rattle.wire.specs.declared.Heard.{Heard}
use Rattle.wire.specs.declared.Heard.TheVariants.{Unknown}

pub unread : (m : Message) (l : List ℕ) → Tells (contents_by m unknown) l (Some Unknown)
unfolding contents_by as_if opaque
unread m l = refl

module _ (m : Message) (l : List ℕ) (id : ℕ) (r : Option Heard) where
  pub transaction-tells : id ≡ transaction_id → Tells (contents_by CancelRequest the_transaction) l r → Tells (contents m id) l r
  unfolding contents contents_by
  transaction-tells e t = rw e t

  pub beside_tells : (id ≡ transaction_id → ⊥) → Tells (contents_by m (beside_name m id)) l r → Tells (contents m id) l r
  unfolding contents
  beside_tells other t = rw (ne_eqb id transaction_id other) t

  pub cells_tell : id ≡ cells_id m → Tells (contents_by m the_cells) l r → Tells (contents_by m (beside_name m id)) l r
  cells_tell e t = rw (eq-eqb id (cells_id m) e) t

  pub further-tells : (id ≡ cells_id m → ⊥) → Tells (contents_by m (further_name m id)) l r → Tells (contents_by m (beside_name m id)) l r
  further-tells other t = rw (ne_eqb id (cells_id m) other) t

-- beside the list a response has nothing that is known
pub nothing-further : (m : Message) → (m ≡ CancelRequest → ⊥) → (id : ℕ) → further_name m id ≡ unknown
nothing-further CancelRequest other id = absurd (other refl)
nothing-further CancelResponse other id = refl
nothing-further WriteReplaceResponse other id = refl

-- what only a cancel request has
abbrev pub FurtherTells : List ℕ → ℕ → Option Heard → Type 0
FurtherTells l id r = Tells (contents_by CancelRequest (further_name CancelRequest id)) l r

module _ (l : List ℕ) (id : ℕ) (r : Option Heard) where
  pub requested-tells : id ≡ requested_id → Tells (contents_by CancelRequest the_requested) l r → FurtherTells l id r
  requested-tells e t = rw e t

  pub indicator-tells : id ≡ cancel_all_id → Tells (contents_by CancelRequest the_indicator) l r → FurtherTells l id r
  indicator-tells e t = rw e t

  pub notification-tells : id ≡ notification_id → Tells (contents_by CancelRequest the_notification) l r → FurtherTells l id r
  notification-tells e t = rw e t

pub unknown-tells : (l : List ℕ) (id : ℕ) → (id ≡ requested_id → ⊥) → (id ≡ cancel_all_id → ⊥) → (id ≡ notification_id → ⊥) → FurtherTells l id (Some Unknown)
unknown-tells l id a b c = rw (ne_eqb id requested_id a, ne_eqb id cancel_all_id b, ne_eqb id notification_id c) (unread CancelRequest l)

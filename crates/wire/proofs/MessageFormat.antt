-- The messages keep the laws of a format: each has one reading, and what is written reads as it was. By the description, part by part.
use mathlib.Core.Path.{◌≡◌, refl, sym, ap}
use mathlib.Core.List.{List, [], ◌∷◌}
use Prim.Native.Nat.{ℕ}
use lib.ListN.{get_or}
use Rattle.formats.specs.Format.{Format, number, opaque, pair, as_if}
use Rattle.formats.specs.Bits.{width, cut, bits}
use Rattle.formats.proofs.FormatLaws.{Lawful, Alone, alone, number_lawful, opaque-alone, pair_lawful, behind_lawful, as_if_lawful, as_if_alone}
use Rattle.formats.proofs.BitsLaws.{bits_lawful}
use Rattle.aper.specs.Elements.{elements_of, presence, given}
use Rattle.aper.proofs.ElementLaws.{elements_lawful, given_lawful, given-there}
use Rattle.wire.specs.Frame.{frame, blank_fields}
use Rattle.wire.specs.Cells.{list}
use Rattle.wire.specs.Messages.{Name, the_transaction, the_requested, the_cells, the_indicator, the_notification, unknown, name_of, known}
use Rattle.wire.specs.MessageTree.{Notification, note_fields, note_head, note_under, note, transaction, requested, cells, cancel_all, notification, other, number_in, cells_in, note_in, other_in, transaction_fields, contents_by, contents, Elements, value, message}
use Rattle.wire.specs.declared.Message.{Message}
use Rattle.wire.proofs.FrameFormat.{shape, blank_shape, blank-bits, frame_lawful}
use Rattle.wire.proofs.CellsFormat.{list_lawful}

-- ---- a notification

note_shape : (h : List ℕ) → (bits 5 note_fields).fits h → get_or h 0 0 ∷ get_or h 1 0 ∷ get_or h 2 0 ∷ [] ≡ h
unfolding cut
note_shape h k = shape 5 note_fields h k (λ (v : List ℕ). get_or v 0 0 ∷ get_or v 1 0 ∷ get_or v 2 0 ∷ [] ≡ v) (λ n. refl)

note-said : (h : List ℕ) (n : Notification) → (bits 5 note_fields).fits h → (note_under h).fits n → note_head n ≡ h
unfolding note_under as_if
note-said h n k u =
    let p : presence n.extensions ≡ get_or h 0 0 = given-there (get_or h 0 0) n.extensions u.0 in
    let i : n.identifier ≡ get_or h 1 0 = ap (λ (x : Notification). x.identifier) (sym u.1) in
    let s : n.serial ≡ get_or h 2 0 = ap (λ (x : Notification). x.serial) (sym u.1) in
    rw (p, i, s) (note_shape h k)

note_under_lawful : (h : List ℕ) → Lawful (note_under h)
unfolding note_under
note_under_lawful h =
    as_if_lawful (λ es. record { identifier = get_or h 1 0; serial = get_or h 2 0; extensions = es }) (λ n. n.extensions) (given (get_or h 0 0)) (λ es k. refl) (given_lawful (get_or h 0 0))

note-bits : Lawful (bits 5 note_fields)
note-bits = bits_lawful 5 note_fields (unfold width in refl)

pub note_lawful : Lawful note
unfolding note
note_lawful = behind_lawful (bits 5 note_fields) note_head note_under note-bits note_under_lawful note-said

-- ---- contents

transaction_shape : (h : List ℕ) → (bits 2 transaction_fields).fits h → get_or h 0 0 ∷ [] ≡ h
unfolding cut
transaction_shape h k = shape 2 transaction_fields h k (λ (v : List ℕ). get_or v 0 0 ∷ [] ≡ v) (λ n. refl)

transaction-bits : Lawful (bits 2 transaction_fields)
transaction-bits = bits_lawful 2 transaction_fields (unfold width in refl)

contents_by-alone : (m : Message) (name : Name) → Alone (contents_by m name)
unfolding contents_by
contents_by-alone m the_transaction =
    as_if_alone (λ vs. transaction (get_or vs 0 0)) (λ c. number_in c ∷ []) (bits 2 transaction_fields) transaction_shape (alone (bits 2 transaction_fields) transaction-bits)
contents_by-alone m the_requested = as_if_alone requested number_in (number 2) (λ n h. refl) (alone (number 2) (number_lawful 2))
contents_by-alone m the_cells = as_if_alone cells cells_in (list m) (λ n h. refl) (alone (list m) (list_lawful m))
contents_by-alone m the_indicator = as_if_alone (λ vs. cancel_all) (λ c. []) (bits 1 blank_fields) blank_shape (alone (bits 1 blank_fields) blank-bits)
contents_by-alone m the_notification = as_if_alone notification note_in note (λ n h. refl) (alone note note_lawful)
contents_by-alone m unknown = as_if_alone other other_in opaque (λ n h. refl) opaque-alone

pub contents-alone : (m : Message) (id : ℕ) → Alone (contents m id)
unfolding contents
contents-alone m id = contents_by-alone m (name_of m id)

-- ---- the message

module _ (m : Message) where
  abbrev Described : Format (List ℕ × Elements)
  Described = pair (bits 1 blank_fields) (elements_of (known m) (contents m))

  again : (p : List ℕ × Elements) → Described.fits p → ([], p.1) ≡ p
  unfolding pair
  again p h = ap (λ (b : List ℕ). (b, p.1)) (blank_shape p.0 h.0)

  pub value_lawful : Lawful (value m)
  unfolding value
  value_lawful =
      as_if_lawful (λ p. p.1) (λ es. ([], es)) Described again
      (pair_lawful (bits 1 blank_fields) (elements_of (known m) (contents m)) blank-bits (elements_lawful (known m) (contents m) (contents-alone m)))

  pub message-alone : Alone (message m)
  message-alone = alone (frame (value m)) (frame_lawful (value m) (alone (value m) value_lawful))

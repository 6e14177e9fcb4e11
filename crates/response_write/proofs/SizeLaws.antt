-- How many bytes each part has, and that what is still to be written has room.
-- The parts are those of the response, whose sizes are known; an item's is a number for each message, so that what is multiplied by it is left to `omega`.
use mathlib.Core.Path.{◌≡◌, refl}
use mathlib.Core.Bool.{Bool, true}
use mathlib.Core.List.{List}
use Prim.Native.Nat.{ℕ, ◌+◌, ◌-◌, ◌*◌, ◌<◌, ◌≤◌}
use native.Mathlib.Omega.{arith}
use lib.ListN.{length}
use Rattle.octets.specs.Numbers.{to_be}
use Rattle.rules.specs.Reply.{Row}
use Rattle.aper.specs.Elements.{long_length}
use Rattle.wire.specs.Cells.{most_listed}
use Rattle.wire.specs.Messages.{count_size}
use Rattle.wire.specs.declared.Message.{Message}
use Rattle.wire.specs.declared.Message.TheVariants.{CancelRequest, CancelResponse, WriteReplaceResponse}
use Rattle.responses.specs.ResponseSize.{element_size, entry_size, list_size, listed_size, value_size}
use Rattle.responses.proofs.ListFit.{length-entry, length-list}
use Rattle.responses.proofs.ResponseSizeLaws.{listed-some, list-most, value-size}
use Rattle.response_write.specs.Parts.{response_by, opening, opening_size, item_bytes, items_bytes, value_bytes}
use Rattle.response_write.proofs.EncodedLaws.{entry-bytes, items-bytes, value-bytes}

pub length-opening : (start n : ℕ) → length (opening start n) ≡ opening_size n
unfolding opening to_be
length-opening start n = omega arith

module _ (m : Message) where
  pub length-item : (w : Row) → length (item_bytes m w) ≡ entry_size m
  length-item w = rw (← entry-bytes m w) (length-entry m w)

  pub length-items : (rows : List Row) → length (items_bytes m rows) ≡ list_size m (length rows)
  length-items rows = rw (← items-bytes m rows) (length-list m rows)

  pub length-value : (t : ℕ) → t < 256 → (rows : List Row) → length (value_bytes m t rows) ≡ value_size m (length rows)
  length-value t h rows = rw (← value-bytes m t h rows) (value-size m t rows)

-- ---- room

-- an open type holds the list of a row for each cell
pub list-below : (m : Message) {size many : ℕ} → size ≡ entry_size m → many ≤ most_listed → 2 + size * many < long_length
list-below m {size} {many} e few = rw e (omega (arith, list-most m many few))

-- an item has a count of two bytes, or none
pub count_none : (m : Message) → (count_size m ≡ 2 → ⊥) → count_size m ≡ 0
count_none CancelRequest none = refl
count_none CancelResponse none = absurd (none refl)
count_none WriteReplaceResponse none = refl

pub counted-room : (counted : Bool) (at room : ℕ) → counted ≡ true → at + entry_size (response_by counted) ≤ room → at + 15 ≤ room
counted-room counted at room e fits = rw e at fits

-- an item of those that are left, and the others behind it
pub items_left : (m : Message) (to many k room : ℕ) → k < many → to + entry_size m * (many - k) ≤ room
    → (to + entry_size m ≤ room) × (to + entry_size m + entry_size m * (many - (k + 1)) ≤ room)
items_left CancelRequest to many k room h fits = (omega arith, omega arith)
items_left CancelResponse to many k room h fits = (omega arith, omega arith)
items_left WriteReplaceResponse to many k room h fits = (omega arith, omega arith)

-- the list where there are rows
pub list-room : (m : Message) (at many : ℕ) {size : ℕ} (room : ℕ) → 0 < many → size ≡ entry_size m → at + listed_size m many ≤ room
    → at + element_size (2 + size * many) ≤ room
list-room m at many room some e fits = rw e (rw (listed-some m many (λ z. omega arith)) at fits)

-- A response's bytes, part by part, in the order in which they are written: each length stands before what it is of.
use Rattle.std.specs.Prelude.{◌≡◌, Bool, true, false, ℕ, ◌+◌, ◌-◌, ◌*◌, ◌^◌, ◌≤◌, ltb, length}
use mathlib.Core.List.{List, [], ◌∷◌, ◌++◌, flat_map}
use mir.Val.{bool_byte}
use Rattle.octets.specs.Numbers.{to_be}
use Rattle.rules.specs.Lists.{every}
use Rattle.rules.specs.Layout.{current, answer_size, row_size, most_cells, cell_end}
use Rattle.rules.specs.Reply.{Row}
use Rattle.rules.specs.Refusals.{test, first_of, fits_in}
use Rattle.rules.specs.Applied.{Filled, fill}
use Rattle.rules.specs.declared.Refusal.TheVariants.{ShortBuffer}
use Rattle.answer.specs.Rows.{rows_in}
use Rattle.aper.specs.Elements.{length_bytes}
use Rattle.wire.specs.Messages.{frame_id, transaction_id, cells_id, count_size}
use Rattle.wire.specs.Readers.{plain_head}
use Rattle.wire.specs.declared.Message.{Message}
use Rattle.wire.specs.declared.Message.TheVariants.{CancelResponse, WriteReplaceResponse}

-- only the items of a PWS CANCEL RESPONSE have counts
abbrev pub response_by : Bool → Message
response_by true = CancelResponse
response_by false = WriteReplaceResponse

-- ---- what stands before so many bytes: two that say what they are, a criticality of reject, their length

unfoldable pub opening : ℕ → ℕ → List ℕ
opening start n = to_be 2 start ++ (0 ∷ length_bytes n)

abbrev pub opening_size : ℕ → ℕ
opening_size n = 3 + length (length_bytes n)

-- an element with this id, and likewise the frame
unfoldable pub enclosed : ℕ → List ℕ → List ℕ
enclosed start bs = opening start (length bs) ++ bs

-- ---- the list

-- id, a criticality of reject and length are one number; no flag is set; the 36 bits of a cell are followed by 4 of padding
unfoldable pub item_bytes : Message → Row → List ℕ
item_bytes m w = to_be 4 (plain_head m) ++ (to_be 1 0 ++ (to_be 8 (w.identity * 16) ++ to_be (count_size m) w.count))

unfoldable pub items_bytes : Message → List Row → List ℕ
items_bytes m rows = to_be 2 (length rows - 1) ++ flat_map (item_bytes m) rows

unfoldable pub list_bytes : Message → List Row → List ℕ
list_bytes m [] = []
list_bytes m (w ∷ ws) = enclosed (cells_id m) (items_bytes m (w ∷ ws))

-- each cell's number leaves room for the padding
unfoldable pub small_rows : List Row → Bool
small_rows rows = every (λ w. ltb w.identity cell_end) rows

-- an answer has so many rows, and each of them has an item
pub record RowsOf (answer : List ℕ) (many : ℕ) : Type 0 where
  pub whole : answer_size current + row_size current * many ≤ length answer
  pub few : many ≤ most_cells
  pub small : small_rows (rows_in answer many) ≡ true

-- ---- the message

-- the transaction identifier alone, or the list too
abbrev pub element_count : ℕ → ℕ
element_count many = 1 + bool_byte (ltb 0 many)

-- extension bit and padding, the number of elements, the transaction identifier's element
abbrev pub front_bytes : ℕ → ℕ → List ℕ
front_bytes many t = 0 ∷ 0 ∷ element_count many ∷ 0 ∷ transaction_id ∷ 0 ∷ 2 ∷ 0 ∷ t ∷ []

abbrev pub front_size : ℕ
front_size = 9

-- all of them but the last as one number
abbrev pub front_number : ℕ → ℕ
front_number many = element_count many * 256 ^ 5 + (transaction_id * 256 ^ 3 + 2 * 256)

unfoldable pub value_bytes : Message → ℕ → List Row → List ℕ
value_bytes m t rows = front_bytes (length rows) t ++ list_bytes m rows

-- without rows: a transaction identifier alone
unfoldable pub bare_bytes : Message → ℕ → List ℕ
bare_bytes m t = opening (frame_id m) front_size ++ front_bytes 0 t

-- and what writing it leaves
unfoldable pub bare_written : Message → ℕ → List ℕ → Filled
bare_written m t buffer = fill (first_of (test (fits_in (length (bare_bytes m t)) (length buffer)) ShortBuffer ∷ [])) (bare_bytes m t) buffer

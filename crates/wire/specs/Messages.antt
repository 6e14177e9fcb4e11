-- The three messages, and what tells each from the others: the frame's choice and procedure code, the elements that it knows, its list and the list's items.
use Rattle.std.specs.Prelude.{Bool, true, false, cond, List, [], ◌∷◌, ℕ, ◌+◌, ◌*◌, eqb}
use Rattle.wire.specs.Frame.{initiating_message, successful_outcome, write_replace_warning, pws_cancel}
use Rattle.wire.specs.declared.Message.{Message}
use Rattle.wire.specs.declared.Message.TheVariants.{CancelRequest, CancelResponse, WriteReplaceResponse}

-- ---- the frame

abbrev pub choice_of : Message → ℕ
choice_of CancelRequest = initiating_message
choice_of CancelResponse = successful_outcome
choice_of WriteReplaceResponse = successful_outcome

abbrev pub code_of : Message → ℕ
code_of CancelRequest = pws_cancel
code_of CancelResponse = pws_cancel
code_of WriteReplaceResponse = write_replace_warning

-- both as one number, which stands where an element has its id
abbrev pub frame_id : Message → ℕ
frame_id m = choice_of m * 16384 + code_of m

-- ---- ids: in each message they ascend

abbrev pub transaction_id : ℕ
transaction_id = 78

abbrev pub requested_id : ℕ
requested_id = 142

abbrev pub cancel_all_id : ℕ
cancel_all_id = 157

abbrev pub notification_id : ℕ
notification_id = 220

-- Broadcast-To-Be-Cancelled-List, Cells-Broadcast-Cancelled-List, Cells-Broadcast-Completed-List
abbrev pub cells_id : Message → ℕ
cells_id CancelRequest = 148
cells_id CancelResponse = 150
cells_id WriteReplaceResponse = 146

-- and the item of each
abbrev pub item_id : Message → ℕ
item_id CancelRequest = 149
item_id CancelResponse = 151
item_id WriteReplaceResponse = 147

-- the bytes of an item's count of broadcasts: only cells in which a text stopped have one
abbrev pub count_size : Message → ℕ
count_size CancelRequest = 0
count_size CancelResponse = 2
count_size WriteReplaceResponse = 0

-- ---- the elements

pub data Name : Type 0 where
  the_transaction : Name
  the_requested : Name
  the_cells : Name
  the_indicator : Name
  the_notification : Name
  unknown : Name

-- beside the transaction identifier and the list
abbrev pub further_name : Message → ℕ → Name
further_name CancelRequest id =
    cond (eqb id requested_id) the_requested (cond (eqb id cancel_all_id) the_indicator (cond (eqb id notification_id) the_notification unknown))
further_name CancelResponse id = unknown
further_name WriteReplaceResponse id = unknown

-- beside the transaction identifier
abbrev pub beside_name : Message → ℕ → Name
beside_name m id = cond (eqb id (cells_id m)) the_cells (further_name m id)

abbrev pub name_of : Message → ℕ → Name
name_of m id = cond (eqb id transaction_id) the_transaction (beside_name m id)

abbrev pub is_named : Name → Bool
is_named the_transaction = true
is_named the_requested = true
is_named the_cells = true
is_named the_indicator = true
is_named the_notification = true
is_named unknown = false

unfoldable pub known : Message → ℕ → Bool
known m id = is_named (name_of m id)

abbrev pub mandatory : Message → List ℕ
mandatory CancelRequest = transaction_id ∷ requested_id ∷ []
mandatory CancelResponse = transaction_id ∷ []
mandatory WriteReplaceResponse = transaction_id ∷ []

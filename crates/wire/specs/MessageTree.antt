-- The messages as trees and as formats: the encoding is a function of the tree.
use Rattle.std.specs.Prelude.{List, [], ◌∷◌, ℕ, get_or}
use Rattle.formats.specs.Format.{Format, number, opaque, pair, behind, as_if}
use Rattle.formats.specs.Bits.{Field, says, pad, bits}
use Rattle.aper.specs.Elements.{Element, element_of, elements_of, Extensions, presence, given}
use Rattle.wire.specs.Frame.{Frame, frame, blank_fields}
use Rattle.wire.specs.Messages.{Name, the_transaction, the_requested, the_cells, the_indicator, the_notification, unknown, name_of, known}
use Rattle.wire.specs.Cells.{Entry, list}
use Rattle.wire.specs.declared.Message.{Message}

-- ---- NotificationInformation

pub record Notification : Type 0 where
  pub identifier : ℕ
  pub serial : ℕ
  pub extensions : Extensions

-- extension bit, iE-Extensions present, message identifier, serial number; padding
abbrev pub note_fields : List Field
note_fields = pad 1 ∷ says 1 ∷ says 16 ∷ says 16 ∷ pad 6 ∷ []

abbrev pub note_head : Notification → List ℕ
note_head n = presence n.extensions ∷ n.identifier ∷ n.serial ∷ []

unfoldable pub note_under : List ℕ → Format Notification
note_under h = as_if (λ es. record { identifier = get_or h 1 0; serial = get_or h 2 0; extensions = es }) (λ n. n.extensions) (given (get_or h 0 0))

unfoldable pub note : Format Notification
note = behind (bits 5 note_fields) note_head note_under

-- ---- what an element holds

pub data Contents : Type 0 where
  transaction : ℕ → Contents
  requested : ℕ → Contents
  cells : List (Element Entry) → Contents
  cancel_all : Contents
  notification : Notification → Contents
  other : List ℕ → Contents

abbrev pub number_in : Contents → ℕ
number_in (transaction t) = t
number_in (requested n) = n
number_in (cells es) = 0
number_in cancel_all = 0
number_in (notification n) = 0
number_in (other s) = 0

abbrev pub cells_in : Contents → List (Element Entry)
cells_in (transaction t) = []
cells_in (requested n) = []
cells_in (cells es) = es
cells_in cancel_all = []
cells_in (notification n) = []
cells_in (other s) = []

abbrev pub note_in : Contents → Notification
note_in (transaction t) = record { identifier = 0; serial = 0; extensions = [] }
note_in (requested n) = record { identifier = 0; serial = 0; extensions = [] }
note_in (cells es) = record { identifier = 0; serial = 0; extensions = [] }
note_in cancel_all = record { identifier = 0; serial = 0; extensions = [] }
note_in (notification n) = n
note_in (other s) = record { identifier = 0; serial = 0; extensions = [] }

abbrev pub other_in : Contents → List ℕ
other_in (transaction t) = []
other_in (requested n) = []
other_in (cells es) = []
other_in cancel_all = []
other_in (notification n) = []
other_in (other s) = s

-- extension bit and padding, the number
abbrev pub transaction_fields : List Field
transaction_fields = pad 1 ∷ pad 7 ∷ says 8 ∷ []

unfoldable pub contents_by : Message → Name → Format Contents
contents_by m the_transaction = as_if (λ vs. transaction (get_or vs 0 0)) (λ c. number_in c ∷ []) (bits 2 transaction_fields)
contents_by m the_requested = as_if requested number_in (number 2)
contents_by m the_cells = as_if cells cells_in (list m)
contents_by m the_indicator = as_if (λ vs. cancel_all) (λ c. []) (bits 1 blank_fields)
contents_by m the_notification = as_if notification note_in note
contents_by m unknown = as_if other other_in opaque

unfoldable pub contents : Message → ℕ → Format Contents
contents m id = contents_by m (name_of m id)

-- ---- the message

abbrev pub Elements : Type 0
Elements = List (Element Contents)

abbrev pub element : Message → Format (Element Contents)
element m = element_of (known m) (contents m)

unfoldable pub value : Message → Format Elements
value m = as_if (λ p. p.1) (λ es. ([], es)) (pair (bits 1 blank_fields) (elements_of (known m) (contents m)))

abbrev pub message : Message → Format (Frame Elements)
message m = frame (value m)

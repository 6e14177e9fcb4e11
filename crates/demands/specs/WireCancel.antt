-- Document 02, 5/13: "Take cancels straight from the wire. .. Read the F1AP PWS CANCEL REQUEST itself".
-- Said of whatever is returned and left under the promise of `pws_read_cancel`, for any bytes and any buffer.
-- The message is a tree and a format (wire, MessageTree) with its refusals (MessageRefusals); what it says (MessageSaid), and the record of that (CancelRead), are definitions too.
use Rattle.std.specs.Prelude.{◌≡◌, true, false, List, [], ◌∷◌, ◌++◌, ℕ, ◌+◌, ◌*◌, ◌<◌, length, take, drop, Ok}
use Rattle.octets.specs.Runs.{Bytes}
use Rattle.rules.specs.Layout.{current, record_size, item_size}
use Rattle.rules.specs.Record.{items_of}
use Rattle.rules.specs.Refusals.{number_of, Held, FailsFirst}
use Rattle.rules.specs.Applied.{read_of}
use Rattle.rules.specs.declared.Refusal.{Refusal}
use Rattle.formats.specs.Format.{found}
use Rattle.aper.specs.Elements.{Element}
use Rattle.wire.specs.Frame.{Frame}
use Rattle.wire.specs.Cells.{Entry}
use Rattle.wire.specs.MessageTree.{Contents, cells, Elements, message}
use Rattle.wire.specs.MessageRefusals.{is_this, message_verdict, is_foreign, is_known}
use Rattle.wire.specs.MessageSaid.{said, said_in}
use Rattle.wire.specs.CancelRead.{named, cancel_request, cancel_tests, record_of}
use Rattle.wire.specs.MessagePromises.{OneReading, bare_contents, bare, Skipping}
use Rattle.wire.specs.declared.Message.{Message}
use Rattle.wire.specs.declared.Message.TheVariants.{CancelRequest}
use Rattle.pws.specs.declared.PwsDone.{PwsDone}
use Rattle.pws.specs.declared.PwsMessage.{PwsMessage}
use Rattle.pws.specs.Promises.{WritePromise, ReadCancelPromise}

-- ---- one call that returned 0

-- the bytes are the encoding of this tree of a message and of no other, and say what its elements say
pub record ReadAs (m : Message) (bytes : List ℕ) (tree : Frame Elements) : Type 0 where
  pub fits : (message m).fits tree
  pub encoded : (message m).encode tree ≡ bytes
  pub alone : (other : Frame Elements) → (message m).fits other → (message m).encode other ≡ bytes → other ≡ tree
  pub says : said_in m bytes ≡ said tree.value

-- the record of what the message says, and its transaction identifier
pub record CancelTaken (message buffer : List ℕ) (m : PwsMessage) (buffer' : List ℕ) : Type 0 where
  pub size : m.length ≡ record_size + item_size current * length (named (said_in CancelRequest message))
  pub whole : take m.length buffer' ≡ record_of (said_in CancelRequest message)
  -- the bytes behind it stay
  pub behind : drop m.length buffer' ≡ drop m.length buffer
  -- the reader of records accepts it, and gives the Cancel and its cells back
  pub reads : read_of (take m.length buffer') ≡ record { number = 0; request = cancel_request (said_in CancelRequest message); items = length (named (said_in CancelRequest message)) }
  pub reads-cells : items_of (take m.length buffer') ≡ named (said_in CancelRequest message)
  pub transaction : m.transaction ≡ (said_in CancelRequest message).transaction
  pub one_byte : m.transaction < 256

-- ---- two calls

-- what is returned and left is the same
pub record SameTaken (m : PwsMessage) (buffer' : List ℕ) (n : PwsMessage) (buffer'' : List ℕ) : Type 0 where
  pub same_number : m.number ≡ n.number
  pub same-transaction : m.transaction ≡ n.transaction
  pub same_length : m.length ≡ n.length
  pub same_bytes : buffer' ≡ buffer''

-- the same element with another criticality
abbrev pub marked_as : {C : Type 0} → ℕ → Element C → Element C
marked_as criticality e = record { id = e.id; criticality = criticality; contents = e.contents }

-- ---- THE CLAIM

pub record WireCancel : Type 0 where
  -- "each has one reading": of the format ..
  pub one-reading : OneReading CancelRequest
  -- .. and of every message that is taken
  pub read_as : (message buffer : List ℕ) → Bytes message → (m : PwsMessage) (buffer' : List ℕ) → ReadCancelPromise message buffer m buffer' → m.number ≡ 0
      → (tree : Frame Elements) × ReadAs CancelRequest message tree
  -- "The result is a Cancel record plus the transaction identifier"
  pub taken : (message buffer : List ℕ) → Bytes message → (m : PwsMessage) (buffer' : List ℕ) → ReadCancelPromise message buffer m buffer' → m.number ≡ 0
      → CancelTaken message buffer m buffer'
  -- the one that `pws_write` writes of the same Cancel: behind 13 to 16 both give the same number and leave the same bytes
  pub as_written : (message buffer : List ℕ) → Bytes message → message_verdict CancelRequest message ≡ Ok tt
      → (m : PwsMessage) (buffer' : List ℕ) → ReadCancelPromise message buffer m buffer'
      → (d : PwsDone) (buffer'' : List ℕ) → WritePromise (cancel_request (said_in CancelRequest message)) (named (said_in CancelRequest message)) buffer d buffer''
      → (m.number ≡ d.number) × (m.length ≡ d.length) × (buffer' ≡ buffer'')
  -- "Unknown elements marked ignore or notify are skipped. Messages that differ only in these yield the same record": trees that are the same without what is skipped, at whatever depth ..
  pub same_taken : (first second buffer : List ℕ) (tree other : Frame Elements) → (message CancelRequest).parse first ≡ found tree [] → (message CancelRequest).parse second ≡ found other []
      → is_this CancelRequest first ≡ true → is_this CancelRequest second ≡ true → bare tree.value ≡ bare other.value
      → (m : PwsMessage) (buffer' : List ℕ) → ReadCancelPromise first buffer m buffer'
      → (n : PwsMessage) (buffer'' : List ℕ) → ReadCancelPromise second buffer n buffer''
      → SameTaken m buffer' n buffer''
  -- .. and such they are where one has been put into the other
  pub skipping : Skipping CancelRequest
  -- "A known element's criticality is not read": messages that differ in that of an element, or of an item in the list, are such too
  pub criticality : (es fs : Elements) (e : Element Contents) (c : ℕ) → is_known e ≡ true → bare (es ++ (marked_as c e ∷ fs)) ≡ bare (es ++ (e ∷ fs))
  pub item-criticality : (es fs : List (Element Entry)) (e : Element Entry) (c : ℕ) → is_foreign e.contents ≡ false
      → bare_contents (cells (es ++ (marked_as c e ∷ fs))) ≡ bare_contents (cells (es ++ (e ∷ fs)))
  -- "Refusals, in this order: 13 .. 14 .. 15 .. 16 .. then 7 and 8": the number of the first test that fails, 0 for the rest, every byte as it was ..
  pub refused : (message buffer : List ℕ) (m : PwsMessage) (buffer' : List ℕ) → ReadCancelPromise message buffer m buffer'
      → (x : Refusal) → FailsFirst x (cancel_tests message (length buffer))
      → (m.number ≡ number_of x) × (m.transaction ≡ 0) × (m.length ≡ 0) × (buffer' ≡ buffer)
  -- .. and 0 exactly if all hold
  pub accepted : (message buffer : List ℕ) (m : PwsMessage) (buffer' : List ℕ) → ReadCancelPromise message buffer m buffer'
      → (Held (cancel_tests message (length buffer)) → m.number ≡ 0) × (m.number ≡ 0 → Held (cancel_tests message (length buffer)))

-- What is promised of messages, whatever code reads them.
use Rattle.std.specs.Prelude.{◌≡◌, Bool, true, false, not, List, [], ◌∷◌, ◌++◌, map, ℕ}
use Rattle.octets.specs.Runs.{Bytes}
use Rattle.rules.specs.Lists.{those}
use Rattle.formats.specs.Format.{found}
use Rattle.aper.specs.Elements.{Element, Extensions, marked}
use Rattle.wire.specs.Frame.{Frame}
use Rattle.wire.specs.Cells.{Item, Entry, listed, foreign}
use Rattle.wire.specs.MessageTree.{Notification, Contents, transaction, requested, cells, cancel_all, notification, other, Elements, message}
use Rattle.wire.specs.MessageRefusals.{is_this, message_verdict}
use Rattle.wire.specs.MessageSaid.{said_in}
use Rattle.wire.specs.declared.Message.{Message}

-- ---- "each has one reading"

-- bytes that are read are a tree's own encoding, a tree's encoding is read as that tree, and two messages that are read as the same are the same
pub record OneReading (m : Message) : Type 0 where
  pub back : (b : List ℕ) → Bytes b → (f : Frame Elements) → (message m).parse b ≡ found f [] → (message m).fits f × ((message m).encode f ≡ b)
  pub there : (f : Frame Elements) → (message m).fits f → (message m).parse ((message m).encode f) ≡ found f []
  pub same : (b c : List ℕ) → Bytes b → Bytes c → (f : Frame Elements) → (message m).parse b ≡ found f [] → (message m).parse c ≡ found f [] → b ≡ c

-- ---- messages that differ only in what is skipped

-- what is left of extensions: those that are not skipped
abbrev pub left_of : Extensions → Extensions
left_of es = those marked es

abbrev pub bare_item : Item → Item
bare_item i = record { plmn = i.plmn; cell = i.cell; cell_extensions = left_of i.cell_extensions; count = i.count; extensions = left_of i.extensions }

-- a known element's criticality is not read
abbrev pub bare_entry : Element Entry → Entry → Element Entry
bare_entry e (listed i) = record { id = e.id; criticality = 0; contents = listed (bare_item i) }
bare_entry e (foreign s) = record { id = e.id; criticality = e.criticality; contents = foreign s }

abbrev pub bare_note : Notification → Notification
bare_note n = record { identifier = n.identifier; serial = n.serial; extensions = left_of n.extensions }

abbrev pub bare_contents : Contents → Contents
bare_contents (transaction t) = transaction t
bare_contents (requested n) = requested n
bare_contents (cells es) = cells (map (λ e. bare_entry e e.contents) es)
bare_contents cancel_all = cancel_all
bare_contents (notification n) = notification (bare_note n)
bare_contents (other s) = other s

abbrev pub criticality_left : ℕ → Contents → ℕ
criticality_left c (transaction t) = 0
criticality_left c (requested n) = 0
criticality_left c (cells es) = 0
criticality_left c cancel_all = 0
criticality_left c (notification n) = 0
criticality_left c (other s) = c

abbrev pub bare_element : Element Contents → Element Contents
bare_element e = record { id = e.id; criticality = criticality_left e.criticality e.contents; contents = bare_contents e.contents }

abbrev pub skipped_contents : Element Contents → Contents → Bool
skipped_contents e (transaction t) = false
skipped_contents e (requested n) = false
skipped_contents e (cells es) = false
skipped_contents e cancel_all = false
skipped_contents e (notification n) = false
skipped_contents e (other s) = not (marked e)

-- an unknown element marked ignore or notify
abbrev pub skipped : Element Contents → Bool
skipped e = skipped_contents e e.contents

-- a message without what is skipped, at whatever depth, and without what is not read
unfoldable pub bare : Elements → Elements
bare es = map bare_element (those (λ e. not (skipped e)) es)

pub record Skipping (m : Message) : Type 0 where
  -- two messages that differ only in what is skipped are accepted or refused alike, and say the same
  pub same : (b c : List ℕ) (f g : Frame Elements) → (message m).parse b ≡ found f [] → (message m).parse c ≡ found g []
      → is_this m b ≡ true → is_this m c ≡ true → bare f.value ≡ bare g.value → (message_verdict m b ≡ message_verdict m c) × (said_in m b ≡ said_in m c)
  -- and so do messages that one has been put into
  pub put_in : (es fs : Elements) (u : Element Contents) → skipped u ≡ true → bare (es ++ (u ∷ fs)) ≡ bare (es ++ fs)
  pub put_deeper : (es fs : Extensions) (u : Element (List ℕ)) → marked u ≡ false → left_of (es ++ (u ∷ fs)) ≡ left_of (es ++ fs)

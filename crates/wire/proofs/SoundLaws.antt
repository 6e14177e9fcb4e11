-- What a message says is sound: every number is below what its bits set, there are at most 512 cells, and without a notification its numbers are 0.
-- What is read fits its format; so each element's contents are sound, and saying one more keeps it so.
use mathlib.Core.Path.{◌≡◌, refl, sym, subst}
use mathlib.Core.Bool.{Bool, true, false, cond, false≢true}
use mathlib.Core.List.{List, [], ◌∷◌, flat_map}
use Prim.Native.Nat.{ℕ, ◌-◌, ◌^◌, ◌≤◌, ◌<◌}
use native.Mathlib.Omega.{arith}
use borrow.Author.Tests.{ltb-true}
use lib.ListN.{length, get_or}
use Rattle.octets.specs.Runs.{Bytes}
use Rattle.rules.specs.Layout.{cell_end, most_items}
use Rattle.rules.specs.Reply.{Row}
use Rattle.rules.specs.Identity.{plmn_end, part_end}
use Rattle.rules.proofs.ListsLaws.{few-flat_map}
use Rattle.rules.proofs.AllLaws.{All, none, more, all_append}
use Rattle.rules.proofs.IdentityLaws.{identity-below}
use Rattle.formats.specs.Format as formats
use Rattle.formats.specs.Format.{Found, nothing, found, Each, number, opaque, pair, behind, only, as_if, times, inside}
use Rattle.formats.specs.Bits.{Field, width, joined, cut, bits}
use Rattle.formats.specs.Summary.{gathered}
use Rattle.formats.proofs.FormatLaws.{Good}
use Rattle.aper.specs.Elements.{Element, holding, under, element_of, elements_of, from_one}
use Rattle.wire.specs.Frame.{Frame, frame_under, frame}
use Rattle.wire.specs.Cells.{Item, cell_fields, item_head, item_under, item, Entry, listed, foreign, item_in, bytes_in, is_item, entry, entry_element, most_listed, list}
use Rattle.wire.specs.Messages.{Name, the_transaction, the_requested, the_cells, the_indicator, the_notification, unknown, name_of, count_size}
use Rattle.wire.specs.MessageTree.{Notification, note_fields, note, Contents, transaction, requested, cells, cancel_all, notification, other, number_in, cells_in, note_in, transaction_fields, contents_by, contents, Elements, element, value, message}
use Rattle.wire.specs.MessageRefusals.{value_in, message_elements}
use Rattle.wire.specs.MessageSaid.{Said, nothing_said, row_in, rows_in, said_by, also_said, said, said_in}
use Rattle.wire.specs.declared.Message.{Message}
use Rattle.wire.proofs.MessageFormat.{message-alone}

-- what fields say is cut from a number of their bytes
said-below : (k : ℕ) (fs : List Field) (vs : List ℕ) → (bits k fs).fits vs → (P : List ℕ → Type 0) → ((n : ℕ) → n < 256 ^ k → P (cut fs n)) → P vs
unfolding bits as_if only number
said-below k fs vs h P all = subst P h.1 (all (joined fs vs) h.0.0)

module _ (m : Message) where
  -- ---- a cell

  abbrev SoundEntry : Entry → Type 0
  SoundEntry (listed i) = (i.plmn < plmn_end) × (i.cell < part_end) × (i.count < 256 ^ count_size m)
  SoundEntry (foreign s) = Unit {0}

  cell_below : (v : ℕ) → (bits 5 cell_fields).fits (v ∷ []) → v < part_end
  unfolding cut width
  cell_below v h = said-below 5 cell_fields (v ∷ []) h (λ (vs : List ℕ). get_or vs 0 0 < part_end) (λ n k. omega arith)

  sound-item : (i : Item) → (item m).fits i → SoundEntry (listed i)
  unfolding item behind item_head item_under as_if pair number
  sound-item i h = (h.0.1.0, cell_below i.cell h.0.1.1, h.1.0.1.0)

  sound-entry : (b : Bool) (x : Entry) → (cond b (as_if listed item_in (item m)) (as_if foreign bytes_in opaque)).fits x → SoundEntry x
  unfolding as_if
  sound-entry true x h = subst SoundEntry h.1 (sound-item (item_in x) h.0)
  sound-entry false x h = subst SoundEntry h.1 tt

  entry-fits : (e : Element Entry) → (entry_element m).fits e → SoundEntry e.contents
  unfolding element_of only holding behind under as_if inside entry
  entry-fits e h = sound-entry (is_item m e.id) e.contents h.0.1.0.0

  -- ---- the list

  -- a cell of document 01, a count in its bytes, and no content
  pub record SoundRow (w : Row) : Type 0 where
    pub below : w.identity < cell_end
    pub count : w.count < 256 ^ count_size m
    pub content : w.content ≡ 0

  sound-row : (x : Entry) → SoundEntry x → All SoundRow (row_in x)
  sound-row (listed i) h = more (record { below = identity-below i.plmn i.cell h.1 h.0; count = h.2; content = refl }) none
  sound-row (foreign s) h = none

  sound-rows : {es : List (Element Entry)} → Each (entry_element m).fits es → All SoundRow (rows_in es)
  unfolding rows_in flat_map
  sound-rows formats.none = none
  sound-rows (formats.more {x} {xs} h hs) = all_append (sound-row x.contents (entry-fits x h)) (sound-rows hs)

  one-row : (x : Entry) → length (row_in x) ≤ 1
  one-row (listed i) = omega arith
  one-row (foreign s) = omega arith

  few-listed : (es : List (Element Entry)) → (list m).fits es → length es ≤ most_listed
  unfolding list behind from_one as_if only
  few-listed es h = omega (arith, ltb-true (length es - 1) most_listed h.0.0.1)

  few-rows : (es : List (Element Entry)) → (list m).fits es → length (rows_in es) ≤ most_items
  unfolding rows_in
  few-rows es h = omega (arith, few-flat_map (λ e. row_in e.contents) (λ e. one-row e.contents) es, few-listed es h)

  each_listed : (es : List (Element Entry)) → (list m).fits es → Each (entry_element m).fits es
  unfolding list behind times
  each_listed es h = h.1.1

  -- ---- contents

  abbrev SoundContents : Contents → Type 0
  SoundContents (transaction t) = t < 256
  SoundContents (requested n) = n < 65536
  SoundContents (cells es) = (length (rows_in es) ≤ most_items) × All SoundRow (rows_in es)
  SoundContents cancel_all = Unit {0}
  SoundContents (notification n) = (n.identifier < 65536) × (n.serial < 65536)
  SoundContents (other s) = Unit {0}

  transaction-below : (t : ℕ) → (bits 2 transaction_fields).fits (t ∷ []) → t < 256
  unfolding cut width
  transaction-below t h = said-below 2 transaction_fields (t ∷ []) h (λ (vs : List ℕ). get_or vs 0 0 < 256) (λ n k. omega arith)

  note-below : (n : Notification) → note.fits n → SoundContents (notification n)
  unfolding note behind cut width
  note-below n h =
      said-below 5 note_fields _ h.0 (λ (vs : List ℕ). (get_or vs 1 0 < 65536) × (get_or vs 2 0 < 65536)) (λ m k. (omega arith, omega arith))

  sound-contents : (name : Name) (x : Contents) → (contents_by m name).fits x → SoundContents x
  unfolding contents_by as_if number
  sound-contents the_transaction x h = subst SoundContents h.1 (transaction-below (number_in x) h.0)
  sound-contents the_requested x h = subst SoundContents h.1 h.0
  sound-contents the_cells x h =
      subst SoundContents h.1 (few-rows (cells_in x) h.0, sound-rows (each_listed (cells_in x) h.0))
  sound-contents the_indicator x h = subst SoundContents h.1 tt
  sound-contents the_notification x h = subst SoundContents h.1 (note-below (note_in x) h.0)
  sound-contents unknown x h = subst SoundContents h.1 tt

  element-fits : (e : Element Contents) → (element m).fits e → SoundContents e.contents
  unfolding element_of only holding behind under as_if inside contents
  element-fits e h = sound-contents (name_of m e.id) e.contents h.0.1.0.0

  -- ---- what is said

  pub record SoundSaid (c : Said) : Type 0 where
    pub transaction : c.transaction < 256
    pub requested : c.requested < 65536
    pub few : length c.cells ≤ most_items
    pub each : All SoundRow c.cells
    pub identifier : c.identifier < 65536
    pub serial : c.serial < 65536
    pub unnoted : c.notifies ≡ false → (c.identifier ≡ 0) × (c.serial ≡ 0)

  nothing-sound : SoundSaid nothing_said
  unfolding nothing_said
  nothing-sound =
      record {
        transaction = omega arith;
        requested = omega arith;
        few = omega arith;
        each = none;
        identifier = omega arith;
        serial = omega arith;
        unnoted = λ e. (refl, refl);
      }

  also_sound : (c : Said) (x : Contents) → SoundSaid c → SoundContents x → SoundSaid (said_by c x)
  unfolding said_by
  also_sound c (transaction t) s h = record { transaction = h; requested = s.requested; few = s.few; each = s.each; identifier = s.identifier; serial = s.serial; unnoted = s.unnoted }
  also_sound c (requested n) s h = record { transaction = s.transaction; requested = h; few = s.few; each = s.each; identifier = s.identifier; serial = s.serial; unnoted = s.unnoted }
  also_sound c (cells es) s h = record { transaction = s.transaction; requested = s.requested; few = h.0; each = h.1; identifier = s.identifier; serial = s.serial; unnoted = s.unnoted }
  also_sound c cancel_all s h = record { transaction = s.transaction; requested = s.requested; few = s.few; each = s.each; identifier = s.identifier; serial = s.serial; unnoted = s.unnoted }
  also_sound c (notification n) s h = record { transaction = s.transaction; requested = s.requested; few = s.few; each = s.each; identifier = h.0; serial = h.1; unnoted = λ e. absurd (false≢true (sym e)) }
  also_sound c (other t) s h = s

  said-sound : (c : Said) → SoundSaid c → {es : Elements} → Each (element m).fits es → SoundSaid (gathered also_said c es)
  unfolding gathered
  said-sound c s formats.none = s
  said-sound c s (formats.more {x} {xs} h hs) = said-sound (also_said c x) (also_sound c x.contents s (element-fits x h)) hs

  -- ---- a message

  fits-elements : (f : Frame Elements) → (message m).fits f → Each (element m).fits f.value
  unfolding frame behind frame_under as_if pair inside value elements_of times
  fits-elements f h = h.1.0.1.1.0.0.1.1.1

  found-elements : (b : List ℕ) (x : Found (Frame Elements)) → Good (message m) b x → Each (element m).fits (value_in x)
  found-elements b nothing h = formats.none
  found-elements b (found f rest) h = fits-elements f h.0

  -- whatever the bytes are: where nothing is found, nothing is said
  pub message-sound : (b : List ℕ) → Bytes b → SoundSaid (said_in m b)
  unfolding said message_elements
  message-sound b bytes = said-sound nothing_said nothing-sound (found-elements b ((message m).parse b) ((message-alone m).back b bytes))

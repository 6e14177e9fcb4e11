-- What readers of an element's contents answer: all of the bytes that are lent are read, and what the rules ask for is kept.
use Rattle.std.specs.Prelude.{◌≡◌, Bool, true, false, List, [], ◌∷◌, map, ℕ, ◌+◌, ◌-◌, ◌*◌, ◌/◌, ◌<◌, ◌≤◌, length, take, drop, Option, Some, None}
use Rattle.octets.specs.Runs.{gets}
use Rattle.octets.specs.Numbers.{be}
use Rattle.rules.specs.Lists.{any, ascending}
use Rattle.rules.specs.Layout.{cell_end}
use Rattle.rules.specs.Identity.{identity_of}
use Rattle.formats.specs.Format.{Found, nothing, found, all_of, Format}
use Rattle.formats.specs.Summary.{summed}
use Rattle.formats.specs.Bits.{bits}
use Rattle.aper.specs.Elements.{Element, from_one, marked}
use Rattle.aper.specs.Readers.{ElementAt}
use Rattle.wire.specs.Messages.{the_cells, item_id, count_size}
use Rattle.wire.specs.Cells.{Item, item, Entry, listed, foreign, entry_element, most_listed}
use Rattle.wire.specs.MessageTree.{note_fields, Contents, contents_by, transaction, requested, cells, cancel_all, notification, other}
use Rattle.wire.specs.MessageRefusals.{rejecting_item, rejects_entry, foreign_entry}
use Rattle.wire.specs.declared.Message.{Message}
use Rattle.wire.specs.declared.list.Grade.{Grade}
use Rattle.wire.specs.declared.list.Listed.{Listed}
use Rattle.wire.specs.declared.Note.{Note}
use Rattle.wire.specs.declared.Marks.{Marks}
use Rattle.wire.specs.declared.Heard.{Heard}
use Rattle.wire.specs.declared.Heard.TheVariants.{Transaction, Requested, Cells, CancelAll, Notification, Unknown}

-- the five bytes of a notification at an index
abbrev pub note_by : List ℕ → Option Note → Found (List ℕ)
note_by l (Some r) = found (r.present ∷ r.identifier ∷ r.serial ∷ []) (drop r.end l)
note_by l None = nothing

abbrev pub NoteLies : List ℕ → Option Note → Type 0
NoteLies l (Some r) = r.end ≤ length l
NoteLies l None = Unit {0}

pub record NoteAt (l : List ℕ) (at : ℕ) (r : Option Note) : Type 0 where
  pub says : note_by l r ≡ (bits 5 note_fields).parse (drop at l)
  pub lies : NoteLies l r

-- bytes that are an item and nothing else: whether an extension in it is marked reject, and its cell's number
abbrev pub grade_by : Option Grade → Found (Bool × ℕ)
grade_by (Some r) = found (r.rejected, r.identity) []
grade_by None = nothing

abbrev pub graded : Item → Bool × ℕ
graded i = (rejecting_item i, identity_of i.plmn i.cell)

abbrev pub ItemGraded : Message → List ℕ → Option Grade → Type 0
ItemGraded m l r = grade_by r ≡ all_of (summed graded ((item m).parse l)) []

-- and that number is a cell's
abbrev pub GradeLies : Option Grade → Type 0
GradeLies (Some r) = r.identity < cell_end
GradeLies None = Unit {0}

-- the bytes of an item without extensions
abbrev pub plain_size : Message → ℕ
plain_size m = 9 + count_size m

-- an item of the list without extensions, behind its id, criticality and length; of anything else nothing is said
pub record PlainAt (m : Message) (l : List ℕ) (at : ℕ) : Type 0 where
  pub criticality : ℕ
  pub read : ElementAt l at (Some (record { id = item_id m; criticality = criticality; start = at + 4; end = at + (4 + plain_size m) }))
  pub graded : ItemGraded m (take (at + (4 + plain_size m) - (at + 4)) (drop (at + 4) l)) (Some (record { rejected = false; identity = be (gets l (at + 5) 8) / 16 }))

-- its id and its length, without its criticality
abbrev pub plain_head : Message → ℕ
plain_head m = item_id m * 65536 + plain_size m

abbrev pub PlainItem : Message → List ℕ → ℕ → Bool → Type 0
PlainItem m l at true = PlainAt m l at
PlainItem m l at false = Unit {0}

-- how many entries a list has, by the two bytes in front of them
abbrev pub count_by : List ℕ → Option ℕ → Found ℕ
count_by l (Some n) = found n (drop 2 l)
count_by l None = nothing

abbrev pub CountLies : List ℕ → Option ℕ → Type 0
CountLies l (Some n) = 2 ≤ length l
CountLies l None = Unit {0}

pub record EntriesCounted (l : List ℕ) (r : Option ℕ) : Type 0 where
  pub says : count_by l r ≡ (from_one most_listed).parse l
  pub lies : CountLies l r

-- the number of an entry's cell, 0 where it is not a cell's
abbrev pub number_of_entry : Entry → ℕ
number_of_entry (listed i) = identity_of i.plmn i.cell
number_of_entry (foreign s) = 0

abbrev pub entry_numbers : List (Element Entry) → List ℕ
entry_numbers es = map (λ e. number_of_entry e.contents) es

-- an entry of the list at an index: whether something in it is marked reject, whether it is not a cell's, and its cell's number
abbrev pub marks_of : Element Entry → Bool × (Bool × ℕ)
marks_of e = (rejects_entry e, (foreign_entry e, number_of_entry e.contents))

abbrev pub entry_by : List ℕ → Option Listed → Found (Bool × (Bool × ℕ))
entry_by l (Some r) = found (r.rejected, (r.foreign, r.identity)) (drop r.end l)
entry_by l None = nothing

abbrev pub EntryLies : List ℕ → Option Listed → Type 0
EntryLies l (Some r) = (r.end ≤ length l) × (r.identity < cell_end)
EntryLies l None = Unit {0}

pub record EntryAt (m : Message) (l : List ℕ) (at : ℕ) (r : Option Listed) : Type 0 where
  pub says : entry_by l r ≡ summed marks_of ((entry_element m).parse (drop at l))
  pub lies : EntryLies l r

-- what an element tells: of a list and of a notification whether something in them is marked reject, of a list whether an item is not a cell's and whether
-- the cells ascend
abbrev pub kept : Contents → Heard
kept (transaction t) = Transaction t
kept (requested n) = Requested n
kept (cells es) = Cells (record { rejected = any rejects_entry es; foreign = any foreign_entry es; ascends = ascending (entry_numbers es) })
kept cancel_all = CancelAll
kept (notification n) = Notification (record { rejected = any marked n.extensions; identifier = n.identifier; serial = n.serial })
kept (other s) = Unknown

-- what a list tells, and what a transaction identifier tells, as elements
abbrev pub list_heard : Option Marks → Option Heard
list_heard (Some r) = Some (Cells r)
list_heard None = None

abbrev pub transaction_heard : Option ℕ → Option Heard
transaction_heard (Some t) = Some (Transaction t)
transaction_heard None = None

abbrev pub heard_by : Option Heard → Found Heard
heard_by (Some h) = found h []
heard_by None = nothing

abbrev pub Tells : Format Contents → List ℕ → Option Heard → Type 0
Tells f l r = heard_by r ≡ all_of (summed kept (f.parse l)) []

-- the same of an entry where it is to be an item without extensions; of any other nothing is said
abbrev pub ListedAt : Bool → Message → List ℕ → ℕ → Option Listed → Type 0
ListedAt false m l at r = EntryAt m l at r
ListedAt true m l at (Some r) = EntryAt m l at (Some r) × (r.rejected ≡ false) × (r.foreign ≡ false)
ListedAt true m l at None = Unit {0}

-- a list of items without extensions alone; of any other list nothing is said
abbrev pub PlainList : Message → List ℕ → Option Marks → Type 0
PlainList m l (Some r) = Tells (contents_by m the_cells) l (Some (Cells r)) × (r.rejected ≡ false) × (r.foreign ≡ false)
PlainList m l None = Unit {0}

-- a list where its items are to have no extensions, and any list
abbrev pub WalkedBy : Bool → Message → List ℕ → Option Marks → Type 0
WalkedBy true m l r = PlainList m l r
WalkedBy false m l r = Tells (contents_by m the_cells) l (list_heard r)

-- The list of a message that was judged: its rows, and a cell at an index of its bytes.
use Rattle.std.specs.Prelude.{◌≡◌, Bool, false, List, [], ◌∷◌, ℕ, ◌≤◌, length, drop}
use Rattle.rules.specs.Layout.{most_items}
use Rattle.rules.specs.Identity.{identity_number}
use Rattle.rules.specs.Reply.{Row}
use Rattle.formats.specs.Format.{found}
use Rattle.formats.specs.Summary.{summed}
use Rattle.aper.specs.Elements.{Element}
use Rattle.wire.specs.Cells.{Item, item, Entry, entry_element, list}
use Rattle.wire.specs.MessageRefusals.{foreign_entry}
use Rattle.wire.specs.MessageSaid.{row_in, rows_in}
use Rattle.wire.specs.declared.Message.{Message}
use Rattle.wire_judge.specs.Account.{entries_in, WholeList}
use Rattle.wire_cells.specs.declared.Cell.{Cell}

-- a list of these bytes, or none; every item of it is a cell's
pub record JudgedList (m : Message) (l : List ℕ) : Type 0 where
  pub ascends : Bool
  pub whole : WholeList (length l) false ascends ((list m).parse l)

-- its cells, each with its count
unfoldable pub rows_listed : Message → List ℕ → List Row
rows_listed m l = rows_in (entries_in ((list m).parse l))

pub record CellsCounted (m : Message) (l : List ℕ) (n : ℕ) : Type 0 where
  pub counts : n ≡ length (rows_listed m l)
  pub few : n ≤ most_items

-- ---- one of them

-- an item and nothing else
pub record WholeItem (m : Message) (s : List ℕ) : Type 0 where
  pub it : Item
  pub reads : (item m).parse s ≡ found it []

-- an entry at an index, and a cell's
pub record OwnEntry (m : Message) (l : List ℕ) (at : ℕ) : Type 0 where
  pub within : at ≤ length l
  pub entry : Element Entry
  pub rest : List ℕ
  pub there : (entry_element m).parse (drop at l) ≡ found entry rest
  pub own : foreign_entry entry ≡ false

-- the row that it is, and where it ends
abbrev pub row_said : Cell → Row
row_said c = record { identity = identity_number c.identity; count = c.count.0; content = 0 }

pub record CellAt (m : Message) (l : List ℕ) (at : ℕ) (c : Cell) : Type 0 where
  pub says : summed (λ (e : Element Entry). row_in e.contents) ((entry_element m).parse (drop at l)) ≡ found (row_said c ∷ []) (drop c.end l)
  pub ends : c.end ≤ length l

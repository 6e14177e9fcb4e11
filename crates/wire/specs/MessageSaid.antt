-- What a message says: one record of it, one element after the other.
use Rattle.std.specs.Prelude.{Bool, true, false, ℕ}
use mathlib.Core.List.{List, [], ◌∷◌, flat_map}
use Rattle.rules.specs.Identity.{identity_of}
use Rattle.rules.specs.Reply.{Row}
use Rattle.formats.specs.Summary.{gathered}
use Rattle.aper.specs.Elements.{Element}
use Rattle.wire.specs.Cells.{Entry, listed, foreign}
use Rattle.wire.specs.MessageTree.{Contents, transaction, requested, cells, cancel_all, notification, other, Elements}
use Rattle.wire.specs.MessageRefusals.{message_elements}
use Rattle.wire.specs.declared.Message.{Message}

pub record Said : Type 0 where
  pub transaction : ℕ
  pub requested : ℕ
  -- each cell of the list, with its count
  pub cells : List Row
  pub cancels_all : Bool
  pub notifies : Bool
  pub identifier : ℕ
  pub serial : ℕ

unfoldable pub nothing_said : Said
nothing_said = record { transaction = 0; requested = 0; cells = []; cancels_all = false; notifies = false; identifier = 0; serial = 0 }

-- the NR CGI of an item, as document 01 has it, and its count
abbrev pub row_in : Entry → List Row
row_in (listed i) = record { identity = identity_of i.plmn i.cell; count = i.count; content = 0 } ∷ []
row_in (foreign s) = []

unfoldable pub rows_in : List (Element Entry) → List Row
rows_in es = flat_map (λ e. row_in e.contents) es

unfoldable pub said_by : Said → Contents → Said
said_by c (transaction t) = record { transaction = t; requested = c.requested; cells = c.cells; cancels_all = c.cancels_all; notifies = c.notifies; identifier = c.identifier; serial = c.serial }
said_by c (requested n) = record { transaction = c.transaction; requested = n; cells = c.cells; cancels_all = c.cancels_all; notifies = c.notifies; identifier = c.identifier; serial = c.serial }
said_by c (cells es) = record { transaction = c.transaction; requested = c.requested; cells = rows_in es; cancels_all = c.cancels_all; notifies = c.notifies; identifier = c.identifier; serial = c.serial }
said_by c cancel_all = record { transaction = c.transaction; requested = c.requested; cells = c.cells; cancels_all = true; notifies = c.notifies; identifier = c.identifier; serial = c.serial }
said_by c (notification n) = record { transaction = c.transaction; requested = c.requested; cells = c.cells; cancels_all = c.cancels_all; notifies = true; identifier = n.identifier; serial = n.serial }
said_by c (other s) = c

abbrev pub also_said : Said → Element Contents → Said
also_said c e = said_by c e.contents

-- one element after the other; "unknown elements marked ignore or notify are skipped"
unfoldable pub said : Elements → Said
said es = gathered also_said nothing_said es

abbrev pub said_in : Message → List ℕ → Said
said_in m b = said (message_elements m b)

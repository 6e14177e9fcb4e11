-- What the tree of a response says: the transaction identifier and the rows, as they were; nothing in it is rejected or lacking, and its elements are complete.
-- By the rows, over the same of one row.
use mathlib.Core.Path.{◌≡◌, refl, ap₂}
use mathlib.Core.Bool.{Bool, true, false}
use mathlib.Core.List.{List, [], ◌∷◌, map, flat_map}
use Prim.Native.Nat.{ℕ}
use Rattle.rules.specs.Lists.{any, every, those, one_of, above}
use Rattle.rules.specs.Identity.{identity_of, plmn_of, part_of}
use Rattle.rules.specs.Reply.{Row}
use Rattle.rules.proofs.IdentityLaws.{identity-back}
use Rattle.rules.proofs.AllLaws.{All, none, more}
use Rattle.formats.specs.Summary.{gathered}
use Rattle.aper.specs.Elements.{Element}
use Rattle.wire.specs.Messages.{transaction_id, cells_id}
use Rattle.wire.specs.Cells.{Entry}
use Rattle.wire.specs.MessageTree.{Contents, transaction, cells}
use Rattle.wire.specs.MessageRefusals.{rejects_entry, rejecting, foreign_entry, lacking, known_ids, in_order, complete}
use Rattle.wire.specs.MessageSaid.{Said, nothing_said, rows_in, said_by, said}
use Rattle.wire.specs.declared.Message.{Message}
use Rattle.wire.proofs.SoundLaws.{SoundRow}
use Rattle.responses.specs.Response.{assigned, entry_for, list_for, elements_for}
use Rattle.responses.proofs.AnsweringLaws.{Answers, starts, stops}

-- ---- the rows

-- what is false of each entry is true of none
none-among : (m : Message) (f : Element Entry → Bool) → ((w : Row) → f (entry_for m w) ≡ false) → (rows : List Row) → any f (map (entry_for m) rows) ≡ false
unfolding any
none-among m f k [] = refl
none-among m f k (w ∷ ws) = rw (k w) (none-among m f k ws)

row-again : (m : Message) (w : Row) → SoundRow m w → record { identity = identity_of (plmn_of w.identity) (part_of w.identity); count = w.count; content = 0 } ≡ w
row-again m w s = rw (identity-back w.identity, ← s.content)

rows-again : (m : Message) {rows : List Row} → All (SoundRow m) rows → rows_in (map (entry_for m) rows) ≡ rows
unfolding rows_in flat_map entry_for
rows-again m none = refl
rows-again m (more {x = w} s ss) = ap₂ ◌∷◌ (row-again m w s) (rows-again m ss)

-- ---- the elements

-- the transaction identifier, then the list where there is one
in_order_lem : {m : Message} → Answers m → (t : ℕ) (rows : List Row) → in_order m (known_ids (elements_for m t rows)) ≡ true
unfolding in_order known_ids those flat_map above every one_of any elements_for list_for
in_order_lem starts t [] = refl
in_order_lem starts t (w ∷ ws) = refl
in_order_lem stops t [] = refl
in_order_lem stops t (w ∷ ws) = refl

module _ (m : Message) (t : ℕ) where
  none_in : (f : Element Contents → Bool) → f (assigned transaction_id (transaction t)) ≡ false
      → ((rows : List Row) → f (assigned (cells_id m) (cells (map (entry_for m) rows))) ≡ false) → (rows : List Row) → any f (elements_for m t rows) ≡ false
  unfolding any elements_for list_for
  none_in f h k [] = rw h
  none_in f h k (w ∷ ws) = rw (h, k (w ∷ ws))

  pub none-rejecting : (rows : List Row) → any rejecting (elements_for m t rows) ≡ false
  unfolding any entry_for
  none-rejecting rows = none_in rejecting refl (none-among m rejects_entry (λ w. refl)) rows

  none-lacking : (rows : List Row) → any lacking (elements_for m t rows) ≡ false
  unfolding entry_for
  none-lacking rows = none_in lacking refl (none-among m foreign_entry (λ w. refl)) rows

  pub all_complete : Answers m → (rows : List Row) → complete m (elements_for m t rows) ≡ true
  unfolding complete
  all_complete a rows = rw (none-lacking rows, in_order_lem a t rows)

  -- a transaction identifier, rows and nothing else
  abbrev pub saying : List Row → Said
  saying rows = record { transaction = t; requested = 0; cells = rows; cancels_all = false; notifies = false; identifier = 0; serial = 0 }

  pub says-rows : {rows : List Row} → All (SoundRow m) rows → said (elements_for m t rows) ≡ saying rows
  unfolding said gathered said_by nothing_said elements_for list_for
  says-rows none = refl
  says-rows (more s ss) = rw (rows-again m (more s ss))

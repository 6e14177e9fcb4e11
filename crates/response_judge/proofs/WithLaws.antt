-- One element more of a response: a transaction identifier, the list or one that is skipped. What is met with it is what the judge of requests would see,
-- so that the laws of any message's elements say what it means.
use Rattle.std.specs.Prelude.{Option, Some, None}
use Rattle.std.specs.Option.{option_map}
use mathlib.Core.Path.{◌≡◌}
use mathlib.Core.List.{List}
use Prim.Native.Nat.{ℕ, ◌-◌}
use lib.Dec.{ltb}
use lib.ListN.{take, drop}
use Rattle.rules.proofs.TestLaws.{by_test}
use Rattle.aper.specs.Readers.{ElementAt}
use Rattle.wire.specs.Messages.{the_transaction, the_cells, transaction_id, cells_id}
use Rattle.wire.specs.MessageTree.{contents_by, contents}
use Rattle.wire.specs.Readers.{Tells}
use Rattle.wire.specs.declared.Marks.{Marks}
use Rattle.wire.specs.declared.Message.{Message}
use Rattle.wire.specs.declared.Message.TheVariants.{CancelRequest}
use Rattle.wire.specs.declared.Heard.{Heard}
use Rattle.wire.specs.declared.Heard.TheVariants.{Transaction, Cells, Unknown}
use Rattle.wire.proofs.HearLaws.{unread, transaction-tells, beside_tells, cells_tell, further-tells, nothing-further}
use Rattle.wire_judge.specs.Account.{Lies}
use Rattle.wire_judge.specs.Readers.{past_of, turn_of, turn_with, TurnAt}
use Rattle.wire_judge.proofs.TurnLaws.{turn-kept}
use Rattle.response_judge.specs.Met.{seen_of, identified_by, listed_by, past_by}
use Rattle.response_judge.specs.declared.Met.{Met}

module _ (m : Message) (l : List ℕ) (at : ℕ) (s : Met) (lies : Lies m l (seen_of s)) (id criticality start end : ℕ) (read : ElementAt l at (Some (record { id = id; criticality = criticality; start = start; end = end }))) where
  abbrev held : List ℕ
  held = take (end - start) (drop start l)

  turned : (h : Option Heard) → Tells (contents m id) held h → TurnAt m l at (seen_of s) end (turn_with (seen_of s) id criticality start end h)
  turned h t = turn-kept m l at (seen_of s) lies id criticality start end read h t

  -- a transaction identifier, or contents that are none
  module _ (is : id ≡ transaction_id) where
    identifier : (h : Option Heard) → Tells (contents_by CancelRequest the_transaction) held h → TurnAt m l at (seen_of s) end (turn_with (seen_of s) id criticality start end h)
    identifier h t = turned h (transaction-tells m held id h is t)

    pub identifier_met : (n : ℕ) → Tells (contents_by CancelRequest the_transaction) held (Some (Transaction n)) → TurnAt m l at (seen_of s) end (Some (seen_of (identified_by s n)))
    unfolding identified_by
    identifier_met n t = unfold turn_of in rw is at (identifier (Some (Transaction n)) t)

    pub no_identifier : Tells (contents_by CancelRequest the_transaction) held None → TurnAt m l at (seen_of s) end None
    no_identifier t = identifier None t

  module _ (other : id ≡ transaction_id → ⊥) where
    module _ (is : id ≡ cells_id m) where
      cells : (h : Option Heard) → Tells (contents_by m the_cells) held h → TurnAt m l at (seen_of s) end (turn_with (seen_of s) id criticality start end h)
      cells h t = turned h (beside_tells m held id h other (cells_tell m held id h is t))

      pub list_met : (r : Marks) → Tells (contents_by m the_cells) held (Some (Cells r)) → TurnAt m l at (seen_of s) end (Some (seen_of (listed_by s id start end r)))
      unfolding listed_by
      list_met r t = unfold turn_of in cells (Some (Cells r)) t

      pub no_list : Tells (contents_by m the_cells) held None → TurnAt m l at (seen_of s) end None
      no_list t = cells None t

    pub other_met : (m ≡ CancelRequest → ⊥) → (id ≡ cells_id m → ⊥) → TurnAt m l at (seen_of s) end (option_map seen_of (past_by s criticality))
    unfolding past_by
    other_met response another =
        let turn = turned (Some Unknown) (beside_tells m held id (Some Unknown) other (further-tells m held id (Some Unknown) another (rw (nothing-further m response id) (unread m held)))) in
        by_test (ltb criticality 3) (λ u. rw u (unfold turn_of past_of in rw u at turn)) (λ u. rw u (unfold turn_of past_of in rw u at turn))

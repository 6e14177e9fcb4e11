-- What the walk over a message's elements keeps, one element after the other: on its tree as an account, in code as `Seen`, which keeps the list of cells
-- by where it lies.
use Rattle.std.specs.Prelude.{◌≡◌, Bool, true, false, ◌&&◌, ◌||◌, List, [], ◌∷◌, ℕ, ◌-◌, ◌≤◌, eqb, ltb, length, take, drop}
use Rattle.rules.specs.Lists.{any, ascending}
use Rattle.rules.specs.Reply.{identities}
use Rattle.formats.specs.Format.{Found, nothing, found}
use Rattle.aper.specs.Elements.{Element}
use Rattle.wire.specs.Cells.{Entry, list}
use Rattle.wire.specs.Messages.{transaction_id, requested_id}
use Rattle.wire.specs.MessageTree.{Contents}
use Rattle.wire.specs.MessageRefusals.{rejecting, lacking, foreign_entry, is_known}
use Rattle.wire.specs.MessageSaid.{Said, nothing_said, also_said, rows_in}
use Rattle.wire.specs.declared.Message.{Message}
use Rattle.wire_judge.specs.declared.Seen.{Seen}

-- 15 and 16 so far, and what was said so far
pub record Account : Type 0 where
  pub rejects : Bool
  pub lacks : Bool
  pub ordered : Bool
  pub last : ℕ
  pub has_transaction : Bool
  pub has_requested : Bool
  pub says : Said

unfoldable pub open_account : Account
open_account = record { rejects = false; lacks = false; ordered = true; last = 0; has_transaction = false; has_requested = false; says = nothing_said }

-- the order is that of the known elements
unfoldable pub entered : Account → ℕ → Bool → Account
entered a id true =
    record {
      rejects = a.rejects;
      lacks = a.lacks;
      ordered = a.ordered && ltb a.last id;
      last = id;
      has_transaction = a.has_transaction || eqb transaction_id id;
      has_requested = a.has_requested || eqb requested_id id;
      says = a.says;
    }
entered a id false = a

unfoldable pub accounted : Account → Element Contents → Account
accounted a e =
    let b = entered a e.id (is_known e) in
    record {
      rejects = a.rejects || rejecting e;
      lacks = a.lacks || lacking e;
      ordered = b.ordered;
      last = b.last;
      has_transaction = b.has_transaction;
      has_requested = b.has_requested;
      says = also_said a.says e;
    }

-- ---- the same in code

-- the list of cells that lies from start to end
unfoldable pub list_at : Message → List ℕ → ℕ → ℕ → Found (List (Element Entry))
list_at m l start end = (list m).parse (take (end - start) (drop start l))

abbrev pub entries_in : Found (List (Element Entry)) → List (Element Entry)
entries_in nothing = []
entries_in (found es rest) = es

unfoldable pub account_by : Message → List ℕ → Seen → Account
account_by m l s =
    record {
      rejects = s.rejects;
      lacks = s.lacks;
      ordered = s.ordered;
      last = s.last;
      has_transaction = s.identified;
      has_requested = s.counted;
      says =
          record {
            transaction = s.transaction;
            requested = s.requested;
            cells = rows_in (entries_in (list_at m l s.start s.end));
            cancels_all = s.all;
            notifies = s.noted;
            identifier = s.identifier;
            serial = s.serial;
          };
    }

-- without a list there is none to lie anywhere; a list is whole, and if nothing is lacking every item of it is a cell's, and it is known whether they ascend
abbrev pub WholeList : (end : ℕ) (lacks ascends : Bool) → Found (List (Element Entry)) → Type 0
WholeList end lacks ascends nothing = (end ≡ 0) × (ascends ≡ true)
WholeList end lacks ascends (found es []) = lacks ≡ false → (any foreign_entry es ≡ false) × (ascends ≡ ascending (identities (rows_in es)))
WholeList end lacks ascends (found es (b ∷ bs)) = ⊥

-- where the list lies is in the bytes
pub record Lies (m : Message) (l : List ℕ) (s : Seen) : Type 0 where
  pub begins : s.start ≤ s.end
  pub ends : s.end ≤ length l
  pub list : WholeList s.end s.lacks s.ascends (list_at m l s.start s.end)

-- PWS CANCEL REQUEST: the record that it becomes, and what reading it leaves.
use Rattle.std.specs.Prelude.{Bool, cond, List, [], ◌∷◌, ◌++◌, ℕ, ◌+◌, ◌*◌, length}
use Rattle.rules.specs.Layout.{current, record_size, item_size}
use Rattle.rules.specs.Record.{cancel_or_kill, no_area, cell_area, record_bytes}
use Rattle.rules.specs.Reply.{identities}
use Rattle.rules.specs.Refusals.{Test, test, first_of, cancels_some, fits_in, Verdict}
use Rattle.rules.specs.Applied.{fill}
use Rattle.rules.specs.declared.Request.{Request}
use Rattle.rules.specs.declared.Refusal.TheVariants.{CancelsNothing, ShortBuffer}
use Rattle.wire.specs.MessageRefusals.{message_tests}
use Rattle.wire.specs.MessageSaid.{Said, said_in}
use Rattle.wire.specs.MessageOutcome.{MessageOutcome, transaction_by, with_transaction}
use Rattle.wire.specs.declared.Message.TheVariants.{CancelRequest}

-- ---- the record

-- the cells that it names
abbrev pub named : Said → List ℕ
named c = identities c.cells

-- flag 2 for cancel-all, flag 4 for a notification
abbrev pub flags_of : Bool → Bool → ℕ
flags_of all notified = cond all 2 0 + cond notified 4 0

-- no area without a list
abbrev pub area_named : List ℕ → ℕ
area_named [] = no_area
area_named (x ∷ xs) = cell_area

unfoldable pub cancel_request : Said → Request
cancel_request c =
    record {
      kind = cancel_or_kill;
      flags = flags_of c.cancels_all c.notifies;
      area = area_named (named c);
      identifier = c.identifier;
      serial = c.serial;
      content = 0;
      period = record { 0 = 0 };
      requested = record { 0 = c.requested };
      sib = 0;
    }

-- ---- reading: 13 to 16, "then 7 and 8 of document 01"

abbrev pub record_room : Said → ℕ
record_room c = record_size + item_size current * length (named c)

-- 7, then 8
abbrev pub later_tests : Said → ℕ → List Test
later_tests c room = test (cancels_some (cancel_request c)) CancelsNothing ∷ test (fits_in (record_room c) room) ShortBuffer ∷ []

abbrev pub cancel_tests : List ℕ → ℕ → List Test
cancel_tests b room = message_tests CancelRequest b ++ later_tests (said_in CancelRequest b) room

unfoldable pub cancel_verdict : List ℕ → ℕ → Verdict
cancel_verdict b room = first_of (cancel_tests b room)

unfoldable pub record_of : Said → List ℕ
record_of c = record_bytes (cancel_request c) (named c)

unfoldable pub cancel_read : List ℕ → List ℕ → MessageOutcome
cancel_read b buffer =
    with_transaction (fill (cancel_verdict b (length buffer)) (record_of (said_in CancelRequest b)) buffer) (transaction_by (cancel_verdict b (length buffer)) (said_in CancelRequest b).transaction)

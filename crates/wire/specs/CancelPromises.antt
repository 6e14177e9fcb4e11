-- What is promised of a PWS CANCEL REQUEST and of what reading it leaves, whatever code reads it.
use Rattle.std.specs.Prelude.{◌≡◌, true, List, [], ℕ, length, Ok, Err}
use Rattle.octets.specs.Runs.{Bytes}
use Rattle.rules.specs.Record.{items_of}
use Rattle.rules.specs.Refusals.{Exact}
use Rattle.rules.specs.Applied.{written, read_of}
use Rattle.rules.specs.declared.Refusal.{Refusal}
use Rattle.formats.specs.Format.{found}
use Rattle.wire.specs.Frame.{Frame}
use Rattle.wire.specs.MessageTree.{Elements, message}
use Rattle.wire.specs.MessageRefusals.{is_this, message_verdict}
use Rattle.wire.specs.MessageSaid.{said_in}
use Rattle.wire.specs.MessagePromises.{bare}
use Rattle.wire.specs.CancelRead.{named, cancel_request, cancel_tests, cancel_verdict, record_of, cancel_read}
use Rattle.wire.specs.MessageOutcome.{transaction_by, with_transaction, refused}
use Rattle.wire.specs.declared.Message.TheVariants.{CancelRequest}

-- ---- "messages that differ only in these yield the same record": the same number, transaction identifier, length and record, whatever the buffer

abbrev pub SameRecord : Type 0
SameRecord =
    (b c buffer : List ℕ) (f g : Frame Elements) → (message CancelRequest).parse b ≡ found f [] → (message CancelRequest).parse c ≡ found g []
    → is_this CancelRequest b ≡ true → is_this CancelRequest c ≡ true → bare f.value ≡ bare g.value → cancel_read b buffer ≡ cancel_read c buffer

-- ---- a refusal leaves every byte, and gives 0 for all but its number

pub record Refusing : Type 0 where
  -- each number is given exactly if its test is the first that fails
  pub exact : (b : List ℕ) (room : ℕ) → Exact (cancel_verdict b room) (cancel_tests b room)
  pub leaves : (b buffer : List ℕ) (x : Refusal) → cancel_verdict b (length buffer) ≡ Err x → cancel_read b buffer ≡ refused x buffer

-- ---- the record is the one that the writer writes, and the reader takes it

pub record LegalRecord : Type 0 where
  pub writer : (b buffer : List ℕ) → Bytes b → message_verdict CancelRequest b ≡ Ok tt
      → cancel_read b buffer ≡ with_transaction (written (cancel_request (said_in CancelRequest b)) (named (said_in CancelRequest b)) buffer) (transaction_by (cancel_verdict b (length buffer)) (said_in CancelRequest b).transaction)
  pub reads : (b buffer : List ℕ) → Bytes b → cancel_verdict b (length buffer) ≡ Ok tt
      → (read_of (record_of (said_in CancelRequest b)) ≡ record { number = 0; request = cancel_request (said_in CancelRequest b); items = length (named (said_in CancelRequest b)) })
      × (items_of (record_of (said_in CancelRequest b)) ≡ named (said_in CancelRequest b))

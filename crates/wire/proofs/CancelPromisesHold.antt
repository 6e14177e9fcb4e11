-- The promises of a PWS CANCEL REQUEST hold. What is skipped changes neither verdict nor what is said; a refusal's number is the law of tests in order, and
-- what it leaves is computed; where 13 to 16 are passed, the reader's verdict is the writer's.
use lib.ListN.{length}
use Rattle.rules.specs.Applied.{fill, written}
use Rattle.rules.proofs.VerdictLaws.{first_append}
use Rattle.rules.proofs.VerdictsHold.{first-exact}
use Rattle.wire.specs.MessageRefusals.{message_tests, message_verdict}
use Rattle.wire.specs.MessageSaid.{said_in}
use Rattle.wire.specs.CancelRead.{later_tests, cancel_tests, cancel_verdict, record_of, cancel_read}
use Rattle.wire.specs.CancelPromises.{SameRecord, Refusing, LegalRecord}
use Rattle.wire.specs.declared.Message.TheVariants.{CancelRequest}
use Rattle.wire.proofs.MessagePromisesHold.{skipping}
use Rattle.wire.proofs.CancelRecordLaws.{same-verdict, message-reads}

pub same-record : SameRecord
unfolding cancel_read cancel_verdict message_verdict
same-record b c buffer f g p q s t e =
    let alike = (skipping CancelRequest).same b c f g p q s t e in
    rw (first_append (message_tests CancelRequest b) (later_tests (said_in CancelRequest b) (length buffer)), first_append (message_tests CancelRequest c) (later_tests (said_in CancelRequest c) (length buffer)), alike.0, alike.1)

pub refusing : Refusing
unfolding cancel_verdict cancel_read fill
refusing =
    record {
      exact = λ b room. first-exact (cancel_tests b room);
      leaves = λ b buffer x e. rw e;
    }

pub legal-record : LegalRecord
unfolding cancel_read written record_of
legal-record =
    record {
      writer = λ b buffer bytes e. rw (same-verdict b (length buffer) bytes e);
      reads = λ b buffer bytes e. message-reads b (length buffer) bytes e;
    }

-- What reading a message leaves, by its verdict: the message's own tests come first, and of a fit one the record decides.
use Rattle.std.specs.Prelude.{Err}
use mathlib.Core.Path.{◌≡◌, ap, ◌∙◌}
use mathlib.Core.List.{List}
use Prim.Native.Nat.{ℕ}
use lib.ListN.{length}
use Rattle.rules.specs.Refusals.{◌then◌, first_of, Verdict, Writing}
use Rattle.rules.specs.Applied.{fill, filled_by}
use Rattle.rules.specs.declared.Refusal.{Refusal}
use Rattle.rules.proofs.VerdictLaws.{first_append}
use Rattle.wire.specs.MessageRefusals.{message_tests, message_verdict}
use Rattle.wire.specs.MessageSaid.{Said, said_in}
use Rattle.wire.specs.MessageOutcome.{taken_by}
use Rattle.wire.specs.declared.Message.TheVariants.{CancelRequest}
use Rattle.wire.specs.CancelRead.{later_tests, cancel_verdict, record_of, cancel_read}
use Rattle.wire.proofs.TakingLaws.{taking, taking_outcome}
use Rattle.wire_judge.specs.Account.{account_by}
use Rattle.wire_judge.specs.Readers.{FitMessage}
use Rattle.wire_judge.specs.declared.Seen.{Seen}
use Rattle.wire_judge.proofs.LentLaws.{lent, said-lent}
use Rattle.wire_cancel.specs.Taken.{recorded}

-- ---- the message's own tests come first

verdict_chain : (b : List ℕ) (room : ℕ) → cancel_verdict b room ≡ message_verdict CancelRequest b then first_of (later_tests (said_in CancelRequest b) room)
unfolding cancel_verdict message_verdict
verdict_chain b room = first_append (message_tests CancelRequest b) (later_tests (said_in CancelRequest b) room)

-- ---- a message

pub not_taken : (b before : List ℕ) (x : Refusal) → message_verdict CancelRequest b ≡ Err x → taken_by (Err x) before ≡ cancel_read b before
unfolding cancel_read fill
not_taken b before x e = rw (verdict_chain b (length before), e)

module _ (b : List ℕ) (start : ℕ) (s : Seen) (fit : FitMessage CancelRequest b start s) where
  module _ (before : List ℕ) (w : Writing) (buffer : List ℕ) (put : filled_by w buffer ≡ recorded (account_by CancelRequest (lent CancelRequest b start s fit) s).says before) where
    said-transaction : s.transaction ≡ (said_in CancelRequest b).transaction
    unfolding account_by
    said-transaction = ap (λ (c : Said). c.transaction) (said-lent CancelRequest b start s fit)

    decided : cancel_verdict b (length before) ≡ first_of (later_tests (said_in CancelRequest b) (length before))
    decided = verdict_chain b (length before) ∙ ap (λ (v : Verdict). v then first_of (later_tests (said_in CancelRequest b) (length before))) fit.accepted

    filled : filled_by w buffer ≡ fill (first_of (later_tests (said_in CancelRequest b) (length before))) (record_of (said_in CancelRequest b)) before
    unfolding recorded
    filled = put ∙ ap (λ (c : Said). recorded c before) (said-lent CancelRequest b start s fit)

    pub fit-taken : taken_by (taking w s.transaction) buffer ≡ cancel_read b before
    unfolding cancel_read
    fit-taken =
        rw (said-transaction, decided)
        (taking_outcome (first_of (later_tests (said_in CancelRequest b) (length before))) (record_of (said_in CancelRequest b)) before (said_in CancelRequest b).transaction w buffer filled)

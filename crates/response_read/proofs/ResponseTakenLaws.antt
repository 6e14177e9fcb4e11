-- What reading a response leaves, by its verdict: the message's own tests come first, and of a fit one the answer decides.
use Rattle.std.specs.Prelude.{Ok, Err}
use mathlib.Core.Path.{◌≡◌, sym, ap, ap₂, ◌∙◌}
use mathlib.Core.List.{List}
use Prim.Native.Nat.{ℕ, ◌-◌}
use lib.ListN.{length, take, drop}
use Rattle.octets.specs.Runs.{Bytes}
use Rattle.rules.specs.Layout.{current}
use Rattle.rules.specs.Answer.{answer_bytes}
use Rattle.rules.specs.Refusals.{first_of, Verdict, Writing}
use Rattle.rules.specs.Applied.{fill, filled_by}
use Rattle.rules.specs.declared.Refusal.{Refusal}
use Rattle.wire.specs.MessageRefusals.{message_verdict}
use Rattle.wire.specs.MessageSaid.{Said, said_in}
use Rattle.wire.specs.MessageOutcome.{refused, taken_by}
use Rattle.wire.specs.declared.Message.{Message}
use Rattle.wire.proofs.TakingLaws.{taking, taking_outcome}
use Rattle.wire_judge.specs.Account.{account_by}
use Rattle.wire_judge.specs.Readers.{FitMessage}
use Rattle.wire_judge.specs.declared.Seen.{Seen}
use Rattle.wire_judge.proofs.LentLaws.{lent, said-lent}
use Rattle.responses.specs.ResponseRead.{kind_answered, unnamed, row_tests, response_read}
use Rattle.responses.proofs.ReadLaws.{left_by_lem}
use Rattle.response_read.specs.Left.{meant_by, answer_left}
use Rattle.response_read.proofs.MeantLaws.{meant-left}

-- ---- what was seen in a fit message decides

module _ (m : Message) (b : List ℕ) (start : ℕ) (s : Seen) (fit : FitMessage m b start s) where
  module _ (before : List ℕ) (w : Writing) (buffer : List ℕ) (put : filled_by w buffer ≡ answer_left (kind_answered m) (account_by m (lent m b start s fit) s).says.cells before) where
    lent-taken : taken_by (taking w s.transaction) buffer ≡ left_by_lem m (Ok tt) (account_by m (lent m b start s fit) s).says before
    unfolding answer_left account_by
    lent-taken =
        let rows = (account_by m (lent m b start s fit) s).says.cells in
        taking_outcome (first_of (row_tests rows (length before))) (answer_bytes current (unnamed (kind_answered m) rows)) before s.transaction w buffer put

    fit-left : taken_by (taking w s.transaction) buffer ≡ left_by_lem m (message_verdict m b) (said_in m b) before
    fit-left = lent-taken ∙ ap₂ (λ (v : Verdict) (c : Said). left_by_lem m v c before) (sym fit.accepted) (said-lent m b start s fit)

refused-left : (m : Message) (b before : List ℕ) (x : Refusal) → message_verdict m b ≡ Err x → refused x before ≡ left_by_lem m (message_verdict m b) (said_in m b) before
unfolding fill
refused-left m b before x e = rw e

-- ---- judged as the message that is meant

module _ (m : Message) (b : List ℕ) (bytes : Bytes b) (meant : m ≡ meant_by b) where
  left_as : (before : List ℕ) → left_by_lem m (message_verdict m b) (said_in m b) before ≡ response_read b before
  left_as before = ap (λ (n : Message). left_by_lem n (message_verdict n b) (said_in n b) before) meant ∙ meant-left b before bytes

  pub not_taken : (before : List ℕ) (x : Refusal) → message_verdict m b ≡ Err x → refused x before ≡ response_read b before
  not_taken before x e = refused-left m b before x e ∙ left_as before

  pub fit-taken : (start : ℕ) (s : Seen) → FitMessage m b start s → (before : List ℕ) (w : Writing) (buffer : List ℕ)
      → filled_by w buffer ≡ answer_left (kind_answered m) (account_by m (take (length b - start) (drop start b)) s).says.cells before
      → taken_by (taking w s.transaction) buffer ≡ response_read b before
  fit-taken start s fit before w buffer put = fit-left m b start s fit before w buffer put ∙ left_as before

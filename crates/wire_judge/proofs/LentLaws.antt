-- The part of a fit message that is lent on, all that stands behind its frame: the list lies there as it did, and it says what the message says.
use mathlib.Core.Path.{◌≡◌, sym, ap, ◌∙◌}
use mathlib.Core.List.{List}
use Prim.Native.Nat.{ℕ, ◌-◌}
use native.Mathlib.Omega.{arith}
use lib.ListN.{length, take, drop, length-drop}
use lib.Seq.{take_all}
use Rattle.wire.specs.MessageSaid.{said_in}
use Rattle.wire.specs.declared.Message.{Message}
use Rattle.wire_judge.specs.Account.{account_by, Lies}
use Rattle.wire_judge.specs.Readers.{FitMessage}
use Rattle.wire_judge.specs.declared.Seen.{Seen}

module _ (m : Message) (b : List ℕ) (start : ℕ) (s : Seen) (fit : FitMessage m b start s) where
  abbrev pub lent : List ℕ
  lent = take (length b - start) (drop start b)

  all_lent : lent ≡ drop start b
  all_lent = take_all (length b - start) (drop start b) (rw length-drop (omega arith))

  pub lent-lies : Lies m lent s
  lent-lies = rw all_lent fit.lies

  pub said-lent : (account_by m lent s).says ≡ said_in m b
  said-lent = ap (λ (l : List ℕ). (account_by m l s).says) all_lent ∙ sym fit.says

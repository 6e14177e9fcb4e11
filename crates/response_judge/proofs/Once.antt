-- One outcome only: which of 13 to 16 a response gets, or what a fit one says, the contract of `judge` settles. Where its list lies is told besides.
use Rattle.std.specs.Prelude.{Option, Some, Result, Ok, Err}
use Rattle.std.specs.Option.{option_map}
use mathlib.Core.Path.{◌≡◌}
use mathlib.Core.List.{List}
use Prim.Native.Nat.{ℕ}
use Rattle.octets.specs.Settled.{Settles, SettlesResult}
use Rattle.octets.proofs.Once.{one-outcome}
use Rattle.rules.specs.declared.Refusal.{Refusal}
use Rattle.aper.specs.Readers.{ElementAt}
use Rattle.wire.specs.declared.Message.{Message}
use Rattle.wire_judge.specs.Readers.{turn_by, JudgedAs}
use Rattle.wire_judge.specs.declared.Seen.{Seen}
use Rattle.wire_judge.specs.declared.Judged.{Judged}
use Rattle.wire_judge.proofs.Once.{judged_to, settled, told_of}
use Rattle.response_judge.specs.Met.{seen_of}
use Rattle.response_judge.specs.declared.Met.{Met}
use Rattle.response_judge.proofs.judge.Reads as judge
use Rattle.response_judge.proofs.MetKept.nothing.Reads as nothing
use Rattle.response_judge.proofs.MetKept.with.Reads as with
use Rattle.response_judge.proofs.MetKept.rejects.Reads as rejects
use Rattle.response_judge.proofs.MetKept.is_complete.Reads as is_complete_lem

-- as any message is judged
abbrev pub as_any : Result (Judged Met) Refusal → Result (Judged Seen) Refusal
as_any (Ok j) = Ok (record { start = j.start; kept = seen_of j.kept })
as_any (Err x) = Err x

pub as_any_lem : (m : Message) (b : List ℕ) (r : Result (Judged Met) Refusal) → JudgedAs seen_of m b r → JudgedAs (λ s. s) m b (as_any r)
as_any_lem m b (Ok j) p = p
as_any_lem m b (Err x) p = p

pub judge_once : (κ : _) (args : _) (r s : Result (Judged Met) Refusal) (e f : _) → judge.Learnt κ args r e → judge.Learnt κ args s f
    → judged_to seen_of args.0 args.1.0.now r ≡ judged_to seen_of args.0 args.1.0.now s
judge_once κ args r s e f p q = settled seen_of args.0 args.1.0.now r s p q

-- what is met in the elements

pub nothing_once : Settles nothing.Learnt (λ κ r e. seen_of r)
nothing_once κ args r s e f = one-outcome

pub with_once : (κ : _) (args : _) (r s : Option Met) (e f : _) → with.Learnt κ args r e → with.Learnt κ args s f
    → (at : ℕ) → ElementAt args.1.1.0.now at (Some args.1.1.1.0)
    → turn_by args.1.0 args.1.1.0.now args.1.1.1.0.end (option_map seen_of r) ≡ turn_by args.1.0 args.1.1.0.now args.1.1.1.0.end (option_map seen_of s)
with_once κ args r s e f p q = told_of args.1.0 args.1.1.0.now (seen_of args.0) args.1.1.1.0 (option_map seen_of r) (option_map seen_of s) p q

pub rejects_once : SettlesResult rejects.Learnt
rejects_once κ args r s e f = one-outcome

pub is_complete_once : SettlesResult is_complete_lem.Learnt
is_complete_once κ args r s e f = one-outcome

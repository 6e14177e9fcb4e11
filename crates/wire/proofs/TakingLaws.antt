-- What a reader's answer says of all that it leaves: it is one answer and one buffer, and where a buffer was filled by a verdict it says what the definition of
-- reading says of that verdict.
use Rattle.std.specs.Prelude.{Ok, Err}
use mathlib.Core.Path.{◌≡◌, ap}
use mathlib.Core.List.{List}
use Prim.Native.Nat.{ℕ}
use native.Mathlib.Omega.{arith}
use Rattle.rules.specs.Refusals.{number_of, Verdict, Writing}
use Rattle.rules.specs.Applied.{Filled, fill, filled_by}
use Rattle.rules.proofs.OutcomeLaws.{number_positive}
use Rattle.rules.proofs.OnceLaws.{number_injective}
use Rattle.wire.specs.MessageOutcome.{MessageOutcome, transaction_by, with_transaction, Taking, taken_by}

-- ---- one outcome: number, transaction identifier and length settle the case

pub taking_settled : (x y : Taking) (a b : List ℕ) → taken_by x a ≡ taken_by y b → x ≡ y
taking_settled (Ok r) (Ok s) a b e =
    let transaction : r.transaction ≡ s.transaction = ap (λ (o : MessageOutcome). o.transaction) e in
    let size : r.length ≡ s.length = ap (λ (o : MessageOutcome). o.length) e in
    rw (transaction, size)
taking_settled (Ok r) (Err y) a b e =
    let z = ap (λ (o : MessageOutcome). o.number) e in
    absurd (omega (arith, number_positive y))
taking_settled (Err x) (Ok s) a b e =
    let z = ap (λ (o : MessageOutcome). o.number) e in
    absurd (omega (arith, number_positive x))
taking_settled (Err x) (Err y) a b e = ap Err (number_injective x y (ap (λ (o : MessageOutcome). o.number) e))

pub left_settled : (x y : Taking) (a b : List ℕ) → taken_by x a ≡ taken_by y b → a ≡ b
left_settled (Ok r) (Ok s) a b e = ap (λ (o : MessageOutcome). o.buffer) e
left_settled (Ok r) (Err y) a b e = ap (λ (o : MessageOutcome). o.buffer) e
left_settled (Err x) (Ok s) a b e = ap (λ (o : MessageOutcome). o.buffer) e
left_settled (Err x) (Err y) a b e = ap (λ (o : MessageOutcome). o.buffer) e

-- ---- by what was written or was not

abbrev pub taking : Writing → ℕ → Taking
taking (Ok n) t = Ok (record { transaction = t; length = n })
taking (Err x) t = Err x

pub taking_outcome : (v : Verdict) (bs before : List ℕ) (t : ℕ) (w : Writing) (buffer : List ℕ) → filled_by w buffer ≡ fill v bs before
    → taken_by (taking w t) buffer ≡ with_transaction (fill v bs before) (transaction_by v t)
unfolding fill
taking_outcome (Ok tt) bs before t (Ok n) buffer e = ap (λ (f : Filled). with_transaction f t) e
taking_outcome (Ok tt) bs before t (Err x) buffer e =
    let z : number_of x ≡ 0 = ap (λ (f : Filled). f.number) e in
    absurd (omega (arith, number_positive x))
taking_outcome (Err x) bs before t (Ok n) buffer e =
    let z : 0 ≡ number_of x = ap (λ (f : Filled). f.number) e in
    absurd (omega (arith, number_positive x))
taking_outcome (Err x) bs before t (Err y) buffer e = ap (λ (f : Filled). with_transaction f 0) e

-- Two bits as a criticality: of the fourth value there is none, and what else it says is whether they are those of reject.
use Rattle.std.specs.Prelude.{Bool, Some, Result, Ok, Err}
use Rattle.std.specs.Result.{is_ok, is_err, result_ok}
use Rattle.std.proofs.lemmas.Option.{none-some, same_Some}
use mathlib.Core.Path.{◌≡◌, refl, sym, ap, ◌∙◌}
use mathlib.Core.Bool.{true, false, false≢true}
use Prim.Native.Nat.{ℕ, ◌<◌, ◌≤◌}
use native.Mathlib.Omega.{arith}
use lib.Dec.{eqb, ltb}
use borrow.Author.Tests.{lt-ltb, le-ltb}
use denote.Enum.Bare.{sameb}
use Rattle.aper.specs.Readers.{bits_of, CriticalityOf}
use Rattle.aper.specs.contracts.Criticality.{the_type}
use Rattle.aper.specs.declared.Criticality.{Criticality}
use Rattle.aper.specs.declared.Criticality.TheVariants.{Reject, Ignore, Notify}
use Rattle.aper.specs.declared.NoCriticality.{NoCriticality}

pub no_criticality : (n : ℕ) (r : Result Criticality NoCriticality) → CriticalityOf n r → false ≡ is_ok r → 3 ≤ n
no_criticality n (Ok c) read e = absurd (false≢true e)
no_criticality n (Err x) read e = read

pub criticality_small : (c : Criticality) → bits_of c < 3
criticality_small Reject = omega arith
criticality_small Ignore = omega arith
criticality_small Notify = omega arith

some_criticality : (n : ℕ) (r : Result Criticality NoCriticality) → CriticalityOf n r → {c : Criticality} → Some c ≡ result_ok r → bits_of c ≡ n
some_criticality n (Ok d) read {c} e = ap bits_of (same_Some c d e) ∙ read
some_criticality n (Err x) read {c} e = absurd (none-some c (sym e))

criticality-rejects : (c : Criticality) → sameb the_type c Reject ≡ eqb (bits_of c) 0
criticality-rejects Reject = refl
criticality-rejects Ignore = refl
criticality-rejects Notify = refl

-- of what is a criticality: there are three, and whether it is reject is told by the bits
pub criticality-said : (n : ℕ) (r : Result Criticality NoCriticality) → CriticalityOf n r → {c : Criticality} → Some c ≡ result_ok r → {b : Bool} → b ≡ sameb the_type c Reject
    → (n < 3) × (b ≡ eqb n 0)
criticality-said n r read {c} e {b} test =
    let bits = some_criticality n r read e in
    let small = criticality_small c in
    (omega (arith, small, bits), test ∙ criticality-rejects c ∙ ap (λ (k : ℕ). eqb k 0) bits)

-- whether two bits are a criticality
pub criticality_test : (n : ℕ) (r : Result Criticality NoCriticality) → CriticalityOf n r → is_ok r ≡ ltb n 3
criticality_test n (Ok c) read = let small = criticality_small c in sym (lt-ltb n 3 (omega (arith, small, read)))
criticality_test n (Err x) read = sym (le-ltb n 3 read)

pub criticality_err : (n : ℕ) (r : Result Criticality NoCriticality) → CriticalityOf n r → true ≡ is_err r → 3 ≤ n
criticality_err n (Ok c) read e = absurd (false≢true (sym e))
criticality_err n (Err x) read e = read

pub criticality_ok : (n : ℕ) (r : Result Criticality NoCriticality) → CriticalityOf n r → false ≡ is_err r → n < 3
criticality_ok n (Ok c) read e = let small = criticality_small c in omega (arith, small, read)
criticality_ok n (Err x) read e = absurd (false≢true e)

-- One outcome only, said of a contract itself, as the checker reads it: `Learnt`, what a caller learns of a call's lifetimes, arguments, result and arguments at exit.
use Rattle.std.specs.Prelude.{◌≡◌}

-- two calls with the same arguments have the same `out`, a part of what is returned and left
abbrev pub Settles : {K : Type 0} {A R E : K → Type 0} {X : Type 0} → ((κ : K) → A κ → R κ → E κ → Type 0) → ((κ : K) → R κ → E κ → X) → Type 0
Settles {K} {A} {R} {E} Learnt out =
    (κ : K) (args : A κ) (r s : R κ) (e f : E κ) → Learnt κ args r e → Learnt κ args s f → out κ r e ≡ out κ s f

-- what is returned
abbrev pub SettlesResult : {K : Type 0} {A E : K → Type 0} {R : Type 0} → ((κ : K) → A κ → R → E κ → Type 0) → Type 0
SettlesResult Learnt = Settles Learnt (λ κ r e. r)

-- Bits in whole bytes keep the laws of a format; and numbers below what their bits set are a value of them: joined, they are below what all bits together set,
-- and are cut as they were. By the fields, with one digit of a number for each.
use mathlib.Core.Path.{◌≡◌, refl, sym, subst, ◌∙◌}
use mathlib.Core.Bool.{true}
use mathlib.Core.List.{List, [], ◌∷◌}
use Prim.Native.Nat.{ℕ, zero, suc, ◌+◌, ◌*◌, ◌/◌, ◌%◌, ◌^◌, ◌<◌}
use native.Mathlib.Nat.{mod-lt, div-add-mod', pow-succ', mod-eq_of_lt, div-eq_of_lt}
use native.Mathlib.Omega.{arith}
use lib.Arith.{digits_lt, digits_div, digits_mod}
use lib.Dec.{eqb}
use lib.Pow.{pow-add}
use borrow.Author.Tests.{eqb-true}
use Rattle.formats.specs.Format.{number, only, as_if}
use Rattle.formats.specs.Bits.{Field, says, pad, width, joined, cut, padded, bits}
use Rattle.rules.proofs.TestLaws.{both}
use Rattle.formats.proofs.FormatLaws.{Lawful, number_lawful, only_lawful, as_if_lawful}

pub pow_pos2 : (w : ℕ) → 0 < 2 ^ w
pow_pos2 zero = omega arith
pow_pos2 (suc w) = rw pow-succ' (let p : 0 < 2 ^ w = pow_pos2 w in omega arith)

pub joined-cut : (fs : List Field) (n : ℕ) → n < 2 ^ width fs → padded fs n ≡ true → joined fs (cut fs n) ≡ n
unfolding width joined cut padded
joined-cut [] n h t = omega arith
joined-cut (says w ∷ fs) n h t =
    rw (joined-cut fs (n % 2 ^ width fs) (mod-lt n (pow_pos2 (width fs))) t) (div-add-mod' n (2 ^ width fs))
joined-cut (pad w ∷ fs) n h t =
    let two = both (eqb (n / 2 ^ width fs) 0) (padded fs (n % 2 ^ width fs)) t in
    let none : n / 2 ^ width fs ≡ 0 = eqb-true (n / 2 ^ width fs) 0 two.0 in
    let all : n / 2 ^ width fs * 2 ^ width fs + n % 2 ^ width fs ≡ n = div-add-mod' n (2 ^ width fs) in
    joined-cut fs (n % 2 ^ width fs) (mod-lt n (pow_pos2 (width fs))) two.1 ∙ rest n (n / 2 ^ width fs) (2 ^ width fs) (n % 2 ^ width fs) none all
  where
    rest : (n q m r : ℕ) → q ≡ 0 → q * m + r ≡ n → r ≡ n
    rest n q m r e p = let f : 0 * m + r ≡ n = rw e at p in omega arith

pub bits_lawful : (k : ℕ) (fs : List Field) → 2 ^ width fs ≡ 256 ^ k → Lawful (bits k fs)
unfolding bits
bits_lawful k fs e = as_if_lawful (cut fs) (joined fs) (only (padded fs) (number k)) again (only_lawful (padded fs) (number k) (number_lawful k))
  where
    again : (n : ℕ) → (only (padded fs) (number k)).fits n → joined fs (cut fs n) ≡ n
    again n h = unfold only number in joined-cut fs n (subst (λ (m : ℕ). n < m) (sym e) h.0) h.1

-- ---- a value of them

-- a number for each field that says one
pub data Fit : List Field → List ℕ → Type 0 where
  none : Fit [] []
  said : {w v : ℕ} {fs : List Field} {vs : List ℕ} → v < 2 ^ w → Fit fs vs → Fit (says w ∷ fs) (v ∷ vs)
  blank : {w : ℕ} {fs : List Field} {vs : List ℕ} → Fit fs vs → Fit (pad w ∷ fs) vs

joined_lt : {fs : List Field} {vs : List ℕ} → Fit fs vs → joined fs vs < 2 ^ width fs
unfolding joined width
joined_lt none = omega arith
joined_lt (said {w} {v} {fs} {vs} h r) = rw (pow-add) (digits_lt h (joined_lt r))
joined_lt (blank {w} {fs} {vs} r) =
    rw (pow-add) (let lt : 0 * 2 ^ width fs + joined fs vs < 2 ^ w * 2 ^ width fs = digits_lt (pow_pos2 w) (joined_lt r) in omega arith)

cut-joined : {fs : List Field} {vs : List ℕ} → Fit fs vs → cut fs (joined fs vs) ≡ vs
unfolding joined cut
cut-joined none = refl
cut-joined (said {w} {v} {fs} {vs} h r) = rw (digits_div v (joined_lt r), digits_mod v (joined_lt r), cut-joined r)
cut-joined (blank {w} {fs} {vs} r) = rw (mod-eq_of_lt (joined_lt r), cut-joined r)

padded-joined : {fs : List Field} {vs : List ℕ} → Fit fs vs → padded fs (joined fs vs) ≡ true
unfolding joined padded
padded-joined none = refl
padded-joined (said {w} {v} {fs} {vs} h r) = rw (digits_mod v (joined_lt r), padded-joined r)
padded-joined (blank {w} {fs} {vs} r) = rw (mod-eq_of_lt (joined_lt r), div-eq_of_lt (joined_lt r), padded-joined r)

pub bits_fit : (k : ℕ) (fs : List Field) → 2 ^ width fs ≡ 256 ^ k → (vs : List ℕ) → Fit fs vs → (bits k fs).fits vs
unfolding bits as_if only number
bits_fit k fs e vs h = ((subst (λ (m : ℕ). joined fs vs < m) e (joined_lt h), padded-joined h), cut-joined h)

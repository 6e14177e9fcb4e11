-- Lengths that fit their bytes, met one after the other: they add up to the bytes, and none is too long.
-- A length that fits is taken off what is left, so that the rest has to fit the rest.
use mathlib.Core.Path.{◌≡◌, refl, sym, ap, ◌∙◌}
use mathlib.Core.Bool.{Bool, true, false, ◌&&◌}
use mathlib.Core.List.{List, [], ◌∷◌}
use Prim.Native.Nat.{ℕ, suc, ◌+◌, ◌-◌, ◌<◌, ◌≤◌}
use native.Mathlib.Omega.{arith}
use lib.Dec.{eqb, leb}
use lib.ListN.{length, get_or, drop, drop_of_length-le}
use lib.Seq.{drop-cons}
use borrow.Author.Tests.{le-leb, lt-leb, leb-true, eq-eqb, ne_eqb, eqb-true, eqb-false}
use Rattle.rules.specs.Lists.{every}
use Rattle.rules.proofs.TestLaws.{by_test, both}
use Rattle.segments.specs.Segments.{longest_segment, total, lengths_fit}

-- ---- lengths, one after the other

less_left : (n t b : ℕ) → n ≤ b → eqb (n + t) b ≡ eqb t (b - n)
less_left n t b h =
    by_test (eqb t (b - n))
    (λ e.
    let s = eqb-true t (b - n) e in
    eq-eqb (n + t) b (omega arith) ∙ sym e)
    (λ e.
    let s = eqb-false t (b - n) e in
    ne_eqb (n + t) b (λ (q : n + t ≡ b). s (omega arith)) ∙ sym e)

module _ (n : ℕ) (ns : List ℕ) (b : ℕ) where
  pub fit_next : n ≤ longest_segment → n ≤ b → lengths_fit (n ∷ ns) b ≡ lengths_fit ns (b - n)
  unfolding lengths_fit total every
  fit_next short h = rw (less_left n (total ns) b h, le-leb n longest_segment short)

  fit_too_long : longest_segment < n → lengths_fit (n ∷ ns) b ≡ false
  unfolding lengths_fit total every
  fit_too_long h = rw (lt-leb n longest_segment h) (never (eqb (n + total ns) b))
    where
      never : (x : Bool) → x && false ≡ false
      never true = refl
      never false = refl

  fit-too_many : b < n → lengths_fit (n ∷ ns) b ≡ false
  unfolding lengths_fit total
  fit-too_many h = rw (ne_eqb (n + total ns) b (λ (q : n + total ns ≡ b). omega arith))

  -- and back: lengths that fit begin with one that does
  pub fit-first : lengths_fit (n ∷ ns) b ≡ true → (n ≤ longest_segment) × (n ≤ b)
  unfolding lengths_fit total every
  fit-first e =
      let h = both (eqb (n + total ns) b) (leb n longest_segment && every (λ m. leb m longest_segment) ns) e in
      let sum = eqb-true (n + total ns) b h.0 in
      let short = both (leb n longest_segment) (every (λ m. leb m longest_segment) ns) h.1 in
      (leb-true n longest_segment short.0, omega arith)

pub fit_none : (b : ℕ) → lengths_fit [] b ≡ eqb b 0
unfolding lengths_fit total every
fit_none b =
    by_test (eqb b 0)
    (λ e.
    let z = eqb-true b 0 e in
    rw (eq-eqb 0 b (sym z)) (sym e))
    (λ e.
    let z = eqb-false b 0 e in
    rw (ne_eqb 0 b (λ (q : ◌≡◌ {A = ℕ} 0 b). z (sym q))) (sym e))

-- ---- a loop over lengths: those still to come fit what is left

pub record StillToFit (lengths : List ℕ) (bytes left k : ℕ) : Type 0 where
  pub within : k ≤ length lengths
  pub same : lengths_fit lengths bytes ≡ lengths_fit (drop k lengths) left

pub fit-starts : (lengths : List ℕ) (bytes : ℕ) → StillToFit lengths bytes bytes 0
fit-starts lengths bytes = record { within = omega arith; same = refl }

module _ {lengths : List ℕ} {bytes left k : ℕ} (g : StillToFit lengths bytes left k) where
  module _ (more : k < length lengths) where
    here : lengths_fit lengths bytes ≡ lengths_fit (get_or lengths k 0 ∷ drop (suc k) lengths) left
    here = g.same ∙ ap (λ (ns : List ℕ). lengths_fit ns left) (drop-cons lengths k 0 more)

    pub fit-goes : get_or lengths k 0 ≤ longest_segment → get_or lengths k 0 ≤ left → StillToFit lengths bytes (left - get_or lengths k 0) (k + 1)
    fit-goes short h =
        let one : suc k ≡ k + 1 = omega arith in
        record {
          within = omega arith;
          same = here ∙ fit_next (get_or lengths k 0) (drop (suc k) lengths) left short h ∙ ap (λ (m : ℕ). lengths_fit (drop m lengths) (left - get_or lengths k 0)) one;
        }

    pub fit_fails_long : longest_segment < get_or lengths k 0 → false ≡ lengths_fit lengths bytes
    fit_fails_long h = sym (here ∙ fit_too_long (get_or lengths k 0) (drop (suc k) lengths) left h)

    pub fit_fails_many : left < get_or lengths k 0 → false ≡ lengths_fit lengths bytes
    fit_fails_many h = sym (here ∙ fit-too_many (get_or lengths k 0) (drop (suc k) lengths) left h)

  pub fit-ends : length lengths ≤ k → eqb left 0 ≡ lengths_fit lengths bytes
  fit-ends h = sym (g.same ∙ ap (λ (ns : List ℕ). lengths_fit ns left) (drop_of_length-le lengths h) ∙ fit_none left)

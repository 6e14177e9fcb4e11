-- Two orders of the same steps leave a thing the same, if they agree on the order of the steps that touch it.
-- Both orders are walked from their ends at once: a last step that does not touch is left out, and two last steps that do are one step.
use mathlib.Core.Path.{◌≡◌, refl, sym, ap, ◌∙◌}
use mathlib.Core.Bool.{Bool, true, false, false≢true}
use mathlib.Core.Logic.{◌≢◌}
use Prim.Native.Nat.{ℕ, zero, suc, ◌≤◌, ◌<◌}
use native.Mathlib.Omega.{arith}
use native.Mathlib.Decide.{ℕ_discrete, dec_lt}
use Rattle.rules.proofs.TestLaws.{by_test}

-- after the first m steps of f
unfoldable pub after : {C : Type 0} → (ℕ → C → C) → ℕ → C → C
after f zero c = c
after f (suc m) c = f m (after f m c)

-- the first step taken apart
pub after_shift : {C : Type 0} (f : ℕ → C → C) (m : ℕ) (c : C) → after f (suc m) c ≡ after (λ i. f (suc i)) m (f zero c)
unfolding after
after_shift f zero c = refl
after_shift f (suc m) c = ap (f (suc m)) (after_shift f m c)

-- f is the first order, of N steps, g the second, of M; `hit i`: step i of the first order touches the thing
pub record Orders {C : Type 0} (f g : ℕ → C → C) (hit : ℕ → Bool) (N M : ℕ) (place origin : ℕ → ℕ) : Type 0 where
  pub place_in : (i : ℕ) → i < N → place i < M
  pub origin_in : (k : ℕ) → k < M → origin k < N
  pub there_and_back : (i : ℕ) → i < N → origin (place i) ≡ i
  pub back_and_there : (k : ℕ) → k < M → place (origin k) ≡ k
  pub same : (k : ℕ) → k < M → (c : C) → g k c ≡ f (origin k) c
  pub idle : (i : ℕ) → hit i ≡ false → (c : C) → f i c ≡ c
  pub kept : (i j : ℕ) → i < j → j < N → hit i ≡ true → hit j ≡ true → place i < place j

module _ {C : Type 0} {f g : ℕ → C → C} {hit : ℕ → Bool} {N M : ℕ} {place origin : ℕ → ℕ} (o : Orders f g hit N M place origin) where
  -- the steps that touch among the first m of f are those that touch among the first k of g
  pub record Level (m k : ℕ) : Type 0 where
    pub m≤ : m ≤ N
    pub k≤ : k ≤ M
    pub up : (i : ℕ) → i < m → hit i ≡ true → place i < k
    pub down : (j : ℕ) → j < k → hit (origin j) ≡ true → origin j < m

  abbrev Equal : ℕ → ℕ → Type 0
  Equal m k = Level m k → (c : C) → after f m c ≡ after g k c

  -- a step that touches is none that does not
  other : {i j : ℕ} → hit i ≡ true → hit j ≡ false → i ≢ j
  other p q e = false≢true (sym q ∙ ap hit (sym e) ∙ p)

  -- ---- one step less

  drop-left : (m k : ℕ) → hit m ≡ false → Level (suc m) k → Level m k
  drop-left m k e l =
      record {
        m≤ = omega (arith, l.m≤);
        k≤ = l.k≤;
        up = λ i h p. l.up i (omega arith) p;
        down = λ j h p. let n = other p e in omega (arith, l.down j h p);
      }

  drop_right : (m k : ℕ) → hit (origin k) ≡ false → Level m (suc k) → Level m k
  drop_right m k e l =
      record {
        m≤ = l.m≤;
        k≤ = omega (arith, l.k≤);
        up = λ i h p.
            let n : place i ≢ k = λ q. other p e (sym (o.there_and_back i (omega (arith, l.m≤))) ∙ ap origin q) in
            omega (arith, l.up i h p);
        down = λ j h p. l.down j (omega arith) p;
      }

  drop_both : (m k : ℕ) → origin k ≡ m → Level (suc m) (suc k) → Level m k
  drop_both m k e l =
      record {
        m≤ = omega (arith, l.m≤);
        k≤ = omega (arith, l.k≤);
        up = λ i h p.
            let n : place i ≢ k = λ q. let z : i ≡ m = sym (o.there_and_back i (omega (arith, l.m≤))) ∙ ap origin q ∙ e in omega arith in
            omega (arith, l.up i (omega arith) p);
        down = λ j h p.
            let n : origin j ≢ m = λ q. let z : j ≡ k = sym (o.back_and_there j (omega (arith, l.k≤))) ∙ ap place (q ∙ sym e) ∙ o.back_and_there k l.k≤ in omega arith in
            omega (arith, l.down j (omega arith) p);
      }

  -- the last steps both touch: they are the same step
  last-same : (m k : ℕ) → hit m ≡ true → hit (origin k) ≡ true → Level (suc m) (suc k) → origin k ≡ m
  last-same m k e d l = go (ℕ_discrete (origin k) m)
    where
      go : Dec (origin k ≡ m) → origin k ≡ m
      go (yes q) = q
      go (no n) =
          let a : origin k < suc m = l.down k (omega arith) d in
          let b : place (origin k) < place m = o.kept (origin k) m (omega arith) l.m≤ d e in
          let p : place (origin k) ≡ k = o.back_and_there k l.k≤ in
          let u : place m < suc k = l.up m (omega arith) e in
          omega arith

  -- ---- one step more

  skip_left : (m k : ℕ) → hit m ≡ false → Equal m k → Equal (suc m) k
  unfolding after
  skip_left m k e ih l c = o.idle m e (after f m c) ∙ ih (drop-left m k e l) c

  skip_right : (m k : ℕ) → hit (origin k) ≡ false → Equal m k → Equal m (suc k)
  unfolding after
  skip_right m k e ih l c =
      ih (drop_right m k e l) c ∙ sym (o.same k l.k≤ (after g k c) ∙ o.idle (origin k) e (after g k c))

  both_step : (m k : ℕ) → hit m ≡ true → hit (origin k) ≡ true → Equal m k → Equal (suc m) (suc k)
  unfolding after
  both_step m k e d ih l c =
      let q : origin k ≡ m = last-same m k e d l in
      ap (f m) (ih (drop_both m k q l) c) ∙ sym (o.same k l.k≤ (after g k c) ∙ ap (λ i. f i (after g k c)) q)

  -- ---- at level places the thing is the same in both orders

  pub zip : (m k : ℕ) → Equal m k
  unfolding after
  zip zero zero l = λ c. refl
  zip zero (suc k) l =
      by_test (hit (origin k)) (λ e. absurd (let h = l.down k (omega arith) e in omega arith)) (λ e. skip_right zero k e (zip zero k) l)
  zip (suc m) zero l =
      by_test (hit m) (λ e. absurd (let h = l.up m (omega arith) e in omega arith)) (λ e. skip_left m zero e (zip m zero) l)
  zip (suc m) (suc k) l =
      by_test (hit m)
      (λ e. by_test (hit (origin k)) (λ d. both_step m k e d (zip m k) l) (λ d. skip_right (suc m) k d (zip (suc m) k) l))
      (λ e. skip_left m (suc k) e (zip m (suc k)) l)

  -- the two ends are level ..
  pub level_end : Level N M
  level_end =
      record { m≤ = omega arith; k≤ = omega arith; up = λ i h e. o.place_in i h; down = λ j h e. o.origin_in j h }

  -- .. and so are the two places of a step that touches
  pub level_at : (i : ℕ) → i < N → hit i ≡ true → Level i (place i)
  level_at i h e =
      record {
        m≤ = omega arith;
        k≤ = omega (arith, o.place_in i h);
        up = λ a l d. o.kept a i l h d e;
        down = λ j l d. go j l d (dec_lt (origin j) i) (ℕ_discrete (origin j) i);
      }
    where
      go : (j : ℕ) → j < place i → hit (origin j) ≡ true → Dec (origin j < i) → Dec (origin j ≡ i) → origin j < i
      go j l d (yes q) s = q
      go j l d (no n) (yes q) = absurd (let z : j ≡ place i = sym (o.back_and_there j (omega (arith, o.place_in i h))) ∙ ap place q in omega arith)
      go j l d (no n) (no m) =
          let k : j < M = omega (arith, o.place_in i h) in
          let a : place i < place (origin j) = o.kept i (origin j) (omega arith) (o.origin_in j k) e d in
          let b : place (origin j) ≡ j = o.back_and_there j k in
          absurd (omega arith)

-- A loop over values back to back: what is still to come decides, on top of what was kept. For every format and every way to keep.
use mathlib.Core.Path.{◌≡◌, refl, sym, ap, ◌∙◌}
use mathlib.Core.List.{List, ◌∷◌}
use Prim.Native.Nat.{ℕ, suc, ◌+◌, ◌-◌, ◌<◌, ◌≤◌}
use native.Mathlib.Omega.{arith}
use lib.ListN.{length, drop}
use Rattle.formats.specs.Format.{Found, nothing, found, after, Format, several}
use Rattle.formats.specs.Summary.{summed, gathered}
use Rattle.formats.proofs.SummaryLaws.{nothing-found, found-value, found-rest}

-- between two values: so many are left, from an index on, and s was kept of those before; the whole comes to the goal
pub record Walking {A S : Type 0} (f : Format A) (step : S → A → S) (goal : Found S) (l : List ℕ) (left at : ℕ) (s : S) : Type 0 where
  pub within : at ≤ length l
  pub comes : goal ≡ summed (gathered step s) (several f left (drop at l))

module _ {A S : Type 0} {f : Format A} {step : S → A → S} {goal : Found S} {l : List ℕ} {left at : ℕ} {s : S} (w : Walking f step goal l left at s) where
  -- a value more in front
  one_more_lem : (x : Found A) (k : List ℕ → Found (List A)) → (t : S) (rest : List ℕ) → summed (step s) x ≡ found t rest
      → summed (gathered step s) (after x (λ a r. after (k r) (λ xs q. found (a ∷ xs) q))) ≡ summed (gathered step t) (k rest)
  one_more_lem nothing k t rest e = absurd (nothing-found t rest e)
  one_more_lem (found a r) k t rest e =
      let here : step s a ≡ t = found-value (step s a) t r rest e in
      let there : r ≡ rest = found-rest (step s a) t r rest e in
      rw (← there, ← here) (longer a (k r))
    where
      longer : (a : A) (y : Found (List A)) → summed (gathered step s) (after y (λ xs q. found (a ∷ xs) q)) ≡ summed (gathered step (step s a)) y
      longer a nothing = refl
      longer a (found xs q) = unfold gathered in refl

  broken : (x : Found A) (k : List ℕ → Found (List A)) → summed (step s) x ≡ nothing → summed (gathered step s) (after x (λ a r. after (k r) (λ xs q. found (a ∷ xs) q))) ≡ nothing
  broken nothing k e = refl
  broken (found a r) k e = absurd (nothing-found (step s a) r (sym e))

  begins : 0 < left → several f left (drop at l) ≡ several f (suc (left - 1)) (drop at l)
  begins some = let e : left ≡ suc (left - 1) = omega arith in ap (λ (n : ℕ). several f n (drop at l)) e

  pub walk_breaks : 0 < left → summed (step s) (f.parse (drop at l)) ≡ nothing → goal ≡ nothing
  unfolding several
  walk_breaks some e = w.comes ∙ ap (summed (gathered step s)) (begins some) ∙ broken (f.parse (drop at l)) (several f (left - 1)) e

  pub walk-goes : 0 < left → (t : S) (end : ℕ) → summed (step s) (f.parse (drop at l)) ≡ found t (drop end l) → end ≤ length l
      → Walking f step goal l (left - 1) end t
  unfolding several
  walk-goes some t end e h =
      record { within = h; comes = w.comes ∙ ap (summed (gathered step s)) (begins some) ∙ one_more_lem (f.parse (drop at l)) (several f (left - 1)) t (drop end l) e }

  pub walk_ends : left ≤ 0 → goal ≡ found s (drop at l)
  unfolding several gathered
  walk_ends none = let e : left ≡ 0 = omega arith in w.comes ∙ ap (λ (n : ℕ). summed (gathered step s) (several f n (drop at l))) e

-- the same where the loop counts the values from 0: there are n, and k of them were read
pub counted_starts : {A S : Type 0} {f : Format A} {step : S → A → S} {goal : Found S} {l : List ℕ} {n at : ℕ} {s : S} → Walking f step goal l n at s → Walking f step goal l (n - 0) at s
counted_starts {n = n} w = let all : n - 0 ≡ n = omega arith in rw all w

module _ {A S : Type 0} {f : Format A} {step : S → A → S} {goal : Found S} {l : List ℕ} {n k at : ℕ} {s : S} (w : Walking f step goal l (n - k) at s) where
  pub counted_breaks : k < n → summed (step s) (f.parse (drop at l)) ≡ nothing → goal ≡ nothing
  counted_breaks some e = walk_breaks w (omega arith) e

  pub counted-goes : k < n → (t : S) (end : ℕ) → summed (step s) (f.parse (drop at l)) ≡ found t (drop end l) → end ≤ length l
      → Walking f step goal l (n - (k + 1)) end t
  counted-goes some t end e h = let less : n - (k + 1) ≡ n - k - 1 = omega arith in rw less (walk-goes w (omega arith) t end e h)

  pub counted_ends : n ≤ k → goal ≡ found s (drop at l)
  counted_ends none = walk_ends w (omega arith)

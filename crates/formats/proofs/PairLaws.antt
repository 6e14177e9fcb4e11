-- What is kept of two values one behind the other, each with marks, from what is kept of each.
use mathlib.Core.Path.{◌≡◌, refl, sym}
use mathlib.Core.Bool.{Bool, ◌||◌}
use mathlib.Core.List.{List}
use Prim.Native.Nat.{ℕ}
use Rattle.formats.specs.Format.{Found, nothing, found, after}
use Rattle.formats.specs.Summary.{summed}
use Rattle.formats.proofs.SummaryLaws.{nothing-found, found-value, found-rest}

module _ {A B : Type 0} (marks_a : A → Bool) (marks_b : B → Bool) (k : List ℕ → Found B) where
  abbrev pub behind_it : Found A → Found (A × B)
  behind_it x = after x (λ a r. after (k r) (λ b s. found (a, b) s))

  abbrev pub marks_either : A × B → Bool
  marks_either p = marks_a p.0 || marks_b p.1

  pub pair_broken : (x : Found A) → summed marks_a x ≡ nothing → summed marks_either (behind_it x) ≡ nothing
  pair_broken nothing e = refl
  pair_broken (found a r) e = absurd (nothing-found (marks_a a) r (sym e))

  pub pair_broken_later : (x : Found A) (b : Bool) (rest : List ℕ) → summed marks_a x ≡ found b rest → summed marks_b (k rest) ≡ nothing → summed marks_either (behind_it x) ≡ nothing
  pair_broken_later nothing b rest e d = refl
  pair_broken_later (found a r) b rest e d = rw (found-rest (marks_a a) b r rest e) (none-there (k rest) d)
    where
      none-there : (y : Found B) → summed marks_b y ≡ nothing → summed marks_either (after y (λ c s. found (a, c) s)) ≡ nothing
      none-there nothing q = refl
      none-there (found c s) q = absurd (nothing-found (marks_b c) s (sym q))

  pub pair-summed : (x : Found A) (b c : Bool) (rest end : List ℕ) → summed marks_a x ≡ found b rest → summed marks_b (k rest) ≡ found c end → summed marks_either (behind_it x) ≡ found (b || c) end
  pair-summed nothing b c rest end e d = absurd (nothing-found b rest e)
  pair-summed (found a r) b c rest end e d = rw (found-rest (marks_a a) b r rest e, ← found-value (marks_a a) b r rest e) (one-there (k rest) d)
    where
      one-there : (y : Found B) → summed marks_b y ≡ found c end → summed marks_either (after y (λ v s. found (a, v) s)) ≡ found (marks_a a || c) end
      one-there nothing q = absurd (nothing-found c end q)
      one-there (found v s) q = rw (found-value (marks_b v) c s end q, found-rest (marks_b v) c s end q)

-- A number is given exactly if its test fails and no earlier one does: one law over a list of tests, cited for each verdict.
-- By the list, and the truth of its first test; the order of the numbers is computed.
use Rattle.std.specs.Prelude.{Ok, Err}
use mathlib.Core.Path.{◌≡◌, refl, ap, ◌∙◌}
use mathlib.Core.Bool.{true, false}
use mathlib.Core.List.{List, [], ◌∷◌, ◌++◌}
use Prim.Native.Nat.{ℕ}
use native.Mathlib.Omega.{arith}
use Rattle.rules.specs.Lists.{ascending, above}
use Rattle.rules.specs.Refusals.{Test, test, first_of, Held, FailsFirst, Exact, VerdictsHold, table_verdict, older_verdict, record_verdict, write_verdict, apply_verdict, build_verdict, convert_verdict, Verdict}
use Rattle.rules.specs.declared.Refusal.{Refusal}
use Rattle.rules.specs.declared.Refusal.TheVariants.{TableMark}
use Rattle.rules.proofs.TestLaws.{by_test}
use Rattle.rules.proofs.VerdictLaws.{all_held}

-- ---- refused

fails_first : (before behind : List Test) (x : Refusal) → Held before → first_of (before ++ (test false x ∷ behind)) ≡ Err x
fails_first [] behind x h = refl
fails_first (t ∷ ts) behind x h = rw h.0 (fails_first ts behind x h.1)

abbrev given : Verdict → Refusal
given (Ok tt) = TableMark
given (Err x) = x

not-refused : (x : Refusal) → ◌≡◌ {A = Verdict} (Ok tt) (Err x) → ⊥
not-refused x e = let z : ◌≡◌ {A = ℕ} 0 1 = cc in omega (arith, z)

-- one more test in front that holds
behind-held : (t : Test) (ts : List Test) (x : Refusal) → t.holds ≡ true → FailsFirst x ts → FailsFirst x (t ∷ ts)
behind-held t ts x h f =
    record {
      before = t ∷ f.before;
      behind = f.behind;
      split = ap (λ l. t ∷ l) f.split;
      held = (h, f.held);
    }

same_test : (t : Test) (x : Refusal) → t.holds ≡ false → t.refusal ≡ x → t ≡ test false x
same_test t x p q = rw (← p, ← q)

refused-first : (ts : List Test) (x : Refusal) → first_of ts ≡ Err x → FailsFirst x ts
refused-first [] x e = absurd (not-refused x e)
refused-first (t ∷ ts) x e =
    by_test t.holds (λ h. behind-held t ts x h (refused-first ts x (rw h at e))) λ h.
    record {
      before = [];
      behind = ts;
      split = ap (λ u. u ∷ ts) (same_test t x h (ap given (rw h at e)));
      held = tt;
    }

-- ---- accepted

none_fails : (ts : List Test) → Held ts → first_of ts ≡ Ok tt
none_fails [] h = refl
none_fails (t ∷ ts) h = rw h.0 (none_fails ts h.1)

-- ---- one law over the tests

pub first-exact : (ts : List Test) → Exact (first_of ts) ts
first-exact ts =
    record {
      refused = refused-first ts;
      refuses = λ x f. ap first_of f.split ∙ fails_first f.before f.behind x f.held;
      accepted = all_held ts;
      accepts = none_fails ts;
    }

pub verdicts_hold : VerdictsHold
unfolding table_verdict older_verdict record_verdict write_verdict apply_verdict build_verdict convert_verdict ascending above
verdicts_hold =
    record {
      table = λ v t. (first-exact _, refl);
      older = λ old. (first-exact _, refl);
      read = λ v r. (first-exact _, refl);
      write = λ q items room. (first-exact _, refl);
      apply = λ v t r room. (first-exact _, refl);
      build = λ heads room. first-exact _;
      convert = λ old room. (first-exact _, refl);
    }

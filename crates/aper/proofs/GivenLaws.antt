-- Extensions where their bit is 1: the container says that there is one at least, so that the bit and the extensions agree.
use mathlib.Core.Path.{◌≡◌, refl, sym, ap, ◌∙◌}
use mathlib.Core.Bool.{false, cond}
use mathlib.Core.List.{List, ◌∷◌}
use Rattle.std.specs.Prelude.{Option, Some}
use Prim.Native.Nat.{ℕ, suc, ◌+◌, ◌≤◌, ◌<◌}
use native.Mathlib.Omega.{arith}
use native.Mathlib.Numerals.{add-one}
use lib.Dec.{eqb, ltb}
use lib.ListN.{length, drop}
use Rattle.rules.specs.Lists.{any}
use Rattle.formats.specs.Summary.{summed}
use Rattle.formats.specs.Format.{Found, nothing, found, after, number, only, as_if, behind, several, times}
use Rattle.aper.specs.Elements.{Element, from_one, extension, Extensions, most_extensions, container, presence, optional, given, marked}
use Rattle.aper.specs.Readers.{RunAt, GivenAt}
use Rattle.aper.specs.declared.Extensions.{Extensions as Run}

-- what stands behind a test that it passes
kept : Found Extensions → Found Extensions
kept x = after x (λ es r. cond (eqb (presence es) 1) (found es r) nothing)

some-kept : (m : ℕ) (l : List ℕ) → kept (several extension (suc m) l) ≡ several extension (suc m) l
unfolding kept several
some-kept m l = first (extension.parse l)
  where
    second : (e : Element (List ℕ)) (y : Found Extensions) → kept (after y (λ es s. found (e ∷ es) s)) ≡ after y (λ es s. found (e ∷ es) s)
    second e nothing = refl
    second e (found es s) = refl

    first : (x : Found (Element (List ℕ))) → kept (after x (λ e r. after (several extension m r) (λ es s. found (e ∷ es) s))) ≡ after x (λ e r. after (several extension m r) (λ es s. found (e ∷ es) s))
    first nothing = refl
    first (found e r) = second e (several extension m r)

container-kept : (l : List ℕ) → kept (container.parse l) ≡ container.parse l
unfolding container behind from_one as_if times
container-kept l = counted ((only (λ m. ltb m most_extensions) (number 2)).parse l)
  where
    counted : (x : Found ℕ) → kept (after (after x (λ m r. found (m + 1) r)) (λ n r. several extension n r)) ≡ after (after x (λ m r. found (m + 1) r)) (λ n r. several extension n r)
    counted nothing = unfold kept in refl
    counted (found m r) = rw (add-one m) (some-kept m r)

module _ (l : List ℕ) (at : ℕ) where
  pub given-none : at ≤ length l → (p : ℕ) → p ≡ 0 → GivenAt l at p (Some (record { end = at; rejected = false }))
  given-none h p e = record { says = sym (absent p e); lies = h }
    where
      absent : (p : ℕ) → p ≡ 0 → summed (any marked) ((given p).parse (drop at l)) ≡ found false (drop at l)
      absent p e = unfold given only optional times several any in rw e

  one-given : (p : ℕ) → p ≡ 1 → (given p).parse (drop at l) ≡ container.parse (drop at l)
  unfolding given only optional kept
  one-given p e = rw e (container-kept (drop at l))

  pub given-one : (r : Option Run) → RunAt l at r → (p : ℕ) → p < 2 → (p ≡ 0 → ⊥) → GivenAt l at p r
  given-one r read p small other =
      let e : p ≡ 1 = omega (arith, other) in
      record { says = read.says ∙ ap (summed (any marked)) (sym (one-given p e)); lies = read.lies }

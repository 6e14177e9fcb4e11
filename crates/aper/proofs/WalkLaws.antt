-- The walk over a container of extensions: an element at an index, as a loop sees it; where the walk starts and what its end says.
use mathlib.Core.Path.{◌≡◌, refl, sym, ap, ◌∙◌}
use mathlib.Core.Bool.{Bool, true, false, ◌||◌}
use mathlib.Core.List.{List}
use Rattle.std.specs.Prelude.{Some, None}
use Prim.Native.Nat.{ℕ, ◌+◌, ◌-◌, ◌<◌, ◌≤◌}
use native.Mathlib.Omega.{arith}
use lib.Dec.{ltb}
use lib.ListN.{length, take, drop}
use borrow.Author.Tests.{lt-ltb, le-ltb}
use Rattle.octets.specs.Runs.{gets}
use Rattle.octets.specs.Numbers.{be}
use Rattle.rules.specs.Lists.{any}
use Rattle.formats.specs.Summary.{summed, gathered, or_marked}
use Rattle.formats.specs.Format.{Found, nothing, found, opaque, behind, only, as_if, times}
use Rattle.formats.proofs.ReadLaws.{number_cut, number-found}
use Rattle.formats.proofs.SummaryLaws.{summed_same, gathered-marks}
use Rattle.formats.proofs.WalkLaws.{Walking}
use Rattle.aper.specs.Elements.{Element, Extensions, plain, proper, element_of, from_one, extension, container, marked}
use Rattle.aper.specs.Readers.{ElementAt, RunAt}
use Rattle.aper.specs.declared.Element.{Element as Placed}

-- ---- an element at an index, of which some ids are known, and what is kept of it

module _ {S : Type 0} (knows : ℕ → Bool) (keeps : Element (List ℕ) → S) (l : List ℕ) (at : ℕ) where
  pub element-none : ElementAt l at None → summed keeps ((element_of knows (λ id. opaque)).parse (drop at l)) ≡ nothing
  element-none read = ap (summed keeps) (absent (sym read.says))
    where
      absent : plain.parse (drop at l) ≡ nothing → (element_of knows (λ id. opaque)).parse (drop at l) ≡ nothing
      absent e = unfold element_of only in rw e

  module _ (it : Placed) (read : ElementAt l at (Some it)) where
    abbrev this : Element (List ℕ)
    this = record { id = it.id; criticality = it.criticality; contents = take (it.end - it.start) (drop it.start l) }

    pub element_improper : (knows it.id || ltb it.criticality 3) ≡ false → summed keeps ((element_of knows (λ id. opaque)).parse (drop at l)) ≡ nothing
    element_improper t = ap (summed keeps) (refused (sym read.says))
      where
        refused : plain.parse (drop at l) ≡ found this (drop it.end l)
            → (element_of knows (λ id. opaque)).parse (drop at l) ≡ nothing
        refused e = unfold element_of only proper in rw (e, t)

    pub element-kept : (knows it.id || ltb it.criticality 3) ≡ true → (b : S) → b ≡ keeps this
        → summed keeps ((element_of knows (λ id. opaque)).parse (drop at l)) ≡ found b (drop it.end l)
    element-kept t b e = ap (summed keeps) (there (sym read.says)) ∙ ap (λ (x : S). found x (drop it.end l)) (sym e)
      where
        there : plain.parse (drop at l) ≡ found this (drop it.end l)
            → (element_of knows (λ id. opaque)).parse (drop at l) ≡ found this (drop it.end l)
        there q = unfold element_of only proper in rw (q, t)

-- ---- a container at an index

module _ (l : List ℕ) (at : ℕ) where
  abbrev pub RunGoal : Found Bool
  RunGoal = summed (gathered (or_marked marked) false) (container.parse (drop at l))

  -- one after the other, whether any is marked
  marks : (x : Found Extensions) → summed (gathered (or_marked marked) false) x ≡ summed (any marked) x
  marks x = summed_same (gathered (or_marked marked) false) (any marked) (gathered-marks marked false) x

  pub run_none : RunGoal ≡ nothing → RunAt l at None
  run_none e = record { says = sym e ∙ marks (container.parse (drop at l)); lies = tt }

  pub run_end : (b : Bool) (end : ℕ) → RunGoal ≡ found b (drop end l) → end ≤ length l → RunAt l at (Some (record { end = end; rejected = b }))
  run_end b end e h = record { says = sym e ∙ marks (container.parse (drop at l)); lies = h }

  pub run-cut : at ≤ length l → length l - at < 2 → RunGoal ≡ nothing
  unfolding container behind from_one as_if only
  run-cut h k = rw (number_cut l at 2 (at + 2) refl h (omega arith))

  module _ (m : ℕ) (long : at + 2 ≤ length l) (here : m ≡ be (gets l at 2)) where
    pub run-many : 65535 ≤ m → RunGoal ≡ nothing
    unfolding container behind from_one as_if only
    run-many h = rw (number-found l at 2 (at + 2) refl long, ← here, le-ltb m 65535 h)

    pub run-start : m < 65535 → Walking extension (or_marked marked) RunGoal l (m + 1) (at + 2) false
    unfolding container behind from_one as_if only times
    run-start h = record { within = long; comes = rw (number-found l at 2 (at + 2) refl long, ← here, lt-ltb m 65535 h) }

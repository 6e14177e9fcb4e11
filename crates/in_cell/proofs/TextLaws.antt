-- The search for a text by one number: it ends at a place exactly if the text runs, and then all but the text are all but that place.
-- Identifier and serial number are told apart where both are below 65536; no two places are alike, so behind the one found there is none.
use mathlib.Core.Path.{◌≡◌, refl, ap, ◌∙◌}
use mathlib.Core.Bool.{true, false, cond, not, false≢true}
use mathlib.Core.List.{List, [], ◌∷◌, flat_map}
use Prim.Native.Nat.compare
use Prim.Native.Nat.{ℕ, suc, ◌+◌, ◌*◌, ◌<◌}
use native.Mathlib.Numerals.{add-one}
use native.Mathlib.Omega.{arith}
use borrow.Author.Tests.{lt-ltb}
use lib.Dec.{ltb}
use lib.ListN.{length, get_or}
use Rattle.rules.specs.Lists.{any, those}
use Rattle.rules.specs.Table.{is_text, running, different}
use Rattle.rules.specs.InCell.{Told}
use Rattle.rules.specs.declared.Place.{Place}
use Rattle.rules.proofs.ListsLaws.{all_those, none_made}
use Rattle.rules.proofs.TestLaws.{by_test, or_else}
use Rattle.rules.proofs.AllLaws.{All, none, more}
use Rattle.rules.proofs.PlaceLaws.{Small, same_text, text_facts, different_parts}
use Rattle.cell_read.specs.Places.{no_place, index_of, without}

module _ (m s : ℕ) (small : s < 65536) where
  -- at a place exactly if the text runs
  pub index-running : {ps : List Place} → All Small ps → ltb (index_of (m * 65536 + s) ps) (length ps) ≡ running m s ps
  unfolding index_of running any
  index-running none = refl
  index-running (more {x = p} {xs = ps} h hs) =
      rw (same_text m s p small h)
      (by_test (is_text m s p)
      (λ t. rw t (lt-ltb 0 (suc (length ps)) (omega arith)))
      (λ t. rw (t, compare.suc-suc) (index-running hs)))

  -- behind a place with the text there is none
  alone : (p : Place) (ps : List Place) → is_text m s p ≡ true → different (p ∷ ps) ≡ true → running m s ps ≡ false
  alone p ps t d = let e = text_facts m s p t in rw (e.0, e.1) at (different_parts p ps d).0

  -- all but the text are all but the place found
  pub index-left : {ps : List Place} → All Small ps → different ps ≡ true → running m s ps ≡ true
      → those (λ p. not (is_text m s p)) ps ≡ without (index_of (m * 65536 + s) ps) ps
  unfolding index_of running any those flat_map without
  index-left none d r = absurd (false≢true r)
  index-left (more {x = p} {xs = ps} h hs) d r =
      rw (same_text m s p small h, add-one)
      (by_test (is_text m s p)
      (λ t. rw t (all_those (is_text m s) ps (alone p ps t d)))
      (λ t. rw t (ap (λ (rest : List Place). p ∷ rest) (index-left hs (different_parts p ps d).1 (or_else (is_text m s p) (running m s ps) r t) ∙ rw add-one))))

  -- and what is made of the text is made of the place found
  pub index_made : (f : Place → Told) {ps : List Place} → All Small ps → different ps ≡ true → running m s ps ≡ true
      → flat_map (λ p. cond (is_text m s p) (f p ∷ []) []) ps ≡ f (get_or ps (index_of (m * 65536 + s) ps) no_place) ∷ []
  unfolding index_of running any flat_map
  index_made f none d r = absurd (false≢true r)
  index_made f (more {x = p} {xs = ps} h hs) d r =
      rw (same_text m s p small h)
      (by_test (is_text m s p)
      (λ t. rw (t, none_made (is_text m s) (λ x. f x ∷ []) ps (alone p ps t d)))
      (λ t. rw t (index_made f hs (different_parts p ps d).1 (or_else (is_text m s p) (running m s ps) r t))))

-- Cancel, Restart and Failure leave the places of a cell sound and give one row at most; a cancel of one text reports a cell exactly if it stopped there.
-- No two places are alike, so at most one is the text: behind it there is none.
use mathlib.Core.Path.{◌≡◌, refl, ap}
use mathlib.Core.Bool.{Bool, true, false, cond, false≢true}
use mathlib.Core.List.{List, [], ◌∷◌, flat_map}
use Prim.Native.Nat.{ℕ, ◌≤◌}
use native.Mathlib.Omega.{arith}
use lib.ListN.{length}
use Rattle.rules.specs.Lists.{any, those}
use Rattle.rules.specs.Layout.{Version}
use Rattle.rules.specs.Table.{is_text, running, different}
use Rattle.rules.specs.Record.{cancel_all}
use Rattle.rules.specs.Sound.{sound_place, sound_places}
use Rattle.rules.specs.InCell.{Told, Done, reported, reported_if_live, cancel, restart, failure}
use Rattle.rules.specs.declared.Request.{Request}
use Rattle.rules.specs.declared.Place.{Place}
use Rattle.rules.proofs.ListsLaws.{every-cond, none_made, all_those}
use Rattle.rules.proofs.TestLaws.{cond_either, by_test, or_else}
use Rattle.rules.proofs.PlaceLaws.{text_facts, different_parts, keeps-cond}
use Rattle.rules.proofs.SoundPlaceLaws.{none-sound, keeps-sound}

module _ (v : Version) where
  -- ---- the places that are left

  those-sound : (f : Place → Bool) (ps : List Place) → sound_places v ps ≡ true → sound_places v (those f ps) ≡ true
  unfolding those
  those-sound f = keeps-sound v _ (λ p. keeps-cond (f p) p p refl refl) (λ p s. every-cond (sound_place v) (f p) p (λ e. s))

  pub cancel-sound : (q : Request) (ps : List Place) → sound_places v ps ≡ true → sound_places v (cancel q ps).places ≡ true
  unfolding cancel
  cancel-sound q ps s =
      cond_either (λ (d : Done). sound_places v d.places ≡ true) (cancel_all q) _ _ (λ a. none-sound v) (λ a. those-sound _ ps s)

  pub restart-sound : (ps : List Place) → sound_places v (restart ps).places ≡ true
  unfolding restart
  restart-sound ps = none-sound v

  pub failure-sound : (ps : List Place) → sound_places v (failure ps).places ≡ true
  unfolding failure
  failure-sound ps = none-sound v

-- ---- rows

-- no row, or one with count 0
pub live-rows : (P : List Told → Type 0) → P [] → P (reported 0) → (ps : List Place) → P (reported_if_live ps)
unfolding reported_if_live
live-rows P none one [] = none
live-rows P none one (p ∷ ps) = one

live-few : (ps : List Place) → length (reported_if_live ps) ≤ 1
live-few = live-rows (λ rows. length rows ≤ 1) (omega arith) (omega arith)

pub restart-few : (ps : List Place) → length (restart ps).rows ≤ 1
unfolding restart
restart-few ps = omega arith

pub failure-few : (ps : List Place) → length (failure ps).rows ≤ 1
unfolding failure
failure-few ps = live-few ps

-- what is made of the text alone
module _ (m s : ℕ) (h : Place → Told) where
  one_made : (ps : List Place) → different ps ≡ true → running m s ps ≡ true → length (flat_map (λ p. cond (is_text m s p) (h p ∷ []) []) ps) ≡ 1
  unfolding running any different flat_map
  one_made [] d r = absurd (false≢true r)
  one_made (p ∷ ps) d r =
      let u = different_parts p ps d in
      by_test (is_text m s p)
      (λ t.
      let e = text_facts m s p t in
      let n : running m s ps ≡ false = rw (e.0, e.1) at u.0 in
      rw (t, none_made (is_text m s) (λ x. h x ∷ []) ps n))
      (λ t. rw (t, one_made ps u.1 (or_else (is_text m s p) (running m s ps) r t)))

pub cancel_absent : (q : Request) (ps : List Place) → cancel_all q ≡ false → running q.identifier q.serial ps ≡ false
    → ((cancel q ps).places ≡ ps) × ((cancel q ps).rows ≡ [])
unfolding cancel running
cancel_absent q ps a n = rw a (all_those _ ps n, none_made _ _ ps n)

pub cancel-found : (q : Request) (ps : List Place) → cancel_all q ≡ false → different ps ≡ true → running q.identifier q.serial ps ≡ true
    → length (cancel q ps).rows ≡ 1
unfolding cancel
cancel-found q ps a d r = rw a (one_made q.identifier q.serial _ ps d r)

-- "A cell is reported exactly if one stopped there"
pub cancel-exact : (q : Request) (ps : List Place) → cancel_all q ≡ false → different ps ≡ true
    → (running q.identifier q.serial ps ≡ false → ((cancel q ps).places ≡ ps) × ((cancel q ps).rows ≡ []))
    × (running q.identifier q.serial ps ≡ true → length (cancel q ps).rows ≡ 1)
cancel-exact q ps a d = (cancel_absent q ps a, cancel-found q ps a d)

pub cancel-few : (q : Request) (ps : List Place) → different ps ≡ true → length (cancel q ps).rows ≤ 1
unfolding cancel
cancel-few q ps d =
    by_test (cancel_all q) (λ a. rw a (live-few ps)) λ a.
    by_test (running q.identifier q.serial ps)
    (λ r. omega (arith, cancel-found q ps a d r))
    (λ r. omega (arith, ap length (cancel_absent q ps a r).1))

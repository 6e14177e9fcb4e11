-- What a sound place and the sound places of a cell are in plain facts, and what leaves them sound: an operation on each place, and one more place.
-- A number of a layout is below its field's limit; period, wait and SIB kind of a legal place are small besides.
use mathlib.Core.Path.{◌≡◌, refl}
use mathlib.Core.Bool.{true, false, false≢true}
use mathlib.Core.List.{List, [], ◌∷◌, ◌++◌, flat_map}
use Prim.Native.Nat.{ℕ, zero, suc, ◌^◌, ◌≤◌, ◌<◌}
use native.Mathlib.Omega.{arith}
use lib.Dec.{ltb, leb}
use lib.ListN.{length, get_or, length-append}
use borrow.Author.Tests.{ltb-true, leb-true, lt-ltb, le-leb}
use Rattle.rules.specs.Lists.{every, any}
use Rattle.rules.specs.Layout.{Version, seconds_size, place_fields, places_per_cell, longest_period}
use Rattle.rules.specs.Table.{place_numbers, legal_place, running, different}
use Rattle.rules.specs.Sound.{fits, sound_place, sound_places}
use Rattle.rules.specs.declared.Place.{Place}
use Rattle.rules.proofs.ListsLaws.{every_append, every-flat_map}
use Rattle.rules.proofs.TestLaws.{both, larger-most}
use Rattle.rules.proofs.LayoutLaws.{longest-fits, longest-some}
use Rattle.rules.proofs.PlaceLaws.{LegalPlace, legal_facts, facts_legal, Keeps, keeps-length, keeps-different, different_snoc}

-- ---- numbers that fit a layout

-- behind the last field both are 0 and 1
pub fits-at : (ws vs : List ℕ) (k : ℕ) → fits ws vs ≡ true → get_or vs k 0 < 256 ^ get_or ws k 0
unfolding fits
fits-at [] [] k e = omega arith
fits-at [] (v ∷ vs) k e = absurd (false≢true e)
fits-at (w ∷ ws) [] k e = absurd (false≢true e)
fits-at (w ∷ ws) (v ∷ vs) zero e = ltb-true v (256 ^ w) (both (ltb v (256 ^ w)) (fits ws vs) e).0
fits-at (w ∷ ws) (v ∷ vs) (suc k) e = fits-at ws vs k (both (ltb v (256 ^ w)) (fits ws vs) e).1

module _ (v : Version) where
  -- ---- a sound place

  pub record SoundPlace (p : Place) : Type 0 where
    pub identifier : p.identifier < 256 ^ 2
    pub serial : p.serial < 256 ^ 2
    pub content : p.content < 256 ^ 4
    pub requested : p.requested.0 < 256 ^ 2
    pub sent : p.sent.0 < 256 ^ 2
    pub legal : LegalPlace v p

  pub sound_facts : (p : Place) → sound_place v p ≡ true → SoundPlace p
  unfolding sound_place place_numbers
  sound_facts p e =
      let h = both (fits (place_fields v) (place_numbers p)) (legal_place v p) e in
      let at : (k : ℕ) → get_or (place_numbers p) k 0 < 256 ^ get_or (place_fields v) k 0 = λ k. fits-at (place_fields v) (place_numbers p) k h.0 in
      record {
        identifier = at 0;
        serial = at 1;
        content = at 2;
        requested = at 4;
        sent = at 5;
        legal = legal_facts v p h.1;
      }

  pub facts_sound : (p : Place) → SoundPlace p → sound_place v p ≡ true
  unfolding sound_place place_numbers fits
  facts_sound p s =
      let l = s.legal in
      let long = longest-fits v in
      let w : p.wait.0 < 256 ^ seconds_size v = omega (arith, long, l.wait, larger-most p.period.0 1 (longest_period v).0 l.period (longest-some v)) in
      rw (
        lt-ltb p.identifier (256 ^ 2) s.identifier,
        lt-ltb p.serial (256 ^ 2) s.serial,
        lt-ltb p.content (256 ^ 4) s.content,
        lt-ltb p.period.0 (256 ^ seconds_size v) (omega (arith, long, l.period)),
        lt-ltb p.requested.0 (256 ^ 2) s.requested,
        lt-ltb p.sent.0 (256 ^ 2) s.sent,
        lt-ltb p.wait.0 (256 ^ seconds_size v) w,
        lt-ltb p.sib (256 ^ 1) (omega (arith, l.sib)),
        facts_legal v p l,
      )

  -- ---- the sound places of a cell

  pub record SoundPlaces (ps : List Place) : Type 0 where
    pub few : length ps ≤ places_per_cell
    pub each : every (sound_place v) ps ≡ true
    pub apart : different ps ≡ true

  pub places_facts : (ps : List Place) → sound_places v ps ≡ true → SoundPlaces ps
  unfolding sound_places
  places_facts ps e =
      let h = both _ (different ps) e in
      let g = both (leb (length ps) places_per_cell) (every (sound_place v) ps) h.0 in
      record { few = leb-true (length ps) places_per_cell g.0; each = g.1; apart = h.1 }

  pub facts_places : (ps : List Place) → SoundPlaces ps → sound_places v ps ≡ true
  unfolding sound_places
  facts_places ps s = rw (le-leb (length ps) places_per_cell s.few, s.each, s.apart)

  pub none-sound : sound_places v [] ≡ true
  unfolding sound_places every different
  none-sound = refl

  pub one-sound : (p : Place) → sound_place v p ≡ true → sound_places v (p ∷ []) ≡ true
  unfolding sound_places every different running any
  one-sound p s = rw s

  pub snoc_sound : (ps : List Place) (p : Place) → sound_places v ps ≡ true → length ps < places_per_cell → sound_place v p ≡ true → running p.identifier p.serial ps ≡ false
      → sound_places v (ps ++ (p ∷ [])) ≡ true
  unfolding every
  snoc_sound ps p e room s n =
      let h = places_facts ps e in
      facts_places (ps ++ (p ∷ []))
      (record {
        few = rw length-append (omega arith);
        each = every_append (sound_place v) ps (p ∷ []) h.each (rw s);
        apart = different_snoc ps p h.apart n;
      })

  pub keeps-sound : (f : Place → List Place) → Keeps f → ((p : Place) → sound_place v p ≡ true → every (sound_place v) (f p) ≡ true) → (ps : List Place) → sound_places v ps ≡ true
      → sound_places v (flat_map f ps) ≡ true
  keeps-sound f k each ps e =
      let h = places_facts ps e in
      facts_places (flat_map f ps)
      (record {
        few = omega (arith, keeps-length f k ps, h.few);
        each = every-flat_map f (sound_place v) (sound_place v) ps each h.each;
        apart = keeps-different f k ps h.apart;
      })

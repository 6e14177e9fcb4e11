-- The places of a cell and their runs of bytes, by the version, are each other's inverse; legal runs say sound places, whose bytes are legal.
-- By a view of runs that come live first: each a live one and then the rest, or free ones to the end.
use mathlib.Core.Path.{◌≡◌, refl, ap, ◌∙◌}
use mathlib.Core.Bool.{Bool, true, false, cond, ◌&&◌}
use mathlib.Core.List.{List, [], ◌∷◌, map, flat_map}
use Prim.Native.Nat.{ℕ, zero, suc, ◌*◌, ◌≤◌}
use native.Mathlib.Nat.{mul_comm}
use native.Mathlib.Omega.{arith}
use borrow.Author.Tests.{le-leb}
use lib.ListN.{length, length-replicate}
use Rattle.octets.specs.Runs.{Bytes, pieces}
use Rattle.octets.specs.Fields.{padded}
use Rattle.octets.proofs.RunsLaws.{bytes-replicate-zero}
use Rattle.octets.proofs.FieldsLaws.{length-padded}
use Rattle.rules.specs.Lists.{every}
use Rattle.rules.specs.Layout.{Version, place_fields, place_size, places_per_cell}
use Rattle.rules.specs.Table.{place_of, place_numbers, place_bytes, free_bytes, is_free, is_live, live_first, places_of, legal_place, different, legal_places, places_bytes}
use Rattle.rules.specs.Sound.{fits, sound_place, sound_places}
use Rattle.rules.specs.declared.Place.{Place}
use Rattle.rules.proofs.ListsLaws.{replicate-zeros}
use Rattle.rules.proofs.TestLaws.{both, and-true}
use Rattle.rules.proofs.AllLaws.{All, none, more, all_every, every_all, all_imply, all_both, all_map, all_of, all_padded, bytes-flat_map_all, length-joined, pieces-joined}
use Rattle.rules.proofs.SoundPlaceLaws.{places_facts}
use Rattle.rules.proofs.PlaceCodec.{FitPlace, place-back, place-fits, free_back, length-place_bytes, place-again, place-live, place-not-free, bytes-place_bytes}

module _ (v : Version) where
  -- ---- several places, from bytes

  abbrev pub PlaceRun : List ℕ → Type 0
  PlaceRun b = Bytes b × (length b ≡ place_size v)

  -- runs that come live first, and the places that they say
  pub data LiveFirst : List (List ℕ) → List Place → Type 0 where
    free : {bs : List (List ℕ)} → All (λ b. is_free b ≡ true) bs → LiveFirst bs []
    live : {b : List ℕ} {bs : List (List ℕ)} {ps : List Place} → is_live v b ≡ true → LiveFirst bs ps → LiveFirst (b ∷ bs) (place_of v b ∷ ps)

  pub live-first : (bs : List (List ℕ)) → live_first v bs ≡ true → LiveFirst bs (places_of v bs)
  unfolding live_first places_of
  live-first [] e = free none
  live-first (b ∷ bs) e = go (is_free b) refl e (live-first bs)
    where
      go : (f : Bool) → is_free b ≡ f → cond f (every is_free bs) (is_live v b && live_first v bs) ≡ true → (live_first v bs ≡ true → LiveFirst bs (places_of v bs))
          → LiveFirst (b ∷ bs) (cond f [] (place_of v b ∷ places_of v bs))
      go true i e more-live = free (more i (all_every is_free bs e))
      go false i e more-live = let h = both (is_live v b) (live_first v bs) e in live h.0 (more-live h.1)

  refilled_free : {bs : List (List ℕ)} → All (λ b. is_free b ≡ true) bs → All PlaceRun bs → padded (length bs) (free_bytes v) [] ≡ bs
  unfolding padded
  refilled_free none none = refl
  refilled_free (more {x = b} f fs) (more r rs) = rw (refilled_free fs rs, ← (free_back v) b f r.1)

  refilled : {bs : List (List ℕ)} {ps : List Place} → LiveFirst bs ps → All PlaceRun bs → padded (length bs) (free_bytes v) (map (place_bytes v) ps) ≡ bs
  unfolding padded
  refilled (free fs) rs = refilled_free fs rs
  refilled (live {b} i l) (more r rs) = rw (refilled l rs, place-back v b r.0 r.1 i)

  fit-places : {bs : List (List ℕ)} {ps : List Place} → LiveFirst bs ps → All PlaceRun bs → All (FitPlace v) ps
  fit-places (free fs) rs = none
  fit-places (live {b} i l) (more r rs) = more (place-fits v b r.0 r.1 i) (fit-places l rs)

  few-places : {bs : List (List ℕ)} {ps : List Place} → LiveFirst bs ps → length ps ≤ length bs
  few-places (free fs) = omega arith
  few-places (live i l) = let h = few-places l in omega arith

  pub record LegalPlaces (bs : List (List ℕ)) : Type 0 where
    pub first : live_first v bs ≡ true
    pub each : every (legal_place v) (places_of v bs) ≡ true
    pub distinct : different (places_of v bs) ≡ true

  pub legal-places : (bs : List (List ℕ)) → legal_places v bs ≡ true → LegalPlaces bs
  unfolding legal_places
  legal-places bs e =
      let h = both _ _ e in
      let k = both _ _ h.0 in
      record { first = k.0; each = k.1; distinct = h.1 }

  module _ (bs : List (List ℕ)) (runs : All PlaceRun bs) where
    -- whatever their number
    runs-back : live_first v bs ≡ true → padded (length bs) (free_bytes v) (map (place_bytes v) (places_of v bs)) ≡ bs
    runs-back e = refilled (live-first bs e) runs

    pub places-back : length bs ≡ places_per_cell → live_first v bs ≡ true → places_bytes v (places_of v bs) ≡ flat_map (λ b. b) bs
    unfolding places_bytes
    places-back n e = ap (flat_map (λ b. b)) (rw n at (runs-back e))

    pub places-sound : length bs ≡ places_per_cell → legal_places v bs ≡ true → sound_places v (places_of v bs) ≡ true
    unfolding sound_places sound_place
    places-sound n e =
        let l = legal-places bs e in
        let f = live-first bs l.first in
        let few : length (places_of v bs) ≤ length bs = few-places f in
        let both_sound : (p : Place) → FitPlace v p × (legal_place v p ≡ true) → sound_place v p ≡ true = λ p h. and-true _ _ h.0 h.1 in
        let each : every (sound_place v) (places_of v bs) ≡ true = every_all (sound_place v) (all_imply both_sound (all_both (fit-places f runs) (all_every (legal_place v) (places_of v bs) l.each))) in
        rw (each, le-leb (length (places_of v bs)) places_per_cell (omega arith)) l.distinct

  -- ---- several places, to bytes

  -- the runs of a cell's places, the live ones first
  abbrev pub runs_of : List Place → List (List ℕ)
  runs_of ps = padded places_per_cell (free_bytes v) (map (place_bytes v) ps)

  sized : (ps : List Place) → All (λ b. length b ≡ place_size v) (runs_of ps)
  sized ps = all_padded places_per_cell (free_bytes v) (length-replicate (place_size v) 0) (all_map (λ b. length b ≡ place_size v) (place_bytes v) (all_of (length-place_bytes v) ps))

  pub length-places_bytes : (ps : List Place) → length (places_bytes v ps) ≡ places_per_cell * place_size v
  unfolding places_bytes
  length-places_bytes ps = rw (length-padded places_per_cell (free_bytes v) (map (place_bytes v) ps)) at (length-joined (place_size v) (sized ps)) ∙ mul_comm (place_size v) places_per_cell

  pub runs_of_places : (ps : List Place) → pieces (place_size v) places_per_cell (places_bytes v ps) ≡ runs_of ps
  unfolding places_bytes
  runs_of_places ps = rw (length-padded places_per_cell (free_bytes v) (map (place_bytes v) ps)) at (pieces-joined (place_size v) (sized ps))

  free-is-free : is_free (free_bytes v) ≡ true
  unfolding is_free
  free-is-free = replicate-zeros (place_size v)

  all_free_lem : (n : ℕ) → every is_free (padded n (free_bytes v) []) ≡ true
  unfolding every padded
  all_free_lem zero = refl
  all_free_lem (suc n) = rw free-is-free (all_free_lem n)

  -- whatever their number
  pub live-padded : (n : ℕ) {ps : List Place} → All (FitPlace v) ps → live_first v (padded n (free_bytes v) (map (place_bytes v) ps)) ≡ true
  unfolding live_first padded every
  live-padded zero fs = refl
  live-padded (suc n) none = rw free-is-free (all_free_lem n)
  live-padded (suc n) (more {x = p} f fs) = rw (place-not-free v p f, place-live v p f) (live-padded n fs)

  pub places-padded : (n : ℕ) {ps : List Place} → length ps ≤ n → All (FitPlace v) ps
      → places_of v (padded n (free_bytes v) (map (place_bytes v) ps)) ≡ ps
  unfolding places_of padded
  places-padded zero h none = refl
  places-padded zero h (more f fs) = absurd (omega arith)
  places-padded (suc n) h none = rw free-is-free
  places-padded (suc n) h (more {x = p} f fs) = rw (place-not-free v p f, place-again v p f, places-padded n (omega arith) fs)

  pub sound-place : (p : Place) → sound_place v p ≡ true → FitPlace v p × (legal_place v p ≡ true)
  unfolding sound_place
  sound-place p e = both (fits (place_fields v) (place_numbers p)) (legal_place v p) e

  -- sound places fit their fields, and each is legal
  places-fit : (ps : List Place) → sound_places v ps ≡ true → All (FitPlace v) ps
  places-fit ps e = all_imply (λ p q. (sound-place p q).0) (all_every (sound_place v) ps (places_facts v ps e).each)

  every-legal : (ps : List Place) → sound_places v ps ≡ true → every (legal_place v) ps ≡ true
  every-legal ps e = every_all (legal_place v) (all_imply (λ p q. (sound-place p q).1) (all_every (sound_place v) ps (places_facts v ps e).each))

  module _ (ps : List Place) (sound : sound_places v ps ≡ true) where
    pub places-again : places_of v (pieces (place_size v) places_per_cell (places_bytes v ps)) ≡ ps
    places-again = rw (runs_of_places ps) (places-padded places_per_cell (places_facts v ps sound).few (places-fit ps sound))

    pub places_legal_lem : legal_places v (pieces (place_size v) places_per_cell (places_bytes v ps)) ≡ true
    unfolding legal_places
    places_legal_lem =
        rw (places-again, runs_of_places ps, live-padded places_per_cell (places-fit ps sound), every-legal ps sound) (places_facts v ps sound).apart

    pub bytes-places_bytes : Bytes (places_bytes v ps)
    unfolding places_bytes
    bytes-places_bytes =
        let each : All Bytes (map (place_bytes v) ps) = all_map Bytes (place_bytes v) (all_imply (bytes-place_bytes v) (places-fit ps sound)) in
        bytes-flat_map_all (λ b. b) (all_padded places_per_cell (free_bytes v) (bytes-replicate-zero (place_size v)) each)

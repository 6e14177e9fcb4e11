-- The search for a text's place: what is known after k places that do not have it, and where it ends.
-- The invariant speaks of the places still to come; a turn passes one.
use mathlib.Core.Path.{◌≡◌, refl, ap, ◌∙◌}
use mathlib.Core.Bool.{true, false}
use mathlib.Core.List.{List, [], ◌∷◌}
use Prim.Native.Nat.{ℕ, suc, ◌+◌, ◌<◌, ◌≤◌}
use native.Mathlib.Numerals.{add-one}
use native.Mathlib.Omega.{arith}
use borrow.Author.Tests.{eq-eqb, ne_eqb, ltb-true, ltb-false}
use lib.Dec.{eqb, ltb}
use lib.ListN.{length, drop, drop_of_length-le}
use lib.Seq.{drop-cons}
use Rattle.rules.specs.Layout.{places_per_cell}
use Rattle.rules.specs.Table.{text_of}
use Rattle.rules.specs.declared.Place.{Place}
use Rattle.rules.proofs.TestLaws.{cond_either}
use Rattle.cell_read.specs.Places.{live_places, no_place, place_at, index_of}
use Rattle.cell_read.proofs.PlacesLaws.{live-few}

-- none of the first k places has the text
pub record Seeking (text : ℕ) (ps : List Place) (k : ℕ) : Type 0 where
  pub few : k ≤ length ps
  pub left : index_of text ps ≡ k + index_of text (drop k ps)

index-none : (text : ℕ) → index_of text [] ≡ 0
unfolding index_of
index-none text = refl

index_hit : (text : ℕ) (p : Place) (ps : List Place) → text_of p ≡ text → index_of text (p ∷ ps) ≡ 0
unfolding index_of
index_hit text p ps e = rw (eq-eqb (text_of p) text e)

index_on : (text : ℕ) (p : Place) (ps : List Place) → (text_of p ≡ text → ⊥) → index_of text (p ∷ ps) ≡ suc (index_of text ps)
unfolding index_of
index_on text p ps n = rw (ne_eqb (text_of p) text n)

-- all places are passed
seek-past : (text : ℕ) (ps : List Place) (k : ℕ) → Seeking text ps k → length ps ≤ k → (k ≡ index_of text ps) × (k ≡ length ps)
seek-past text ps k s h =
    let e : index_of text (drop k ps) ≡ 0 = ap (index_of text) (drop_of_length-le ps {i = k} h) ∙ index-none text in
    let few = s.few in
    (omega (arith, s.left), omega arith)

module _ (c : List ℕ) (text k : ℕ) (s : Seeking text (live_places c) k) where
  pub seek-free : ltb k (length (live_places c)) ≡ false → (k ≡ index_of text (live_places c)) × (k ≡ length (live_places c))
  seek-free f = seek-past text (live_places c) k s (ltb-false k (length (live_places c)) f)

  pub seek_full : places_per_cell ≤ k → (places_per_cell ≡ index_of text (live_places c)) × (places_per_cell ≡ length (live_places c))
  seek_full h =
      let few : length (live_places c) ≤ places_per_cell = live-few c in
      let past = seek-past text (live_places c) k s (omega arith) in
      let below = s.few in
      let e : places_per_cell ≡ k = omega arith in
      (e ∙ past.0, e ∙ past.1)

  module _ (live : ltb k (length (live_places c)) ≡ true) where
    next : drop k (live_places c) ≡ place_at c k ∷ drop (suc k) (live_places c)
    unfolding place_at
    next = drop-cons (live_places c) k no_place (ltb-true k (length (live_places c)) live)

    pub seek_hit : text_of (place_at c k) ≡ text → (k ≡ index_of text (live_places c)) × (k < length (live_places c))
    seek_hit e =
        let z : index_of text (drop k (live_places c)) ≡ 0 = ap (index_of text) next ∙ index_hit text (place_at c k) (drop (suc k) (live_places c)) e in
        (omega (arith, s.left), ltb-true k (length (live_places c)) live)

    pub seek_on : (text_of (place_at c k) ≡ text → ⊥) → Seeking text (live_places c) (k + 1)
    seek_on n =
        let more : k < length (live_places c) = ltb-true k (length (live_places c)) live in
        let on : index_of text (drop k (live_places c)) ≡ suc (index_of text (drop (suc k) (live_places c))) =
        ap (index_of text) next ∙ index_on text (place_at c k) (drop (suc k) (live_places c)) n in
        record { few = omega arith; left = rw (add-one k) (omega (arith, s.left)) }

-- ---- what the number that is found says

pub index-few : (text : ℕ) (ps : List Place) → index_of text ps ≤ length ps
unfolding index_of
index-few text [] = omega arith
index-few text (p ∷ ps) =
    cond_either (λ n. n ≤ suc (length ps)) (eqb (text_of p) text) 0 (suc (index_of text ps)) (λ t. omega arith) (λ t. omega (arith, index-few text ps))

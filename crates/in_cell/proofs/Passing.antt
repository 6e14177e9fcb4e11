-- A pass over the live places of a cell: the places passed and those still to come, and what a turn leaves that changes the next one, keeps it or drops it.
-- The cell is the one at the start with other places, so what it says of place k is the first of those still to come.
use mathlib.Core.Path.{◌≡◌, refl, sym, ap, ◌∙◌}
use mathlib.Core.Bool.{Bool, true, false}
use mathlib.Core.List.{List, [], ◌∷◌, ◌++◌, append_assoc}
use Prim.Native.Nat.{ℕ, ◌+◌, ◌<◌, ◌≤◌}
use native.Mathlib.Omega.{arith}
use borrow.Author.Tests.{ltb-true, ltb-false}
use lib.Dec.{ltb}
use lib.ListN.{length, take, set, length-append}
use lib.Seq.{set_at, take_at, drop_at, get_or_at, drop-drop}
use Rattle.octets.specs.Runs.{Bytes}
use Rattle.rules.specs.Layout.{current, head_size, places_per_cell, cell_size}
use Rattle.rules.specs.declared.Place.{Place}
use Rattle.rules.proofs.AllLaws.{All, none, more, all_append}
use Rattle.rules.proofs.PlaceCodec.{FitPlace}
use Rattle.cell_read.specs.Places.{live_places, with_places, with_place, Formed, no_place, place_at, without}
use Rattle.cell_read.proofs.PlacesLaws.{head-with_places, with_places-again, with_places-live, with_places-formed, live-few, live-fit}

-- the cell c is c₀ with other places: k passed, and the rest
pub record Passing (c₀ c : List ℕ) (k : ℕ) (passed rest : List Place) : Type 0 where
  pub size : length c₀ ≡ cell_size current
  pub cell : c ≡ with_places c₀ (passed ++ rest)
  pub behind : length passed ≡ k
  pub few : k + length rest ≤ places_per_cell
  pub fit_passed : All (FitPlace current) passed
  pub fit-rest : All (FitPlace current) rest

pub pass_starts : (c : List ℕ) → Bytes c → Formed c → Passing c c 0 [] (live_places c)
pass_starts c bytes formed =
    record {
      size = formed.size;
      cell = formed.whole;
      behind = refl;
      few = omega (arith, live-few c);
      fit_passed = none;
      fit-rest = live-fit c bytes formed.size;
    }

module _ {c₀ c : List ℕ} {k : ℕ} {passed rest : List Place} (w : Passing c₀ c k passed rest) where
  all_fit : All (FitPlace current) (passed ++ rest)
  all_fit = all_append w.fit_passed w.fit-rest

  many : length (passed ++ rest) ≡ k + length rest
  many = rw (length-append, w.behind)

  fits_in_lem : length (passed ++ rest) ≤ places_per_cell
  fits_in_lem = rw many w.few

  pub pass_formed : Formed c
  pass_formed = rw w.cell (with_places-formed c₀ w.size (passed ++ rest) all_fit fits_in_lem)

  pass_live : live_places c ≡ passed ++ rest
  pass_live = ap live_places w.cell ∙ with_places-live c₀ w.size (passed ++ rest) all_fit fits_in_lem

  pub pass_many : length (live_places c) ≡ k + length rest
  pass_many = ap length pass_live ∙ many

  pub pass_head : take (head_size current) c ≡ take (head_size current) c₀
  pass_head = ap (take (head_size current)) w.cell ∙ head-with_places c₀ w.size (passed ++ rest)

  pass_again : (qs : List Place) → with_places c qs ≡ with_places c₀ qs
  pass_again qs = ap (λ (l : List ℕ). with_places l qs) w.cell ∙ with_places-again c₀ w.size (passed ++ rest) qs

-- ---- the next place

fit_next : {p : Place} {rest : List Place} → All (FitPlace current) (p ∷ rest) → FitPlace current p × All (FitPlace current) rest
fit_next (more f fs) = (f, fs)

module _ {c₀ c : List ℕ} {k : ℕ} {passed rest : List Place} {p : Place} (w : Passing c₀ c k passed (p ∷ rest)) where
  pub next_place : place_at c k ≡ p
  unfolding place_at
  next_place = rw (pass_live w) (get_or_at passed p rest no_place k w.behind)

  pub next-fit : FitPlace current p
  next-fit = (fit_next w.fit-rest).0

  pub next_changes : (q : Place) → FitPlace current q → (c' : List ℕ) → c' ≡ with_place c k q → Passing c₀ c' (k + 1) (passed ++ (q ∷ [])) rest
  next_changes q fits c' e =
      record {
        size = w.size;
        cell = e ∙ pass_again w (set (live_places c) k q) ∙ rw (pass_live w, set_at passed p rest q k w.behind, append_assoc);
        behind = rw (length-append, w.behind);
        few = omega (arith, w.few);
        fit_passed = all_append w.fit_passed (more fits none);
        fit-rest = (fit_next w.fit-rest).1;
      }

  pub next_stays : Passing c₀ c (k + 1) (passed ++ (p ∷ [])) rest
  next_stays =
      record {
        size = w.size;
        cell = w.cell ∙ rw append_assoc;
        behind = rw (length-append, w.behind);
        few = omega (arith, w.few);
        fit_passed = all_append w.fit_passed (more next-fit none);
        fit-rest = (fit_next w.fit-rest).1;
      }

  without-next : without k (passed ++ (p ∷ rest)) ≡ passed ++ rest
  unfolding without
  without-next = rw (take_at passed (p ∷ rest) k w.behind, ← drop-drop 1 k (passed ++ (p ∷ rest)), drop_at passed (p ∷ rest) k w.behind)

  pub next-goes : (c' : List ℕ) → c' ≡ with_places c (without k (live_places c)) → Passing c₀ c' k passed rest
  next-goes c' e =
      record {
        size = w.size;
        cell = e ∙ pass_again w (without k (live_places c)) ∙ rw (pass_live w, without-next);
        behind = w.behind;
        few = omega (arith, w.few);
        fit_passed = w.fit_passed;
        fit-rest = (fit_next w.fit-rest).1;
      }

-- ---- what the test for a live place says

pub live-below : {live : Bool} {k n : ℕ} → live ≡ ltb k n → live ≡ true → k < n
live-below {live} {k} {n} e t = ltb-true k n (sym e ∙ t)

pub free-past : {live : Bool} {k n : ℕ} → live ≡ ltb k n → live ≡ false → n ≤ k
free-past {live} {k} {n} e t = ltb-false k n (sym e ∙ t)

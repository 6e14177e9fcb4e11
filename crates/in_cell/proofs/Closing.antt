-- The second pass of a second: the places that have ended go, the last first, and the rest close up.
-- The places that are still to be asked stand as they were, and behind them those that go on; a turn asks the last of these.
use mathlib.Core.Path.{◌≡◌, refl, sym, ap, ◌∙◌}
use mathlib.Core.Bool.{true, false}
use mathlib.Core.List.{List, [], ◌∷◌, ◌++◌, append_assoc, append-nil, flat_map}
use Prim.Native.Nat.{ℕ, ◌+◌, ◌<◌, ◌≤◌}
use native.Mathlib.Numerals.{add-one}
use native.Mathlib.Omega.{arith}
use lib.ListN.{length, take, get_or}
use lib.Seq.{take_all, take-suc, length-take-le}
use Rattle.octets.specs.Runs.{Bytes}
use Rattle.rules.specs.Lists.{those}
use Rattle.rules.specs.Layout.{current, places_per_cell}
use Rattle.rules.specs.InCell.{has_ended}
use Rattle.rules.specs.declared.Place.{Place}
use Rattle.rules.proofs.AllLaws.{All, none, more}
use Rattle.rules.proofs.MapLaws.{flat_map_append}
use Rattle.rules.proofs.PlaceCodec.{FitPlace}
use Rattle.cell_read.specs.Places.{live_places, with_places, Formed, no_place, place_at, without}
use Rattle.cell_read.proofs.PlacesLaws.{live-few, live-fit}
use Rattle.in_cell.specs.Second.{going_on}
use Rattle.in_cell.proofs.Passing.{Passing, pass_formed, pass_many, next_place, next-goes}

-- ---- those that go on

goes : (p : Place) (ps : List Place) → has_ended p ≡ true → going_on (p ∷ ps) ≡ going_on ps
unfolding going_on those flat_map
goes p ps e = rw e

stays : (p : Place) (ps : List Place) → has_ended p ≡ false → going_on (p ∷ ps) ≡ p ∷ going_on ps
unfolding going_on those flat_map
stays p ps e = rw e

going_on-none : going_on [] ≡ []
unfolding going_on those flat_map
going_on-none = refl

going_on-append : (ps qs : List Place) → going_on (ps ++ qs) ≡ going_on ps ++ going_on qs
unfolding going_on those
going_on-append ps qs = rw flat_map_append

-- ---- a list by its last place

last_of : (ps : List Place) (k : ℕ) → length ps ≡ k + 1 → ps ≡ take k ps ++ (get_or ps k no_place ∷ [])
last_of ps k e = sym (take_all (k + 1) ps (omega arith)) ∙ rw (add-one k, take-suc ps k no_place (omega arith))

front_fit : (ps : List Place) (p : Place) → All (FitPlace current) (ps ++ (p ∷ [])) → All (FitPlace current) ps × FitPlace current p
front_fit [] p (more f fs) = (none, f)
front_fit (x ∷ ps) p (more f fs) = let rest = front_fit ps p fs in (more f rest.0, rest.1)

-- the last of the places passed is the first of the rest
pass_back : {c₀ c : List ℕ} {n k : ℕ} {before after : List Place} → Passing c₀ c n before after → n ≡ k + 1 → Passing c₀ c k (take k before) (get_or before k no_place ∷ after)
pass_back {c₀} {c} {n} {k} {before} {after} w e =
    let cut = last_of before k (w.behind ∙ e) in
    let fits = front_fit (take k before) (get_or before k no_place) (rw cut at w.fit_passed) in
    record {
      size = w.size;
      cell = w.cell ∙ ap (λ (l : List Place). with_places c₀ (l ++ after)) cut ∙ rw append_assoc;
      behind = length-take-le k before (omega (arith, w.behind));
      few = omega (arith, w.few);
      fit_passed = fits.0;
      fit-rest = more fits.1 w.fit-rest;
    }

-- ---- between two places

-- the places below k are still to be asked, n of them live, and behind them stand those that go on
pub record Closing (c₀ c : List ℕ) (k : ℕ) : Type 0 where
  pub n : ℕ
  pub before : List Place
  pub after : List Place
  pub pass : Passing c₀ c n before after
  pub formed : Formed c
  pub many : length (live_places c) ≡ n + length after
  pub few : n ≤ k
  -- where a place below k is free, none is live behind it
  pub whole : n < k → length after ≡ 0
  pub left : going_on (live_places c₀) ≡ going_on before ++ after

pub close_starts : (c : List ℕ) → Bytes c → Formed c → Closing c c places_per_cell
close_starts c bytes formed =
    let few = live-few c in
    record {
      n = length (live_places c);
      before = live_places c;
      after = [];
      pass = record {
        size = formed.size;
        cell = formed.whole ∙ ap (with_places c) (sym (append-nil (live_places c)));
        behind = refl;
        few = omega arith;
        fit_passed = live-fit c bytes formed.size;
        fit-rest = none;
      };
      formed = formed;
      many = omega arith;
      few = few;
      whole = λ h. refl;
      left = sym (append-nil (going_on (live_places c)));
    }

module _ {c₀ c : List ℕ} {m k : ℕ} (g : Closing c₀ c m) (e : m ≡ k + 1) where
  -- a free place, behind which none is live
  pub close_free : length (live_places c) ≤ k → Closing c₀ c k
  close_free h =
      let many = g.many in
      let few = g.few in
      let none_left : g.n < m → length g.after ≡ 0 = g.whole in
      record {
        n = g.n;
        before = g.before;
        after = g.after;
        pass = g.pass;
        formed = g.formed;
        many = many;
        few = omega arith;
        whole = λ h. none_left (omega arith);
        left = g.left;
      }

  module _ (live : k < length (live_places c)) where
    whole_before : g.n ≡ k + 1
    whole_before =
        let many = g.many in
        let few = g.few in
        let none_left : g.n < m → length g.after ≡ 0 = g.whole in
        grind arith

    here : Passing c₀ c k (take k g.before) (get_or g.before k no_place ∷ g.after)
    here = pass_back g.pass whole_before

    split : going_on (live_places c₀) ≡ going_on (take k g.before) ++ (going_on (get_or g.before k no_place ∷ []) ++ g.after)
    split =
        g.left
        ∙ ap (λ (l : List Place). going_on l ++ g.after) (last_of g.before k (g.pass.behind ∙ whole_before))
        ∙ rw (going_on-append, append_assoc)

    pub close_goes : has_ended (place_at c k) ≡ true → (c' : List ℕ) → c' ≡ with_places c (without k (live_places c)) → Closing c₀ c' k
    close_goes h c' e =
        let pass = next-goes here c' e in
        record {
          n = k;
          before = take k g.before;
          after = g.after;
          pass = pass;
          formed = pass_formed pass;
          many = pass_many pass;
          few = omega arith;
          whole = λ h. absurd (omega arith);
          left = split ∙ rw (goes _ [] (rw (next_place here) at h), going_on-none);
        }

    pub close_stays : has_ended (place_at c k) ≡ false → Closing c₀ c k
    close_stays h =
        record {
          n = k;
          before = take k g.before;
          after = get_or g.before k no_place ∷ g.after;
          pass = here;
          formed = g.formed;
          many = pass_many here;
          few = omega arith;
          whole = λ h. absurd (omega arith);
          left = split ∙ rw (stays _ [] (rw (next_place here) at h), going_on-none);
        }

over : (c₀ : List ℕ) {c : List ℕ} (before after : List Place) → length before ≤ 0 → c ≡ with_places c₀ (before ++ after) → going_on (live_places c₀) ≡ going_on before ++ after
    → c ≡ with_places c₀ (going_on (live_places c₀))
unfolding going_on those flat_map
over c₀ [] after h e left = e ∙ ap (with_places c₀) (sym left)
over c₀ (p ∷ before) after h e left = absurd (omega arith)

pub close_ends : {c₀ c : List ℕ} {k : ℕ} → Closing c₀ c k → k ≤ 0 → c ≡ with_places c₀ (going_on (live_places c₀))
close_ends {c₀} g h = over c₀ g.before g.after (omega (arith, g.few, g.pass.behind)) g.pass.cell g.left

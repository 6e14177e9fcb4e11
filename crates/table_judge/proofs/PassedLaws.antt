-- Places are unlike those passed exactly if no text among theirs is one passed; a text, an identifier and a serial number, is one number.
-- By the places, and of each by `same_text`: one comparison of texts is one of identifiers and one of serial numbers.
use mathlib.Core.Path.{◌≡◌, refl, sym}
use mathlib.Core.Bool.{Bool, true, false, not, ◌&&◌, ◌||◌}
use mathlib.Core.List.{List, [], ◌∷◌}
use Prim.Native.Nat.{ℕ}
use native.Mathlib.Omega.{arith}
use lib.Dec.{eqb}
use Rattle.octets.specs.Runs.{gets}
use Rattle.octets.specs.Numbers.{be}
use Rattle.octets.specs.Fields.{offset}
use Rattle.octets.proofs.NumbersLaws.{be-run, be-gets_lt}
use Rattle.octets.proofs.FieldsLaws.{field_at}
use Rattle.rules.specs.Lists.{every, any}
use Rattle.rules.specs.Layout.{current, identifier_in_place, serial_in_place, place_fields}
use Rattle.rules.specs.Table.{place_of, is_free, places_of, is_text, text_of, running}
use Rattle.rules.specs.declared.Place.{Place}
use Rattle.rules.proofs.TestLaws.{cond_either}
use Rattle.rules.proofs.AllLaws.{All, none, more}
use Rattle.rules.proofs.PlacesCodec.{PlaceRun}
use Rattle.rules.proofs.PlaceLaws.{Small, same_text}

abbrev pub text_at_lem : List ℕ → ℕ
text_at_lem b = be (gets b 0 4)

module _ (b : List ℕ) (run : PlaceRun current b) where
  pub text_of_lem : text_at_lem b ≡ text_of (place_of current b)
  unfolding text_of place_of offset
  text_of_lem =
      rw (field_at (place_fields current) identifier_in_place b (omega (arith, run.1)), field_at (place_fields current) serial_in_place b (omega (arith, run.1)))
      (sym (be-run 2 2 b 0 2 refl))

  pub small : Small (place_of current b)
  unfolding place_of offset
  small = rw (field_at (place_fields current) serial_in_place b (omega (arith, run.1))) (be-gets_lt 2 2 b run.0)

-- none of the texts passed
unfoldable pub fresh : ℕ → List ℕ → Bool
fresh k [] = true
fresh k (x ∷ xs) = not (eqb k x) && fresh k xs

unfoldable pub apart : List ℕ → List Place → Bool
apart ks ps = every (λ p. fresh (text_of p) ks) ps

pub apart_none : (ps : List Place) → apart [] ps ≡ true
unfolding apart every fresh
apart_none [] = refl
apart_none (p ∷ ps) = apart_none ps

pub apart_cons : (ks : List ℕ) (p : Place) (ps : List Place) → apart ks (p ∷ ps) ≡ fresh (text_of p) ks && apart ks ps
unfolding apart every
apart_cons ks p ps = refl

-- a text passed is one that runs before
pub apart_more : (p : Place) (ks : List ℕ) {ps : List Place} → Small p → All Small ps
    → apart (text_of p ∷ ks) ps ≡ not (running p.identifier p.serial ps) && apart ks ps
unfolding text_of apart every fresh running any
apart_more p ks h none = refl
apart_more p ks h (more {x = q} {xs = ps} s ss) =
    rw (same_text p.identifier p.serial q h s, apart_more p ks h ss) (turn (is_text p.identifier p.serial q) (fresh (text_of q) ks) _ _)
  where
    turn : (t f r a : Bool) → not t && f && (not r && a) ≡ not (t || r) && (f && a)
    turn true f r a = refl
    turn false true r a = refl
    turn false false true a = refl
    turn false false false a = refl

pub small-places : {bs : List (List ℕ)} → All (PlaceRun current) bs → All Small (places_of current bs)
unfolding places_of
small-places none = none
small-places (more {x = b} {xs = bs} r rs) =
    cond_either (All Small) (is_free b) [] (place_of current b ∷ places_of current bs) (λ e. none) (λ e. more (small b r) (small-places rs))

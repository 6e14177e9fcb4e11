-- The walk over a cell's places judges as `legal_places` says: a place whose live byte is 0 must be free, and all behind it; any other must be live, legal and unlike those before.
-- By the places, with the texts passed so far. The last three texts are enough, since a cell has four places.
use mathlib.Core.Path.{◌≡◌, refl, ◌∙◌}
use mathlib.Core.Bool.{Bool, true, false, cond, not, ◌&&◌, and_assoc, and_comm, and-true}
use mathlib.Core.List.{List, [], ◌∷◌}
use Prim.Native.Nat.{ℕ, ◌^◌}
use native.Mathlib.Omega.{arith}
use borrow.Author.Tests.{eqb-true, eqb-false, ne_eqb}
use lib.Dec.{eqb}
use Rattle.std.specs.Prelude.{Option, None, Some}
use Rattle.std.specs.Option.{option_eq}
use lib.ListN.{length}
use Rattle.octets.specs.Runs.{Bytes, pieces}
use Rattle.octets.specs.Fields.{field_of}
use Rattle.octets.proofs.FieldsLaws.{numbers-zeros}
use Rattle.octets.proofs.NumbersLaws.{be-gets_lt}
use Rattle.rules.specs.Lists.{every}
use Rattle.rules.specs.Layout.{current, live_in_place, place_fields, place_size, places_per_cell}
use Rattle.rules.specs.Table.{place_of, is_free, is_live, live_first, places_of, legal_place, text_of, running, different, legal_places}
use Rattle.rules.proofs.ListsLaws.{zeros-replicate}
use Rattle.rules.proofs.TestLaws.{by_test, cond_either}
use Rattle.rules.proofs.AllLaws.{All, none, more}
use Rattle.rules.proofs.PlacesCodec.{PlaceRun}
use Rattle.table_judge.specs.Judge.{legal_live}
use Rattle.table_judge.proofs.PassedLaws.{text_at_lem, text_of_lem, small, fresh, apart, apart_none, apart_cons, apart_more, small-places}

-- ---- the live byte

abbrev pub live_byte : List ℕ → ℕ
live_byte b = field_of (place_fields current) live_in_place b

zero-not-live : (b : List ℕ) → live_byte b ≡ 0 → is_live current b ≡ false
unfolding is_live
zero-not-live b e = rw e

free-zero : (b : List ℕ) → is_free b ≡ true → live_byte b ≡ 0
unfolding is_free field_of
free-zero b e = rw (zeros-replicate b e, numbers-zeros (place_fields current) (length b))

-- ---- the walk, with all texts passed

unfoldable walk_all : List ℕ → List (List ℕ) → Bool
walk_all ks [] = true
walk_all ks (b ∷ bs) =
    cond (eqb (live_byte b) 0) (every is_free (b ∷ bs))
    (legal_live b && fresh (text_at_lem b) ks && walk_all (text_at_lem b ∷ ks) bs)

-- what `legal_places` asks, and that no text is one of those passed
unfoldable legal_behind : List ℕ → List (List ℕ) → Bool
legal_behind ks bs = live_first current bs && every (legal_place current) (places_of current bs) && (different (places_of current bs) && apart ks (places_of current bs))

empty : (ks : List ℕ) → legal_behind ks [] ≡ true
unfolding legal_behind live_first places_of every different apart
empty ks = refl

stops : (ks : List ℕ) (b : List ℕ) (bs : List (List ℕ)) → live_byte b ≡ 0 → legal_behind ks (b ∷ bs) ≡ every is_free (b ∷ bs)
unfolding legal_behind live_first places_of every different apart
stops ks b bs z =
    by_test (is_free b)
    (λ e. rw e (simp and-true))
    (λ e. rw (e, zero-not-live b z))

and_left_comm : (a b c : Bool) → a && (b && c) ≡ b && (a && c)
and_left_comm a b c = rw (← and_assoc a b c, and_comm a b, and_assoc b a c)

regroup : (l f g e nr d k a : Bool) → l && f && (g && e) && (nr && d && (k && a)) ≡ l && g && k && (f && e && (d && (nr && a)))
regroup l f g e nr d k a = simp (and_assoc, and_left_comm)

passes : (ks : List ℕ) (b : List ℕ) (bs : List (List ℕ)) → PlaceRun current b → All (PlaceRun current) bs → (live_byte b ≡ 0 → ⊥)
    → legal_behind ks (b ∷ bs) ≡ legal_live b && fresh (text_at_lem b) ks && legal_behind (text_at_lem b ∷ ks) bs
unfolding legal_behind live_first places_of every different legal_live
passes ks b bs r rs n =
    let live : is_free b ≡ false = by_test (is_free b) (λ e. absurd (n (free-zero b e))) (λ e. e) in
    let p = place_of current b in
    let ps = places_of current bs in
    rw (live, text_of_lem b r, apart_cons, apart_more p ks (small b r) (small-places rs))
    (regroup (is_live current b) (live_first current bs) (legal_place current p) (every (legal_place current) ps)
    (not (running p.identifier p.serial ps)) (different ps) (fresh (text_of p) ks) (apart ks ps))

walks : (ks : List ℕ) {bs : List (List ℕ)} → All (PlaceRun current) bs → legal_behind ks bs ≡ walk_all ks bs
unfolding walk_all
walks ks none = empty ks
walks ks (more {x = b} {xs = bs} r rs) =
    cond_either (λ w. legal_behind ks (b ∷ bs) ≡ w) (eqb (live_byte b) 0) (every is_free (b ∷ bs)) (legal_live b && fresh (text_at_lem b) ks && walk_all (text_at_lem b ∷ ks) bs)
    (λ e. stops ks b bs (eqb-true (live_byte b) 0 e))
    (λ e. passes ks b bs r rs (eqb-false (live_byte b) 0 e) ∙ rw (walks (text_at_lem b ∷ ks) rs))

-- ---- the walk, with the last three texts

unfoldable pub walk : Option ℕ → Option ℕ → Option ℕ → List (List ℕ) → Bool
walk x y z [] = true
walk x y z (b ∷ bs) =
    cond (eqb (live_byte b) 0) (every is_free (b ∷ bs))
    (legal_live b && not (option_eq eqb (Some (text_at_lem b)) x) && not (option_eq eqb (Some (text_at_lem b)) y) && not (option_eq eqb (Some (text_at_lem b)) z) && walk (Some (text_at_lem b)) x y bs)

-- above every text
abbrev pub no_text : ℕ
no_text = 256 ^ 4

pub no_text_lem : (b : List ℕ) → Bytes b → eqb (text_at_lem b) no_text ≡ false
no_text_lem b h = ne_eqb (text_at_lem b) no_text (λ (e : text_at_lem b ≡ no_text). omega (arith, be-gets_lt 4 0 b h))

walk-four : {a b c d : List ℕ} → All (PlaceRun current) (a ∷ b ∷ c ∷ d ∷ []) → walk_all [] (a ∷ b ∷ c ∷ d ∷ []) ≡ walk None None None (a ∷ b ∷ c ∷ d ∷ [])
unfolding walk_all walk fresh
walk-four (more {x = a} p (more {x = b} q (more {x = c} r (more {x = d} s none)))) =
    simp (and-true, and_assoc)

starts : (bs : List (List ℕ)) → legal_places current bs ≡ legal_behind [] bs
unfolding legal_places legal_behind
starts bs = rw (apart_none (places_of current bs), and-true)

pub walk-starts : (l : List ℕ)
    → let bs = pieces (place_size current) places_per_cell l in All (PlaceRun current) bs → legal_places current bs ≡ walk None None None bs
unfolding pieces
walk-starts l rs = starts _ ∙ walks [] rs ∙ walk-four rs

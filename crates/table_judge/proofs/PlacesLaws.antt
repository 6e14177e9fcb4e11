-- The loop over a cell's places: what is left of them, walked with the last three texts, decides whether the cell's places are legal.
-- A turn peels one place, whose bytes the code reads where they stand: `pieces_more` and `gets-gets`.
use mathlib.Core.Path.{◌≡◌, sym, ◌∙◌}
use mathlib.Core.Bool.{Bool, true, false, not, ◌&&◌}
use mathlib.Core.List.{List}
use Prim.Native.Nat.{ℕ, ◌+◌, ◌-◌, ◌*◌, ◌≤◌, ◌<◌}
use native.Mathlib.Nat.{add-zero}
use native.Mathlib.Omega.{arith}
use borrow.Author.Tests.{ne_eqb}
use lib.Dec.{eqb}
use Rattle.std.specs.Prelude.{Option, None, Some}
use Rattle.std.specs.Option.{option_eq}
use lib.ListN.{length, take, drop, length-drop}
use lib.Seq.{length-take-le}
use Rattle.octets.specs.Runs.{Bytes, gets, pieces}
use Rattle.octets.specs.Numbers.{be}
use Rattle.octets.specs.Fields.{offset}
use Rattle.octets.proofs.RunsLaws.{gets_eq, gets-gets}
use Rattle.octets.proofs.FieldsLaws.{field_at}
use Rattle.rules.specs.Lists.{every}
use Rattle.rules.specs.Layout.{current, live_in_place, place_fields, place_size, places_per_cell}
use Rattle.rules.specs.Table.{is_free, legal_places}
use Rattle.rules.proofs.AllLaws.{all_pieces}
use Rattle.table_judge.specs.Judge.{legal_live}
use Rattle.octets.proofs.PiecesLaws.{pieces_more, pieces_none}
use Rattle.table_judge.proofs.PassedLaws.{text_at_lem}
use Rattle.table_judge.proofs.WalkLaws.{live_byte, walk, walk-starts}

pub record PlacesLeft (l : List ℕ) (at left : ℕ) (x y z : Option ℕ) : Type 0 where
  pub few : left ≤ places_per_cell
  pub fits : at + place_size current * left ≡ length l
  pub rest : legal_places current (pieces (place_size current) places_per_cell l) ≡ walk x y z (pieces (place_size current) left (drop at l))

pub places-start : (l : List ℕ) → Bytes l → length l ≡ place_size current * places_per_cell → PlacesLeft l 0 places_per_cell None None None
places-start l h n =
    record {
      few = omega arith;
      fits = omega arith;
      rest = walk-starts l (all_pieces (place_size current) places_per_cell l h (omega arith));
    }

pub places-end : {l : List ℕ} {at left : ℕ} {x y z : Option ℕ} → PlacesLeft l at left x y z → left ≤ 0 → legal_places current (pieces (place_size current) places_per_cell l) ≡ true
unfolding walk
places-end {l} {at} {left} p h = p.rest ∙ rw (pieces_none (place_size current) left (drop at l) h)

module _ {l : List ℕ} {at left : ℕ} {x y z : Option ℕ} (p : PlacesLeft l at left x y z) (h : 0 < left) where
  here : at + 24 ≤ length l
  here = let f = p.fits in omega arith

  live_here : be (gets l (at + 21) 1) ≡ live_byte (take 24 (drop at l))
  unfolding offset
  live_here =
      let long : length (take 24 (drop at l)) ≡ 24 = length-take-le 24 (drop at l) (rw length-drop (omega (arith, here))) in
      rw (← gets-gets 1 24 l at 21 (omega arith), gets_eq 24 l at here) (sym (field_at (place_fields current) live_in_place (take 24 (drop at l)) (omega (arith, long))))

  text_here : be (gets l at 4) ≡ text_at_lem (take 24 (drop at l))
  text_here = rw (← gets_eq 24 l at here, gets-gets 4 24 l at 0 (omega arith), add-zero)

  -- what the code read here: the live byte v, the text t, and r, whether the place that it lent is legal
  module _ (v : ℕ) (ev : v ≡ be (gets l (at + 21) 1)) where
    pub places-free : v ≡ 0 → legal_places current (pieces (place_size current) places_per_cell l) ≡ every is_free (pieces (place_size current) left (drop at l))
    unfolding walk
    places-free e = p.rest ∙ rw (pieces_more (place_size current) left at l h, ← live_here, ← ev, e)

    module _ (n : v ≡ 0 → ⊥) (t : ℕ) (et : t ≡ be (gets l at 4)) (r : Bool) (er : r ≡ legal_live (take (at + place_size current - at) (drop at l))) where
      turn : legal_places current (pieces (place_size current) places_per_cell l)
          ≡ r && not (option_eq eqb (Some t) x) && not (option_eq eqb (Some t) y) && not (option_eq eqb (Some t) z) && walk (Some t) x y (pieces (place_size current) (left - 1) (drop (at + place_size current) l))
      unfolding walk
      turn =
          let k : at + place_size current - at ≡ place_size current = omega arith in
          p.rest ∙ rw (pieces_more (place_size current) left at l h, ← live_here, ← ev, ne_eqb v 0 n, ← text_here, ← et, er, k)

      pub places-wrong : (r && not (option_eq eqb (Some t) x) && not (option_eq eqb (Some t) y) && not (option_eq eqb (Some t) z)) ≡ false → legal_places current (pieces (place_size current) places_per_cell l) ≡ false
      places-wrong e = turn ∙ rw e

      pub places_on : (r && not (option_eq eqb (Some t) x) && not (option_eq eqb (Some t) y) && not (option_eq eqb (Some t) z)) ≡ true → {next fewer : ℕ} → next ≡ at + place_size current → fewer ≡ left - 1 → PlacesLeft l next fewer (Some t) x y
      places_on e n m =
          let few = p.few in
          let fits = p.fits in
          record {
            few = omega arith;
            fits = omega arith;
            rest = turn ∙ rw (n, m, e);
          }

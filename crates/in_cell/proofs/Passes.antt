-- A second in two passes: every live place changes where it stands, and then those that have ended go, if there are any.
-- A legal place that only waits has not ended, so asking the changed places again finds the same ones.
use mathlib.Core.Path.{◌≡◌, refl, sym, ap, ◌∙◌}
use mathlib.Core.Bool.{true, false, not}
use mathlib.Core.List.{List, [], ◌∷◌, map, flat_map}
use Prim.Native.Nat.{ℕ, ◌^◌, ◌<◌, ◌≤◌}
use native.Mathlib.Omega.{arith}
use lib.Dec.{eqb}
use borrow.Author.Tests.{eqb-false, ne_eqb}
use lib.ListN.{length, get_or, length-map}
use Rattle.octets.specs.Runs.{Bytes}
use Rattle.rules.specs.Lists.{every, those}
use Rattle.rules.specs.Layout.{current, place_fields, places_per_cell}
use Rattle.rules.specs.Table.{place_numbers, legal_place, place_runs}
use Rattle.rules.specs.InCell.{is_due, later, with_counts, has_ended, stays_live, second}
use Rattle.rules.specs.declared.Place.{Place}
use Rattle.rules.proofs.TestLaws.{both, by_test}
use Rattle.rules.proofs.PlaceLaws.{legal_facts}
use Rattle.rules.proofs.SoundPlaceLaws.{fits-at}
use Rattle.rules.proofs.SecondLaws.{one_more-most, later-due, later-waits}
use Rattle.rules.proofs.AllLaws.{All, all_imply, all_map}
use Rattle.rules.proofs.PlaceCodec.{FitPlace}
use Rattle.rules.proofs.PlacesCodec.{legal-places}
use Rattle.rules.proofs.CellCodec.{legal-cell}
use Rattle.cell_read.specs.Places.{live_places, with_places, Formed}
use Rattle.cell_read.proofs.PlacesLaws.{with_places-again, with_places-live, with_places-formed, live-few, live-fit, fit-counts}
use Rattle.in_cell.specs.Step.{Ready, Stepped}
use Rattle.in_cell.specs.Second.{going_on, endings, AllLater}

-- a legal place has not ended
legal-goes_on : (p : Place) → legal_place current p ≡ true → has_ended p ≡ false
unfolding has_ended
legal-goes_on p e =
    let l = legal_facts current p e in
    by_test (eqb p.requested.0 0) (λ z. rw z)
    (λ n. rw (n, ne_eqb p.sent.0 p.requested.0 (λ s. omega (arith, l.sent (eqb-false p.requested.0 0 n)))))

-- waiting changes neither count that says so
pub waits-goes_on : (p : Place) → legal_place current p ≡ true → is_due p ≡ false → has_ended (later p) ≡ false
unfolding with_counts has_ended
waits-goes_on p e d = rw (later-waits p d) (legal-goes_on p e)

-- the counts of a place after the second fit their fields
pub later-fit : (p : Place) → FitPlace current p → FitPlace current (later p)
unfolding place_numbers with_counts
later-fit p fit =
    let at : (f : ℕ) → get_or (place_numbers p) f 0 < 256 ^ get_or (place_fields current) f 0 = λ f. fits-at (place_fields current) (place_numbers p) f fit in
    let period : p.period.0 < 256 ^ 4 = at 3 in
    let sent : p.sent.0 < 256 ^ 2 = at 5 in
    let wait : p.wait.0 < 256 ^ 4 = at 6 in
    by_test (is_due p)
    (λ d. rw (later-due p d) (fit-counts p fit _ _ (omega (arith, one_more-most p.sent (omega arith))) (omega arith)))
    (λ d. rw (later-waits p d) (fit-counts p fit _ _ sent (omega arith)))

stays_or_ended : (p : Place) → legal_place current p ≡ true → stays_live p ≡ not (has_ended (later p))
unfolding stays_live
stays_or_ended p e =
    by_test (is_due p) (λ d. rw d) (λ d. rw (d, waits-goes_on p e d))

pub two-passes : (ps : List Place) → every (legal_place current) ps ≡ true → (second ps).places ≡ those (λ p. not (has_ended p)) (map later ps)
unfolding second those flat_map every
two-passes [] e = refl
two-passes (p ∷ ps) e =
    let h = both (legal_place current p) (every (legal_place current) ps) e in
    rw (stays_or_ended p h.0, two-passes ps h.1)

-- ---- the two passes of a cell

none-ended : (ps : List Place) → endings ps ≡ 0 → going_on ps ≡ ps
unfolding endings going_on those flat_map
none-ended [] e = refl
none-ended (p ∷ ps) e = by_test (has_ended p) (λ t. absurd (omega (arith, rw t at e))) (λ t. rw (t, none-ended ps (rw t at e)))

module _ (c out : List ℕ) (bytes : Bytes c) (ready : Ready c out places_per_cell) {c' out' : List ℕ} {rows gone : ℕ} (pass : AllLater c out c' out' rows gone) where
  legal : every (legal_place current) (live_places c) ≡ true
  legal = (legal-places current (place_runs current c) (legal-cell current c ready.legal).1).each

  fit : All (FitPlace current) (map later (live_places c))
  fit = all_map (FitPlace current) later (all_imply later-fit (live-fit c bytes ready.size))

  few : length (map later (live_places c)) ≤ places_per_cell
  few = rw length-map (live-few c)

  between : live_places c' ≡ map later (live_places c)
  between = ap live_places pass.cell ∙ with_places-live c ready.size (map later (live_places c)) fit few

  pub pass_leaves : Formed c'
  pass_leaves = rw pass.cell (with_places-formed c ready.size (map later (live_places c)) fit few)

  -- none has ended
  pub stepped_one : gone ≤ 0 → Stepped (second (live_places c)) c out c' out' places_per_cell rows
  unfolding going_on
  stepped_one h =
      let none : going_on (map later (live_places c)) ≡ map later (live_places c) = none-ended (map later (live_places c)) (omega (arith, pass.ended)) in
      record {
        cell = pass.cell ∙ ap (with_places c) (sym (two-passes (live_places c) legal ∙ none));
        many = pass.many;
        few = pass.few;
        rows = pass.answer;
      }

  -- some have, and have gone
  pub stepped_two : (c'' : List ℕ) → c'' ≡ with_places c' (going_on (live_places c')) → Stepped (second (live_places c)) c out c'' out' places_per_cell rows
  unfolding going_on
  stepped_two c'' e =
      record {
        cell =
            e
            ∙ rw (between, pass.cell)
            (with_places-again c ready.size (map later (live_places c)) (going_on (map later (live_places c)))
            ∙ ap (with_places c) (sym (two-passes (live_places c) legal)));
        many = pass.many;
        few = pass.few;
        rows = pass.answer;
      }

-- A second leaves the places of a cell sound and gives at most a row for each; a text without end never ends, and its count stays at the most.
-- A place after the second is the place with other counts: wait 0 or above 0 are the two cases.
use mathlib.Core.Path.{◌≡◌, ap, ◌∙◌}
use mathlib.Core.Bool.{true, false}
use mathlib.Core.List.{List}
use Prim.Native.Nat.{◌+◌, ◌≤◌, ◌<◌}
use native.Mathlib.Omega.{arith}
use lib.Dec.{ltb}
use lib.ListN.{length}
use borrow.Author.Tests.{ltb-true, eqb-false, not-true, ne_eqb}
use Rattle.rules.specs.Lists.{larger}
use Rattle.rules.specs.Layout.{Version, most_sent}
use Rattle.rules.specs.Sound.{sound_place, sound_places}
use Rattle.rules.specs.InCell.{is_due, one_more, one_less, with_counts, later, has_ended, stays_live, second}
use Rattle.rules.specs.declared.Seconds.{Seconds}
use Rattle.rules.specs.declared.Broadcasts.{Broadcasts}
use Rattle.rules.specs.declared.Place.{Place}
use Rattle.rules.proofs.ListsLaws.{every-cond, few-flat_map, few-cond}
use Rattle.rules.proofs.TestLaws.{cond_either, by_test, larger-left, larger_right}
use Rattle.rules.proofs.PlaceLaws.{keeps-cond}
use Rattle.rules.proofs.SoundPlaceLaws.{sound_facts, facts_sound, keeps-sound}

-- ---- one place

pub one_more-most : (n : Broadcasts) → n.0 ≤ most_sent → (one_more n).0 ≤ most_sent
unfolding one_more
one_more-most n h =
    cond_either (λ (k : Broadcasts). k.0 ≤ most_sent) (ltb n.0 most_sent) _ _ (λ e. omega (arith, ltb-true n.0 most_sent e)) (λ e. h)

pub one_more-next : (n : Broadcasts) → (one_more n).0 ≤ n.0 + 1
unfolding one_more
one_more-next n = cond_either (λ (k : Broadcasts). k.0 ≤ n.0 + 1) (ltb n.0 most_sent) _ _ (λ e. omega arith) (λ e. omega arith)

-- a place that was due, and one that waits on
abbrev pub broadcast : Place → Place
broadcast p = with_counts p (one_more p.sent) (one_less p.period)

abbrev pub waited : Place → Place
waited p = with_counts p p.sent (one_less p.wait)

pub later-due : (p : Place) → is_due p ≡ true → later p ≡ broadcast p
unfolding later
later-due p e = rw e

pub later-waits : (p : Place) → is_due p ≡ false → later p ≡ waited p
unfolding later
later-waits p e = rw e

-- a second changes nothing but counts
pub later-with : (p : Place) → later p ≡ with_counts p (later p).sent (later p).wait
unfolding later with_counts
later-with p = by_test (is_due p) (λ e. rw e) (λ e. rw e)

later-identifier : (p : Place) → (later p).identifier ≡ p.identifier
unfolding with_counts
later-identifier p = ap (λ (x : Place). x.identifier) (later-with p)

later-serial : (p : Place) → (later p).serial ≡ p.serial
unfolding with_counts
later-serial p = ap (λ (x : Place). x.serial) (later-with p)

-- a text without end never ends
pub unending : (p : Place) → p.requested.0 ≡ 0 → stays_live p ≡ true
unfolding stays_live has_ended with_counts
unending p e =
    let r : (later p).requested.0 ≡ 0 = ap (λ (x : Place). x.requested.0) (later-with p) ∙ e in
    by_test (is_due p) (λ d. rw (d, r)) (λ d. rw d)

pub saturated : (p : Place) → p.sent.0 ≡ most_sent → p.wait.0 ≡ 0 → (later p).sent.0 ≡ most_sent
unfolding is_due one_more later with_counts
saturated p s w = rw (w, s)

pub later-most : (p : Place) → p.sent.0 ≤ most_sent → (later p).sent.0 ≤ most_sent
unfolding with_counts
later-most p h =
    by_test (is_due p) (λ d. rw (later-due p d) (one_more-most p.sent h)) (λ d. rw (later-waits p d) h)

-- ---- one sound place

with-sound : (v : Version) → (p : Place) → sound_place v p ≡ true → (sent : Broadcasts) (wait : Seconds) → sent.0 ≤ most_sent → wait.0 < larger p.period.0 1 → ((p.requested.0 ≡ 0 → ⊥) → sent.0 < p.requested.0)
    → sound_place v (with_counts p sent wait) ≡ true
unfolding with_counts
with-sound v p e sent wait a b c =
    let s = sound_facts v p e in
    facts_sound v (with_counts p sent wait)
    (record {
      identifier = s.identifier;
      serial = s.serial;
      content = s.content;
      requested = s.requested;
      sent = omega arith;
      legal = record { period = s.legal.period; once = s.legal.once; wait = b; sent = c; sib = s.legal.sib };
    })

not-ended : (p : Place) → has_ended p ≡ false → (p.requested.0 ≡ 0 → ⊥) → p.sent.0 ≡ p.requested.0 → ⊥
unfolding has_ended
not-ended p e n = eqb-false p.sent.0 p.requested.0 (rw (ne_eqb p.requested.0 0 n) at e)

module _ (v : Version) where
  pub later-sound : (p : Place) → sound_place v p ≡ true → stays_live p ≡ true → sound_place v (later p) ≡ true
  unfolding stays_live with_counts
  later-sound p e l =
      let s = sound_facts v p e in
      let a = larger-left p.period.0 1 in
      let b = larger_right p.period.0 1 in
      by_test (is_due p)
      (λ d.
      let on : has_ended (broadcast p) ≡ false = not-true (has_ended (broadcast p)) (rw (d, later-due p d) at l) in
      let below : (p.requested.0 ≡ 0 → ⊥) → (one_more p.sent).0 < p.requested.0 = λ n. omega (arith, s.legal.sent n, one_more-next p.sent, not-ended (broadcast p) on n) in
      rw (later-due p d) (with-sound v p e _ _ (one_more-most p.sent (omega arith)) (omega arith) below))
      (λ d. rw (later-waits p d) (with-sound v p e _ _ (omega arith) (omega arith) s.legal.sent))

  -- ---- the cell

  pub second-sound : (ps : List Place) → sound_places v ps ≡ true → sound_places v (second ps).places ≡ true
  unfolding second
  second-sound = keeps-sound v _ (λ p. keeps-cond (stays_live p) p (later p) (later-identifier p) (later-serial p)) (λ p s. every-cond (sound_place v) (stays_live p) (later p) (later-sound p s))

pub second-few : (ps : List Place) → length (second ps).rows ≤ length ps
unfolding second
second-few = few-flat_map _ (λ p. few-cond (is_due p) _)

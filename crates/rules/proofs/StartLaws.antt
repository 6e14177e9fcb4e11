-- A Write-Replace leaves the places of a cell sound and gives one row at most; what starts nothing, or runs already, changes nothing.
-- The new place's fields fit because the request's do and the limits hold; then by the tests of `start`, in order.
use mathlib.Core.Path.{◌≡◌, refl, ap}
use mathlib.Core.Bool.{Bool, true, false, cond, not, ◌&&◌}
use mathlib.Core.List.{List, []}
use Prim.Native.Nat.{ℕ, ◌^◌, ◌≤◌, ◌<◌}
use native.Mathlib.Omega.{arith}
use lib.Dec.{eqb, ltb, leb}
use lib.ListN.{length, get_or}
use borrow.Author.Tests.{ltb-true, leb-true, eqb-true, not-false, eq-eqb}
use Rattle.rules.specs.Lists.{every}
use Rattle.rules.specs.Layout.{Version, record_fields, places_per_cell, longest_period, first_sib, last_sib}
use Rattle.rules.specs.Table.{running}
use Rattle.rules.specs.Record.{write_replace, request_numbers, concurrent, is_primary, item_end, within_limits}
use Rattle.rules.specs.Sound.{sound_place, sound_places, fit_request}
use Rattle.rules.specs.ZeroRules.{zero_rules_stop}
use Rattle.rules.specs.InCell.{Told, Done, done, reported, starts_nothing, new_place, start}
use Rattle.rules.specs.declared.Request.{Request}
use Rattle.rules.specs.declared.Place.{Place}
use Rattle.rules.specs.declared.Seconds.{Seconds}
use Rattle.rules.specs.declared.Broadcasts.{Broadcasts}
use Rattle.rules.proofs.TestLaws.{both, cond_either, or_else, neither, larger_right}
use Rattle.rules.proofs.LayoutLaws.{longest-some}
use Rattle.rules.proofs.ZeroRulesHold.{zero-rules_hold}
use Rattle.rules.proofs.SoundPlaceLaws.{fits-at, facts_sound, one-sound, snoc_sound}

module _ (v : Version) where
  -- ---- the new place

  pub record WriteLimits (q : Request) : Type 0 where
    pub period : q.period.0 ≤ (longest_period v).0
    pub sib : (first_sib ≤ q.sib) × (q.sib ≤ last_sib)

  pub write_limits : (q : Request) (items : List ℕ) → within_limits (longest_period v) q items ≡ true → q.kind ≡ write_replace → WriteLimits q
  unfolding within_limits
  write_limits q items e k =
      let limits = (both _ (every (λ x. ltb x (item_end q.area)) items) e).0 in
      let a = or_else (not (eqb q.kind write_replace)) _ limits (ap not (eq-eqb q.kind write_replace k)) in
      let b = both _ (leb q.sib last_sib) a in
      let c = both (leb q.period.0 (longest_period v).0) (leb first_sib q.sib) b.0 in
      record {
        period = leb-true q.period.0 (longest_period v).0 c.0;
        sib = (leb-true first_sib q.sib c.1, leb-true q.sib last_sib b.1);
      }

  new-short : (q : Request) → q.period.0 ≤ (longest_period v).0 → (new_place q).period.0 ≤ (longest_period v).0
  unfolding new_place
  new-short q l = cond_either (λ (s : Seconds). s.0 ≤ (longest_period v).0) (is_primary q) _ _ (λ e. longest-some v) (λ e. l)

-- period 0 comes only with requested 1: a primary has period 1, and of others the zero rules say so
once_or_primary : (b : Bool) (q : Request) → not b && zero_rules_stop q ≡ false → (cond b (record { 0 = 1 }) q.period).0 ≡ 0
    → (cond b (record { 0 = 0 }) q.requested).0 ≡ 1
once_or_primary true q n z = omega (arith, z)
once_or_primary false q n z =
    let h = (neither (eqb q.requested.0 0 && not (concurrent q)) _ (rw (zero-rules_hold q) at n)).1 in
    eqb-true q.requested.0 1 (not-false _ (rw (eq-eqb q.period.0 0 z) at h))

module _ (v : Version) where
  pub new-sound : (q : Request) (items : List ℕ) → fit_request q ≡ true → within_limits (longest_period v) q items ≡ true → q.kind ≡ write_replace → starts_nothing q ≡ false
      → sound_place v (new_place q) ≡ true
  unfolding fit_request request_numbers starts_nothing new_place
  new-sound q items f w k n =
      let l = write_limits v q items w k in
      let at : (i : ℕ) → get_or (request_numbers q 0) i 0 < 256 ^ get_or record_fields i 0 = λ i. fits-at record_fields (request_numbers q 0) i f in
      facts_sound v (new_place q)
      (record {
        identifier = at 5;
        serial = at 6;
        content = at 7;
        requested = cond_either (λ (n : Broadcasts). n.0 < 256 ^ 2) (is_primary q) _ _ (λ e. omega arith) (λ e. at 9);
        sent = omega arith;
        legal =
            record {
              period = new-short v q l.period;
              once = once_or_primary (is_primary q) q n;
              wait = larger_right (new_place q).period.0 1;
              sent = λ m. omega arith;
              sib = l.sib;
            };
      })

  -- ---- the cell

  pub start-sound : (q : Request) (items : List ℕ) → fit_request q ≡ true → within_limits (longest_period v) q items ≡ true → q.kind ≡ write_replace → (ps : List Place) → sound_places v ps ≡ true
      → sound_places v (start q ps).places ≡ true
  unfolding start new_place
  start-sound q items f w k ps s =
      let P : Done → Type 0 = λ d. sound_places v d.places ≡ true in
      cond_either P (starts_nothing q) _ _ (λ a. s) λ a.
      cond_either P (running q.identifier q.serial ps) _ _ (λ b. s) λ b.
      let new = new-sound q items f w k a in
      cond_either P (not (concurrent q)) _ _ (λ c. one-sound v (new_place q) new) λ c.
      cond_either P (ltb (length ps) places_per_cell) _ _ (λ d. snoc_sound v ps (new_place q) s (ltb-true (length ps) places_per_cell d) new b) (λ d. s)

-- no row, or one with count 0: what holds of both holds of a start's rows
pub start-rows : (P : List Told → Type 0) → P [] → P (reported 0) → (q : Request) (ps : List Place) → P (start q ps).rows
unfolding start
start-rows P none one q ps =
    let R : Done → Type 0 = λ d. P d.rows in
    cond_either R (starts_nothing q) _ _ (λ a. none) λ a.
    cond_either R (running q.identifier q.serial ps) _ _ (λ b. one) λ b.
    cond_either R (not (concurrent q)) _ _ (λ c. one) λ c.
    cond_either R (ltb (length ps) places_per_cell) _ _ (λ d. one) (λ d. none)

pub start-few : (q : Request) (ps : List Place) → length (start q ps).rows ≤ 1
start-few = start-rows (λ rows. length rows ≤ 1) (omega arith) (omega arith)

pub start-idle : (q : Request) (ps : List Place) → starts_nothing q ≡ true → start q ps ≡ done ps []
unfolding start
start-idle q ps e = rw e

pub start_repeat : (q : Request) (ps : List Place) → running q.identifier q.serial ps ≡ true → (start q ps).places ≡ ps
unfolding start
start_repeat q ps e =
    cond_either (λ (d : Done). d.places ≡ ps) (starts_nothing q) _ _ (λ a. refl) (λ a. rw e)

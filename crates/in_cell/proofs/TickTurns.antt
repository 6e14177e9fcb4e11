-- The turns of a second's first pass: the next place is broadcast or waits on, and behind the last one every place is a second later.
-- The place at hand is the first of those still to come.
use mathlib.Core.Path.{◌≡◌, sym, ap, ◌∙◌}
use mathlib.Core.Bool.{Bool, true, false}
use mathlib.Core.List.{List, [], ◌∷◌, flat_map}
use Prim.Native.Nat.{ℕ, ◌+◌, ◌<◌, ◌≤◌}
use native.Mathlib.Omega.{arith}
use mir.Val.{bool_byte}
use lib.ListN.{length}
use borrow.Author.Tests.{eq-eqb, ne_eqb}
use Rattle.rules.specs.Lists.{those}
use Rattle.rules.specs.InCell.{is_due, one_less, later, with_counts, second}
use Rattle.rules.specs.declared.Seconds.{Seconds}
use Rattle.rules.specs.declared.Place.{Place}
use Rattle.rules.proofs.TestLaws.{one-most}
use Rattle.rules.proofs.SecondLaws.{later-waits}
use Rattle.cell_read.specs.Places.{live_places, with_places, with_place, place_at, LiveAt}
use Rattle.cell_read.proofs.PlacesLaws.{live_at}
use Rattle.in_cell.specs.Step.{rows_bytes}
use Rattle.in_cell.specs.Second.{endings, ToAir, Aired, AllLater}
use Rattle.in_cell.proofs.Airing.{endings-one}
use Rattle.in_cell.proofs.Passing.{pass_many, next_place}
use Rattle.in_cell.proofs.Ticking.{Ticks, Ticking, turn-waits, turn_airs}

due : (p : Place) → p.wait.0 ≡ 0 → is_due p ≡ true
unfolding is_due
due p e = eq-eqb p.wait.0 0 e

waits : (p : Place) → (p.wait.0 ≡ 0 → ⊥) → is_due p ≡ false
unfolding is_due
waits p e = ne_eqb p.wait.0 0 e

module _ {c₀ o₀ c o : List ℕ} {k n gone : ℕ} where
  airs : (passed rest : List Place) → Ticks c₀ o₀ c o k n gone passed rest → k < length (live_places c) → (place_at c k).wait.0 ≡ 0
      → (c' o' : List ℕ) (last : Bool) → Aired c o k n c' o' last → Ticking c₀ o₀ c' o' (k + 1) (n + 1) (gone + bool_byte last)
  airs passed [] t live z c' o' last a = absurd (omega (arith, pass_many t.pass))
  airs passed (p ∷ rest) t live z c' o' last a =
      let e : place_at c k ≡ p = next_place t.pass in
      turn_airs t (due p (rw e at z)) c' o' (bool_byte last) (one-most last) (rw e at a.cell) (rw e at a.row) (ap bool_byte (rw e at a.ended) ∙ sym (endings-one (later p)))

  waits_on : (passed rest : List Place) → Ticks c₀ o₀ c o k n gone passed rest → k < length (live_places c) → ((place_at c k).wait.0 ≡ 0 → ⊥)
      → (wait : Seconds) → wait.0 ≡ (one_less (place_at c k).wait).0
      → (c' : List ℕ) → c' ≡ with_place c k (with_counts (place_at c k) (place_at c k).sent wait) → Ticking c₀ o₀ c' o (k + 1) n gone
  waits_on passed [] t live z wait ew c' a = absurd (omega (arith, pass_many t.pass))
  waits_on passed (p ∷ rest) t live z wait ew c' a =
      let e : place_at c k ≡ p = next_place t.pass in
      let d : is_due p ≡ false = waits p (rw e at z) in
      let l : later p ≡ with_counts p p.sent wait = later-waits p d ∙ ap (with_counts p p.sent) (ap (λ n. record { 0 = n }) (sym (rw e at ew))) in
      turn-waits t d c' (a ∙ rw (e, l))

  over : (passed rest : List Place) → Ticks c₀ o₀ c o k n gone passed rest → length (live_places c) ≤ k → AllLater c₀ o₀ c o n gone
  unfolding second endings those flat_map rows_bytes
  over passed [] t h =
      record {
        cell = t.pass.cell ∙ ap (with_places c₀) (sym t.places);
        many = omega (arith, t.rows);
        few = omega (arith, t.few, t.few-rows);
        answer = sym t.answer;
        ended = omega (arith, t.ended);
      }
  over passed (p ∷ rest) t h = absurd (omega (arith, pass_many t.pass))

  module _ (g : Ticking c₀ o₀ c o k n gone) where
    pub tick_to-air : k < length (live_places c) → (place_at c k).wait.0 ≡ 0 → ToAir c o k n
    tick_to-air live z =
        let at : LiveAt c k = live_at c g.formed k live in
        record {
          at = at;
          due = due (place_at c k) z;
          few = omega (arith, at.few, g.ticks.few-rows);
          room = omega (arith, at.few, g.ticks.few-rows, g.ticks.room);
        }

    pub tick_airs : k < length (live_places c) → (place_at c k).wait.0 ≡ 0 → (c' o' : List ℕ) (last : Bool) → Aired c o k n c' o' last
        → Ticking c₀ o₀ c' o' (k + 1) (n + 1) (gone + bool_byte last)
    tick_airs = airs g.passed g.rest g.ticks

    pub tick_waits : k < length (live_places c) → ((place_at c k).wait.0 ≡ 0 → ⊥) → (wait : Seconds) → wait.0 ≡ (one_less (place_at c k).wait).0
        → (c' : List ℕ) → c' ≡ with_place c k (with_counts (place_at c k) (place_at c k).sent wait) → Ticking c₀ o₀ c' o (k + 1) n gone
    tick_waits = waits_on g.passed g.rest g.ticks

    pub tick_ends : length (live_places c) ≤ k → AllLater c₀ o₀ c o n gone
    tick_ends = over g.passed g.rest g.ticks

-- An earthquake primary goes out every second until it is stopped: after any number of seconds its place is due, and stays live.
-- Period 1 leaves no wait behind a broadcast, requested 0 has no end, and a second changes neither.
use mathlib.Core.Path.{◌≡◌, refl, ap, ◌∙◌}
use mathlib.Core.Bool.{true}
use Prim.Native.Nat.{ℕ, zero, suc}
use Rattle.rules.specs.Record.{is_primary}
use Rattle.rules.specs.InCell.{new_place, is_due, with_counts, later, stays_live}
use Rattle.rules.specs.declared.Place.{Place}
use Rattle.rules.specs.declared.Request.{Request}
use Rattle.rules.proofs.SecondLaws.{later-due, later-with, unending}

-- a place that n seconds have passed over
unfoldable pub after : ℕ → Place → Place
after zero p = p
after (suc n) p = after n (later p)

-- due, and without end
pub record EverySecond (p : Place) : Type 0 where
  pub wait : p.wait.0 ≡ 0
  pub period : p.period.0 ≡ 1
  pub requested : p.requested.0 ≡ 0

pub due : (p : Place) → EverySecond p → is_due p ≡ true
unfolding is_due
due p e = rw e.wait

pub goes_on : (p : Place) → EverySecond p → EverySecond (later p)
unfolding with_counts
goes_on p e =
    record {
      wait = rw (later-due p (due p e), e.period);
      period = ap (λ (x : Place). x.period.0) (later-with p) ∙ e.period;
      requested = ap (λ (x : Place). x.requested.0) (later-with p) ∙ e.requested;
    }

always : (n : ℕ) (p : Place) → EverySecond p → EverySecond (after n p)
unfolding after
always zero p e = e
always (suc n) p e = always n (later p) (goes_on p e)

pub begins : (q : Request) → is_primary q ≡ true → EverySecond (new_place q)
unfolding new_place
begins q e = record { wait = refl; period = rw e; requested = rw e }

pub primary-goes-out : (q : Request) → is_primary q ≡ true → (n : ℕ) → (is_due (after n (new_place q)) ≡ true) × (stays_live (after n (new_place q)) ≡ true)
primary-goes-out q e n =
    let h = always n (new_place q) (begins q e) in
    (due (after n (new_place q)) h, unending (after n (new_place q)) h.requested)

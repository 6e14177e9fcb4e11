-- `all_later` makes every live place a second later, with a row for each broadcast, and counts the texts that have ended.
-- The invariant, `Ticking`, says what is left to be done; a turn broadcasts the next place or lets it wait, and at a free place nothing is left.
use mathlib.Core.Path.{◌≡◌, sym, ap, ◌∙◌}
use Prim.Native.Nat.{◌<◌}
use native.Mathlib.Omega.{arith}
use lib.ListN.{length}
use Rattle.rules.specs.declared.Seconds.{Seconds}
use Rattle.rules.proofs.TestLaws.{one-most}
use Rattle.cell_read.specs.Places.{live_places, place_at}
use Rattle.cell_read.proofs.PlacesLaws.{live-few, live_at}
use Rattle.in_cell.proofs.Passing.{live-below, free-past}
use Rattle.in_cell.proofs.Ticking.{ticks_start}
use Rattle.in_cell.proofs.TickTurns.{tick_to-air, tick_airs, tick_waits, tick_ends}
use Rattle.in_cell.proofs.second.all_later.Goals.{Else-not-is_live, Then-left-eq0, then-left-eq0, else-left-eq0}
use Rattle.in_cell.proofs.second.all_later.Goals as goal

seconds : {a b : Seconds} → a ≡ b → a.0 ≡ b.0
seconds e = ap (λ (x : Seconds). x.0) e

-- a turn's place, which is live, and one to broadcast
live : (l : Else-not-is_live) → l.loop-k.k < length (live_places l.loop-k.cell)
live l = live-below l.is_live.ensures l.if-not-is_live.false

due : (d : Then-left-eq0) → (place_at d.loop-k.cell d.loop-k.k).wait.0 ≡ 0
due d = sym (seconds d.wait-left.ensures) ∙ d.if-left-eq0.true

pub loop-k-init : goal.loop-k-init
loop-k-init c = ticks_start c.args.cell.now c.args.out.now (λ i. (c.type_inv.cell i).fits) c.requires

pub wait-left-requires : goal.wait-left-requires
wait-left-requires c = live_at _ c.loop-k.invariant.formed _ (live (goal.at.wait-left-requires c).Else-not-is_live)

pub air-requires : goal.air-requires
air-requires c =
    tick_to-air c.loop-k.invariant (live (goal.at.air-requires c).Else-not-is_live) (due (goal.at.air-requires c).Then-left-eq0)

pub overflow_add-gone : goal.overflow_add-gone
overflow_add-gone c =
    omega (arith, one-most c.air.result, c.loop-k.invariant.ticks.few-gone)

pub overflow_add-rows : goal.overflow_add-rows
overflow_add-rows c =
    omega (arith, c.loop-k.invariant.ticks.few-rows)

pub set_wait-requires : goal.set_wait-requires
set_wait-requires c =
    live_at _ c.loop-k.invariant.formed _ (live (goal.at.set_wait-requires c).Else-not-is_live)

pub loop-k-preserved : goal.loop-k-preserved
loop-k-preserved c =
    let g = c.loop-k.invariant in
    let here = live-below c.is_live.ensures c.if-not-is_live.false in
    let left = seconds c.wait-left.ensures in
    elim c.if-left-eq0.branch [
      | then-left-eq0 w ↦ rw (w.cell-is, w.out-is, w.rows-is, w.gone-is) (tick_airs g here (sym left ∙ w.if-left-eq0.true) _ _ _ w.air.ensures)
      | else-left-eq0 w ↦
          rw (w.cell-is, w.out-is, w.rows-is, w.gone-is)
          (tick_waits g here (λ e. w.if-left-eq0.false (left ∙ e)) _ (w.one_less.ensures ∙ rw c.wait-left.ensures) _ w.set_wait.ensures)
    ]

pub returns-after-loop-k : goal.returns-after-loop-k
returns-after-loop-k c = tick_ends c.loop-k.invariant (omega (arith, c.loop-k-test.false, live-few c.loop-k.cell))

pub returns-then-not-is_live : goal.returns-then-not-is_live
returns-then-not-is_live c = tick_ends c.loop-k.invariant (free-past c.is_live.ensures c.if-not-is_live.true)

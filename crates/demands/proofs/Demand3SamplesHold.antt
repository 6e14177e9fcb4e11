-- The two samples of demand 3 hold.
-- What each call leaves is computed in rules (CallSamples); the calls that do not meet reach no common cell, which is computed there too.
use mathlib.Core.Path.{◌≡◌, refl, sym, ap, ◌∙◌}
use mathlib.Core.Bool.{Bool, false, ◌&&◌, false≢true}
use mathlib.Core.Option.{some}
use mathlib.Core.List.Permᴰ
use mathlib.Core.List.{List, [], ◌∷◌}
use Prim.Native.Nat.{ℕ, zero, suc}
use native.Mathlib.Omega.{arith}
use lib.ListN.{length, get_or, get_elem?}
use Rattle.rules.specs.Lists.{any}
use Rattle.rules.specs.Layout.{current}
use Rattle.rules.specs.Table.{Cell, cells_of}
use Rattle.rules.specs.Applied.{Outcome}
use Rattle.rules.specs.ByHand.{blank, one}
use Rattle.rules.specs.Samples.{flood}
use Rattle.rules.specs.CallSamples.{starting, stopping, starting_here, stopping_there, free_cell, two_cells, cell_with, CallSamplesHold}
use Rattle.rules.proofs.TestLaws.{and-true, neither}
use Rattle.rules.proofs.AcceptedCallLaws.{call_accepted}
use Rattle.rules.proofs.SamplesHold.{samples_hold}
use Rattle.demands.specs.Demand3.{Call, run, run_in, Meet, KeepsOrder}
use Rattle.demands.specs.Demand3Samples.{call_of, Demand3Shown}
use Rattle.demands.proofs.Positions.{position_in}
use Rattle.demands.proofs.Permutations.{permuted}
use Rattle.demands.proofs.OneCall.{reaches_head}

-- ---- calls that do not meet

none-at : {A : Type 0} (f : A → Bool) (l : List A) (k : ℕ) {x : A} → any f l ≡ false → get_elem? l k ≡ some x → f x ≡ false
unfolding any
none-at f [] k n e = let z : ◌≡◌ {A = ℕ} 0 1 = cc in absurd (omega arith)
none-at f (y ∷ l) zero {x} n e = let s : y ≡ x = cc in rw (← s) (neither (f y) (any f l) n).0
none-at f (y ∷ l) (suc k) n e = none-at f l k (neither (f y) (any f l) n).1 e

-- calls that reach no common cell do not meet
apart : (t : List ℕ) (c d : Call) → any (λ (x : Cell). reaches_head c x.head && reaches_head d x.head) (cells_of current t) ≡ false → Meet t c d → ⊥
apart t c d n m =
    let e = none-at (λ x. reaches_head c x.head && reaches_head d x.head) (cells_of current t) m.index n m.in_table in
    false≢true (sym e ∙ and-true (reaches_head c m.cell.head) (reaches_head d m.cell.head) m.first-reaches m.second-reaches)

-- two calls that do not meet may stand in any order
keeps-two : (t : List ℕ) (c d : Call) → (Meet t c d → ⊥) → (place : ℕ → ℕ) → KeepsOrder t (c ∷ d ∷ []) place
keeps-two t c d n place i j a b h p q m =
    let l = position_in (c ∷ d ∷ []) j q in
    let i0 : i ≡ 0 = omega arith in
    let j1 : j ≡ 1 = omega arith in
    let first : a ≡ c = cc (rw i0 at p) in
    let second : b ≡ d = cc (rw j1 at q) in
    absurd (n (rw second at (rw first at m)))

-- ---- the samples

-- what rules computed
calls : CallSamplesHold
calls = samples_hold.2

abbrev start : Call
start = call_of starting calls.started.record-bytes

abbrev stop : Call
stop = call_of stopping calls.stopped_none.record-bytes

abbrev start_here : Call
start_here = call_of starting_here calls.started_here.record-bytes

abbrev stop_there : Call
stop_there = call_of stopping_there calls.stopped-there.record-bytes

pub demand_3_shown : Demand3Shown
unfolding run_in
demand_3_shown =
    record {
      starting-bytes = calls.started.record-bytes;
      stopping-bytes = calls.stopped_none.record-bytes;
      they_meet =
          record {
            meet =
                record {
                  first-accepted = ap (λ (o : Outcome). o.number) calls.started.gives;
                  second-accepted = ap (λ (o : Outcome). o.number) calls.stopped_none.gives;
                  cell = cell_with [];
                  index = 0;
                  in_table = ap (λ l. get_elem? l 0) calls.cells_free;
                  first-reaches = calls.both_reach.0;
                  second-reaches = calls.both_reach.1;
                };
            this_order = rw (calls.started.gives, calls.stopped-new.gives);
            other-order = rw (calls.stopped_none.gives, calls.started.gives);
            -- the first byte of the first place
            differ = λ s.
                let this : (run free_cell (start ∷ stop ∷ [])).0 ≡ free_cell = rw (calls.started.gives, calls.stopped-new.gives) in
                let other : (run free_cell (stop ∷ start ∷ [])).0 ≡ one (flood 0 0) = rw (calls.stopped_none.gives, calls.started.gives) in
                let z : ◌≡◌ {A = ℕ} 17 0 = ap (λ l. get_or l 40 0) (sym other ∙ s.same-table ∙ this) in
                omega arith;
          };
      starting_here_bytes = calls.started_here.record-bytes;
      stopping-there-bytes = calls.stopped-there.record-bytes;
      they_do_not =
          record {
            table-bytes = calls.started_here.table-bytes;
            legal = (call_accepted current two_cells starting_here (length blank) calls.started_here.accepted).table;
            order = permuted (Permᴰ.swap refl refl);
            keeps = keeps-two _ _ _ (apart two_cells start_here stop_there calls.none_common) _;
            this_order = rw (calls.started_here.gives, calls.then_stopped-there.gives);
            other-order = rw (calls.stopped-there.gives, calls.then_started_here.gives);
          };
    }

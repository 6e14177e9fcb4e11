-- Of every input, however it is cut, something is said: each turn that goes on takes bytes, and each that waits is followed by a piece,
-- or by the end, at which none waits.
use mathlib.Core.Path.{◌≡◌, refl}
use mathlib.Core.Bool.{Bool, true, false, true≢false, false≢true, cond}
use mathlib.Core.List.{List, [], ◌∷◌, ◌++◌, flat_map}
use Prim.Native.Nat.{ℕ, zero, suc, ◌+◌, ◌-◌, ◌<◌}
use native.Mathlib.Omega.{arith}
use lib.ListN.{length, drop, length-append, length-drop}
use Rattle.report_turns.specs.Turns.{Program, begun, step, Spoken, stops, goes, reads, finds_the_end}
use Rattle.report_turns.specs.Buffers.{Few}
use Rattle.report_turns.specs.declared.Next.TheVariants.{Wait}
use Rattle.report_turns.specs.Pieces.{joined, AlwaysSpoken}
use Rattle.report_turns.proofs.StepLaws.{Does, stopped, waited, went, step_does}
use Rattle.report_turns.proofs.TurnedLaws.{step_small}

-- ---- turn after turn

-- what is left to do: bytes to take, pieces to read, the end to find
abbrev to_do : Bool → List ℕ → List (List ℕ) → ℕ
to_do ended l pieces = length l + length (joined pieces) + length pieces + cond ended 0 1

abbrev Speaks : ℕ → Type 0
Speaks fuel =
    (ended : Bool) (p : Program) (l : List ℕ) (pieces : List (List ℕ)) → Few p.cells → (ended ≡ true → pieces ≡ []) → to_do ended l pieces < fuel
    → (text : List ℕ) × Spoken ended p l pieces text

awaits : (k : ℕ) → Speaks k → (p : Program) (l : List ℕ) (pieces : List (List ℕ)) → Few p.cells → to_do false l pieces < suc k → (step false p l).next ≡ Wait
    → (text : List ℕ) × Spoken false p l pieces text
unfolding flat_map
awaits k speaks p l [] few h w =
    let r = speaks true p l [] few (λ t. refl) (omega arith) in
    (r.0, finds_the_end w r.1)
awaits k speaks p l (piece ∷ pieces) few h w =
    let a : length (l ++ piece) ≡ length l + length piece = length-append l piece in
    let b : length (piece ++ joined pieces) ≡ length piece + length (joined pieces) = length-append piece (joined pieces) in
    let r = speaks false p (l ++ piece) pieces few (λ t. absurd (false≢true t)) (omega arith) in
    (r.0, reads w r.1)

by_step : (k : ℕ) → Speaks k → (ended : Bool) (p : Program) (l : List ℕ) (pieces : List (List ℕ))
    → Few p.cells → (ended ≡ true → pieces ≡ []) → to_do ended l pieces < suc k
    → Does ended p (step ended p l) → (text : List ℕ) × Spoken ended p l pieces text
by_step k speaks ended p l pieces few none h (stopped s) = ((step ended p l).said, stops s)
by_step k speaks true p l pieces few none h (waited e w) = absurd (true≢false e)
by_step k speaks false p l pieces few none h (waited e w) = awaits k speaks p l pieces few h (rw w)
by_step k speaks ended p l pieces few none h (went s t) =
    let small = step_small p few l ended in
    let d : length (drop (step ended p l).taken l) ≡ length l - (step ended p l).taken = length-drop (step ended p l).taken l in
    let r = speaks ended (step ended p l).program (drop (step ended p l).taken l) pieces small.few none (omega (arith, small.within)) in
    ((step ended p l).said ++ r.0, goes s r.1)

speak : (fuel : ℕ) → Speaks fuel
speak zero ended p l pieces few none h = absurd (omega arith)
speak (suc k) ended p l pieces few none h = by_step k (speak k) ended p l pieces few none h (step_does p l ended)

pub always_spoken : AlwaysSpoken
always_spoken pieces = speak (suc (to_do false [] pieces)) false begun [] pieces tt (λ t. absurd (false≢true t)) (omega arith)

-- Acceptance and reach are the same at any time of a run, so `Meet` may read both off the first table; and an accepted second reaches every cell.
-- The number follows from the verdict, which stays; heads stay under every call; the table of kinds allows a second no area.
use Rattle.std.specs.Prelude.{Ok, Err}
use mathlib.Core.Path.{◌≡◌, refl, sym, ap, ◌∙◌}
use mathlib.Core.List.{List, map, map-map}
use Prim.Native.Nat.{ℕ}
use lib.ListN.{length}
use Rattle.rules.specs.Layout.{current}
use Rattle.rules.specs.Table.{cells_of}
use Rattle.rules.specs.Record.{request_of, items_of}
use Rattle.rules.specs.Reach.{reaches}
use Rattle.rules.specs.Refusals.{verdict_number, apply_verdict, Verdict}
use Rattle.rules.specs.Applied.{outcome, applied}
use Rattle.rules.proofs.KindAreaLaws.{second-area}
use Rattle.rules.proofs.VerdictLaws.{request-accepted}
use Rattle.rules.proofs.AcceptedRecordLaws.{record-accepted}
use Rattle.rules.proofs.OutcomeLaws.{applied-accepted}
use Rattle.rules.proofs.AcceptedCallLaws.{call_accepted}
use Rattle.demands.specs.Demand3.{Call, outcome_on, run, AcceptedAnywhere, CellsStay, SecondReachesAll}
use Rattle.demands.proofs.OneCall.{cell_before, verdict_stays}
use Rattle.demands.proofs.Runs.{run-goes, cells-after}

number_of : (u : List ℕ) (c : Call) → (outcome_on u c).number ≡ verdict_number (apply_verdict current u c.req (length c.answer))
unfolding applied outcome
number_of u c = go (apply_verdict current u c.req (length c.answer))
  where
    go : (v : Verdict) → (outcome current v (request_of c.req) (items_of c.req) u c.answer).number ≡ verdict_number v
    go (Ok tt) = refl
    go (Err x) = refl

pub accepted_anywhere : AcceptedAnywhere
accepted_anywhere t bytes legal before c =
    number_of (run t before).0 c
    ∙ ap verdict_number (verdict_stays t legal (run t before).0 (run-goes t legal bytes before) c)
    ∙ sym (number_of t c)

pub cells_stay : CellsStay
cells_stay t bytes legal before =
    ap (map (λ c. c.head)) (cells-after t legal bytes before)
    ∙ map-map (λ c. c.head) (cell_before t before (length before)) (cells_of current t)

pub second-reaches_all : SecondReachesAll
unfolding reaches
second-reaches_all t c e k cell =
    let accepted = call_accepted current t c.req (length c.answer) (applied-accepted current t c.req c.answer e) in
    let allowed = request-accepted _ (request_of c.req) (items_of c.req) (record-accepted current c.req accepted.req).request in
    rw (second-area (request_of c.req) allowed.kind k)

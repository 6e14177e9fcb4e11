-- Seconds are calls that may be sent today, and each of them is accepted.
-- The record of a second is judged by computing, in every unit that takes its version; the rest is room, which the calls have.
use Rattle.std.specs.Prelude.{Ok}
use mathlib.Core.Path.{◌≡◌, refl, sym, ap, ◌∙◌}
use mathlib.Core.Bool.{true}
use mathlib.Core.Logic.{◌⊎◌, inl, inr}
use mathlib.Core.List.{List}
use Prim.Native.Nat.{ℕ, ◌≤◌}
use native.Mathlib.Omega.{arith}
use borrow.Author.Tests.{le-leb, eq-eqb}
use lib.Dec.{eqb}
use lib.ListN.{length}
use Rattle.octets.specs.Runs.{pieces}
use Rattle.octets.specs.Numbers.{be, to_be}
use Rattle.octets.specs.Fields.{numbers, field_of}
use Rattle.rules.specs.Lists.{every, any, zeros, one_of}
use Rattle.rules.specs.Layout.{Version, version1, version2, version_number, current}
use Rattle.rules.specs.Record.{one_second, request_of, items_of, version_in, renewed, record_marked, allowed, kind_allows, area_fits, within_limits, cancels_nothing}
use Rattle.rules.specs.Answer.{room_for}
use Rattle.rules.specs.Refusals.{request_verdict, record_verdict}
use Rattle.rules.proofs.VerdictLaws.{apply_chain}
use Rattle.rules.proofs.TestLaws.{and-true}
use Rattle.rules.proofs.VersionsLaws.{taken-version, asked-period, still_taken}
use Rattle.demands.specs.Demand3.{Call, Result, outcome_in, run_in}
use Rattle.demands.specs.Conversion.{SentToday, as_it_stands, written_anew, SameCall, Each, none, more, second_record, SameSecond}
use Rattle.demands.proofs.NumberLaws.{accepted-number}
use Rattle.demands.proofs.OneCall.{LegalWith, still_legal}

-- ---- its record, computed

second-judged : (v w : Version) → version_number w ≤ version_number v → record_verdict v (second_record w) ≡ Ok tt
unfolding record_verdict request_verdict record_marked request_of items_of kind_allows area_fits within_limits cancels_nothing allowed zeros one_of any every field_of numbers be pieces
second-judged version1 version1 h = refl
second-judged version2 version1 h = refl
second-judged version2 version2 h = refl
second-judged version1 version2 h = absurd (omega arith)

second-kind : (w : Version) → (request_of (second_record w)).kind ≡ one_second
unfolding request_of field_of numbers be
second-kind version1 = refl
second-kind version2 = refl

second-renewed : (w : Version) → second_record current ≡ renewed (second_record w)
unfolding renewed to_be
second-renewed version1 = refl
second-renewed version2 = refl

-- ---- sent

second-sent : (v w : Version) → version_number w ≤ version_number v → (r s : List ℕ) → r ≡ second_record w → (s ≡ second_record w) ⊎ (s ≡ second_record current) → SentToday v r s
second-sent v w h r s p (inl q) =
    let taken = taken-version v (second_record w) (second-judged v w h) in
    as_it_stands (rw p (still_taken v (version_in (second_record w)) taken ∙ sym taken)) (q ∙ sym p)
second-sent v w h r s p (inr q) =
    let e = second-judged v w h in
    written_anew (rw p (taken-version v (second_record w) e)) (rw p (asked-period v (second_record w) e)) (q ∙ second-renewed w ∙ ap renewed (sym p))

module _ (v : Version) (n : ℕ) where
  second-same : (c d : Call) → SameSecond v n c d → SameCall v n c d
  second-same c d s =
      let fits_now = le-leb (room_for current one_second n) (length d.answer) s.now_room in
      let fits_then = le-leb (room_for v one_second n) (length c.answer) s.then_room in
      record {
        req = second-sent v s.version s.taken c.req d.req s.then_sent s.now_sent;
        rooms = rw (s.then_sent, second-kind s.version, fits_now, fits_then);
      }

  pub seconds-sent : {cs ds : List Call} → Each (SameSecond v n) cs ds → Each (SameCall v n) cs ds
  seconds-sent none = none
  seconds-sent (more {c} {d} s rest) = more (second-same c d s) (seconds-sent rest)

  -- ---- accepted

  -- the record is, and so is the call wherever there is room
  second-accepted : (t : List ℕ) → LegalWith v n t → (c d : Call) → SameSecond v n c d → (outcome_in v t c).number ≡ 0
  second-accepted t g c d s =
      let judged = second-judged v s.version s.taken in
      let fits = le-leb (room_for v one_second n) (length c.answer) s.then_room in
      accepted-number v t c.req c.answer
      (rw (apply_chain v t c.req (length c.answer), g.accepted, s.then_sent, judged, second-kind s.version, g.count, fits))

  pub seconds-accepted : (t : List ℕ) → LegalWith v n t → {cs ds : List Call} → Each (SameSecond v n) cs ds → every (λ (x : Result). eqb x.number 0) (run_in v t cs).1 ≡ true
  unfolding run_in every
  seconds-accepted t g none = refl
  seconds-accepted t g (more {c} {d} s rest) =
      and-true _ _ (eq-eqb _ 0 (second-accepted t g c d s)) (seconds-accepted (outcome_in v t c).table (still_legal v n t g c) rest)

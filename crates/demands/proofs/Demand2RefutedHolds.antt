-- None of the wrong units meets demand 2.
-- Of six accepted calls, computed in rules (CallSamples), the demand leaves nothing open; each wrong unit differs from one of them, or from two, in a byte or a length.
use mathlib.Core.Path.{◌≡◌, refl, sym, ap, ◌∙◌}
use mathlib.Core.List.{List, map}
use Prim.Native.Nat.{ℕ, ◌+◌}
use native.Mathlib.Omega.{arith}
use lib.ListN.{get_or}
use Rattle.octets.specs.Runs.{gets, pieces}
use Rattle.octets.specs.Numbers.{be}
use Rattle.octets.specs.Fields.{size, numbers, field_of}
use Rattle.rules.specs.Layout.{current, header_size, head_size, cell_size}
use Rattle.rules.specs.Table.{cells_of}
use Rattle.rules.specs.Applied.{Outcome}
use Rattle.rules.specs.ByHand.{free, blank, one}
use Rattle.rules.specs.Samples.{two, twice, flood}
use Rattle.rules.specs.CallSamples.{starting, stopping, free_cell, CallGives, CallSamplesHold}
use Rattle.rules.proofs.SamplesHold.{samples_hold}
use Rattle.demands.specs.Demand2.{cell_at, CallUnit, MeetsDemand2}
use Rattle.demands.specs.Demand2Refuted.{RefusesEverything, SameForEveryTable, SameForEveryRecord, ChangesNothing, ChangesFirstCellOnly, ReportsFirstCellOnly, FirstRequestOnly, first_count, InventsCounts, without_sent, CountsWithoutSent, refusing, fixed, unchanging, first_cell, inventing, Demand2Refuted}
use Rattle.demands.proofs.Demand2Holds.{demand_2}

-- what rules computed
calls : CallSamplesHold
calls = samples_hold.2

-- ---- what a unit that meets the demand has to do

module _ (u : CallUnit) (m : MeetsDemand2 u) where
  -- of an accepted call the demand leaves nothing open ..
  gives : {t r : List ℕ} {o : Outcome} → CallGives t r o → u t r blank ≡ o
  gives {t} {r} c = demand_2.one-outcome u m t r blank c.table-bytes c.record-bytes c.accepted ∙ c.gives

  -- .. in the number, the length, a byte of the answer and one of the table
  number_of : {t r : List ℕ} {o : Outcome} → CallGives t r o → (u t r blank).number ≡ o.number
  number_of c = ap (λ (o : Outcome). o.number) (gives c)

  length_of : {t r : List ℕ} {o : Outcome} → CallGives t r o → (u t r blank).length ≡ o.length
  length_of c = ap (λ (o : Outcome). o.length) (gives c)

  told_at : {t r : List ℕ} {o : Outcome} (k : ℕ) → CallGives t r o → get_or (u t r blank).answer k 0 ≡ get_or o.answer k 0
  told_at k c = ap (λ (o : Outcome). get_or o.answer k 0) (gives c)

  left_at : {t r : List ℕ} {o : Outcome} (k : ℕ) → CallGives t r o → get_or (u t r blank).table k 0 ≡ get_or o.table k 0
  left_at k c = ap (λ (o : Outcome). get_or o.table k 0) (gives c)

  -- ---- each class

  not-refuses : RefusesEverything u → ⊥
  not-refuses h = h _ _ _ (number_of calls.started)

  -- the count of rows: none, and one
  not-same_tables : SameForEveryTable u → ⊥
  not-same_tables h =
      let s = h free_cell twice stopping blank (number_of calls.stopped_none) (number_of calls.stopped-twice) in
      let z : ◌≡◌ {A = ℕ} 0 1 = sym (told_at 11 calls.stopped_none) ∙ ap (λ l. get_or l 11 0) s ∙ told_at 11 calls.stopped-twice in
      omega arith

  -- the kind
  not-same_records : SameForEveryRecord u → ⊥
  not-same_records h =
      let s = h free_cell starting stopping blank (number_of calls.started) (number_of calls.stopped_none) in
      let z : ◌≡◌ {A = ℕ} 1 2 = sym (told_at 5 calls.started) ∙ ap (λ l. get_or l 5 0) s ∙ told_at 5 calls.stopped_none in
      omega arith

  -- the first byte of the first place
  not_unchanged : ChangesNothing u → ⊥
  not_unchanged h =
      let z : ◌≡◌ {A = ℕ} 17 0 = sym (left_at 40 calls.started) ∙ ap (λ l. get_or l 40 0) (h free_cell starting blank) in
      omega arith

  -- the same of the second cell
  not-first-cell : ChangesFirstCellOnly u → ⊥
  unfolding pieces field_of numbers gets be size
  not-first-cell h =
      let after = ap (λ (o : Outcome). get_or (cell_at o.table 1) 24 0) (gives calls.started-two) in
      let z : ◌≡◌ {A = ℕ} 17 0 = sym after ∙ ap (λ l. get_or l 24 0) (h (two (free 4) (free 4)) starting blank 1 (omega arith)) in
      omega arith

  -- two rows
  not-first-row : ReportsFirstCellOnly u → ⊥
  not-first-row h =
      let n : (u (two (free 4) (free 4)) starting blank).length ≡ 40 = length_of calls.started-two in
      omega (arith, h (two (free 4) (free 4)) starting blank, calls.one-row)

  -- the text that the first call started is stopped by the second
  not-first-request : FirstRequestOnly u → ⊥
  not-first-request h =
      let s = h free_cell starting blank stopping blank (number_of calls.started) in
      let f : (u free_cell starting blank).table ≡ one (flood 0 0) = ap (λ (o : Outcome). o.table) (gives calls.started) in
      let again : (u (one (flood 0 0)) stopping blank).table ≡ one (flood 0 0) = rw f at s in
      let z : ◌≡◌ {A = ℕ} 0 17 = sym (left_at 40 calls.stopped-new) ∙ ap (λ l. get_or l 40 0) again in
      omega arith

  -- the text sent once and twice is told with 1 and with 2
  not-without-sent : CountsWithoutSent u → ⊥
  unfolding field_of numbers gets be
  not-without-sent h =
      let n : (u (one (flood 1 1)) stopping blank).length ≡ 26 = length_of calls.stopped_once in
      let k : (u twice stopping blank).length ≡ 26 = length_of calls.stopped-twice in
      let unsent : map without_sent (cells_of current (one (flood 1 1))) ≡ map without_sent (cells_of current twice) = rw (calls.cells_once, calls.cells-twice) in
      let s =
      h (one (flood 1 1)) twice stopping blank unsent
      (calls.stops-one.0, calls.stops-one.1, number_of calls.stopped_once, omega arith)
      (calls.stops-one.0, calls.stops-one.1, number_of calls.stopped-twice, omega arith) in
      let z : ◌≡◌ {A = ℕ} 1 2 = sym (ap first_count (gives calls.stopped_once)) ∙ s ∙ ap first_count (gives calls.stopped-twice) in
      omega arith

  -- what is guessed from the record alone is the same for any tables
  not_invented : InventsCounts u → ⊥
  not_invented h = not-without-sent (λ t t' r a e x y. h.1 t r a x ∙ sym (h.1 t' r a y))

-- ---- all of them, and the instances

pub demand_2_refuted : Demand2Refuted
demand_2_refuted =
    record {
      no-refusing_everything = λ u w m. not-refuses u m w;
      no-answer-fixed_by_record = λ u w m. not-same_tables u m w;
      no-answer-fixed_by_table = λ u w m. not-same_records u m w;
      no_changing_nothing = λ u w m. not_unchanged u m w;
      no_changing_first-cell-only = λ u w m. not-first-cell u m w;
      no_reporting_first-cell-only = λ u w m. not-first-row u m w;
      no-first-request-only = λ u w m. not-first-request u m w;
      no-inventing-counts = λ u w m. not_invented u m w;
      no-counts-without-sent = λ u w m. not-without-sent u m w;
      not-refusing = λ m. not-refuses refusing m (λ t r a e. omega arith);
      not-fixed = λ m. not-same_tables fixed m (λ t t' r a e f. refl);
      not-unchanging = λ m. not_unchanged unchanging m (λ t r a. refl);
      -- the first byte of the second cell's first place stays
      not-first_cell = λ m.
          let told = rw calls.started-two.gives at (gives first_cell m calls.started-two) in
          let z : ◌≡◌ {A = ℕ} 0 17 = ap (λ (o : Outcome). get_or o.table (header_size + cell_size current + head_size current) 0) told in
          omega arith;
      not-inventing = λ m.
          let told = rw calls.stopped-twice.gives at (gives inventing m calls.stopped-twice) in
          let z : ◌≡◌ {A = ℕ} 0 2 = ap (λ (o : Outcome). get_or o.answer 21 0) told in
          omega arith;
    }

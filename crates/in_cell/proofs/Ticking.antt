-- The first pass of a second: every live place is a second later where it stands, with a row for each broadcast.
-- What the rule makes of the places still to come is all that is left to be done, and a turn takes one place of these.
use mathlib.Core.Path.{◌≡◌, refl, sym, ap, ◌∙◌}
use mathlib.Core.Bool.{true, false}
use mathlib.Core.List.{List, [], ◌∷◌, ◌++◌, append_assoc, map}
use Prim.Native.Nat.{ℕ, ◌+◌, ◌*◌, ◌≤◌}
use native.Mathlib.Omega.{arith}
use lib.ListN.{length}
use lib.Seq.{sets, length-sets}
use Rattle.octets.specs.Runs.{Bytes}
use Rattle.octets.proofs.RunsLaws.{sets-run}
use Rattle.rules.specs.Lists.{every}
use Rattle.rules.specs.Layout.{current, places_per_cell, row_size}
use Rattle.rules.specs.Table.{legal_place, cell_of, place_runs}
use Rattle.rules.specs.InCell.{is_due, later, second}
use Rattle.rules.specs.Answer.{row_bytes}
use Rattle.rules.specs.Reply.{row_by}
use Rattle.rules.specs.declared.Place.{Place}
use Rattle.rules.proofs.TestLaws.{both}
use Rattle.rules.proofs.RowCodec.{length-row_bytes}
use Rattle.rules.proofs.PlacesCodec.{legal-places}
use Rattle.rules.proofs.CellCodec.{legal-cell}
use Rattle.cell_read.specs.Places.{live_places, with_place, Formed}
use Rattle.cell_read.proofs.PlacesLaws.{formed-legal}
use Rattle.in_cell.specs.Step.{rows_bytes, Ready}
use Rattle.in_cell.specs.Second.{told_of, endings}
use Rattle.in_cell.proofs.Passes.{waits-goes_on, later-fit}
use Rattle.in_cell.proofs.Passing.{Passing, pass_starts, pass_formed, pass_head, next-fit, next_changes}
use Rattle.in_cell.proofs.SecondByPlace.{told-due, told-waits, endings_cons, endings-none, rows_cons}

-- ---- between two places

-- k places are passed, n rows written and `gone` texts have ended; the rest is still to come
pub record Ticks (c₀ o₀ c o : List ℕ) (k n gone : ℕ) (passed rest : List Place) : Type 0 where
  pub pass : Passing c₀ c k passed rest
  pub legal : every (legal_place current) rest ≡ true
  pub few : k ≤ places_per_cell
  pub few-rows : n ≤ k
  pub few-gone : gone ≤ k
  pub room : row_size current * places_per_cell ≤ length o
  pub same : length o ≡ length o₀
  pub places : map later (live_places c₀) ≡ passed ++ map later rest
  pub rows : length (second (live_places c₀)).rows ≡ n + length (second rest).rows
  pub answer : sets o₀ 0 (rows_bytes c₀ (second (live_places c₀)).rows) ≡ sets o (row_size current * n) (rows_bytes c₀ (second rest).rows)
  pub ended : endings (map later (live_places c₀)) ≡ gone + endings (map later rest)

pub record Ticking (c₀ o₀ c o : List ℕ) (k n gone : ℕ) : Type 0 where
  pub passed : List Place
  pub rest : List Place
  pub ticks : Ticks c₀ o₀ c o k n gone passed rest
  pub formed : Formed c

ticking : {c₀ o₀ c o : List ℕ} {k n gone : ℕ} {passed rest : List Place} → Ticks c₀ o₀ c o k n gone passed rest → Ticking c₀ o₀ c o k n gone
ticking {passed = passed} {rest = rest} t = record { passed = passed; rest = rest; ticks = t; formed = pass_formed t.pass }

pub ticks_start : (c o : List ℕ) → Bytes c → Ready c o places_per_cell → Ticking c o c o 0 0 0
ticks_start c o bytes ready =
    ticking
    (record {
      pass = pass_starts c bytes (formed-legal c bytes ready.size ready.legal);
      legal = (legal-places current (place_runs current c) (legal-cell current c ready.legal).1).each;
      few = omega arith;
      few-rows = omega arith;
      few-gone = omega arith;
      room = ready.room;
      same = refl;
      places = refl;
      rows = omega arith;
      answer = refl;
      ended = omega arith;
    })

-- ---- the next place

module _ {c₀ o₀ c o : List ℕ} {k n gone : ℕ} {passed rest : List Place} {p : Place} (t : Ticks c₀ o₀ c o k n gone passed (p ∷ rest)) where
  next-legal : (legal_place current p ≡ true) × (every (legal_place current) rest ≡ true)
  unfolding every
  next-legal = both (legal_place current p) (every (legal_place current) rest) t.legal

  -- whether it is broadcast, and the last time, or not
  turn : (r e n' gone' : ℕ) (c' o' : List ℕ) → n' ≡ n + r → gone' ≡ gone + e → r ≤ 1 → e ≤ 1 → c' ≡ with_place c k (later p) → length o' ≡ length o
      → length (second (p ∷ rest)).rows ≡ r + length (second rest).rows
      → sets o (row_size current * n) (rows_bytes c₀ (second (p ∷ rest)).rows) ≡ sets o' (row_size current * n') (rows_bytes c₀ (second rest).rows)
      → endings (map later (p ∷ rest)) ≡ e + endings (map later rest)
      → Ticking c₀ o₀ c' o' (k + 1) n' gone'
  turn r e n' gone' c' o' en eg r-one e-one ec same' er ea ee =
      ticking
      (record {
        pass = next_changes t.pass (later p) (later-fit p (next-fit t.pass)) c' ec;
        legal = next-legal.1;
        few = omega (arith, t.pass.few);
        few-rows = omega (arith, t.few-rows);
        few-gone = omega (arith, t.few-gone);
        room = omega (arith, t.room);
        same = same' ∙ t.same;
        places = t.places ∙ rw append_assoc;
        rows = omega (arith, t.rows);
        answer = t.answer ∙ ea;
        ended = omega (arith, t.ended);
      })

  pub turn-waits : is_due p ≡ false → (c' : List ℕ) → c' ≡ with_place c k (later p) → Ticking c₀ o₀ c' o (k + 1) n gone
  turn-waits d c' ec =
      turn 0 0 n gone c' o (omega arith) (omega arith) (omega arith) (omega arith) ec refl (rw (told-waits p rest d) (omega arith)) (rw (told-waits p rest d))
      (rw (endings-none (later p) (map later rest) (waits-goes_on p next-legal.0 d)) (omega arith))

  same_row : row_by (cell_of current c) (told_of p) ≡ row_by (cell_of current c₀) (told_of p)
  unfolding cell_of
  same_row = rw (pass_head t.pass)

  pub turn_airs : is_due p ≡ true → (c' o' : List ℕ) (r : ℕ) → r ≤ 1 → c' ≡ with_place c k (later p)
      → o' ≡ sets o (row_size current * n) (row_bytes current (row_by (cell_of current c) (told_of p))) → r ≡ endings (later p ∷ []) → Ticking c₀ o₀ c' o' (k + 1) (n + 1) (gone + r)
  turn_airs d c' o' r one ec eo er =
      let row : List ℕ = row_bytes current (row_by (cell_of current c₀) (told_of p)) in
      let long : length row ≡ (row_size current) = length-row_bytes current (row_by (cell_of current c₀) (told_of p)) in
      let e : o' ≡ sets o (row_size current * n) row = eo ∙ rw same_row in
      turn 1 r (n + 1) (gone + r) c' o' refl refl (omega arith) one ec (ap length e ∙ length-sets o (row_size current * n) row) (rw (told-due p rest d) (omega arith))
      (rw (told-due p rest d, rows_cons, e) (sym (sets-run row (rows_bytes c₀ (second rest).rows) o (row_size current * n) (row_size current * (n + 1)) (omega arith))))
      (endings_cons (later p) (map later rest) ∙ rw er)

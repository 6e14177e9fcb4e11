-- What a step may do: it stops, it waits before the end of the input, or it goes on. And while there is no table, nothing was done.
use Rattle.std.specs.Prelude.{Option, Some, None}
use mathlib.Core.Path.{◌≡◌, refl, sym, ◌∙◌}
use mathlib.Core.Bool.{Bool, true, false, false≢true, cond, ◌||◌}
use mathlib.Core.List.{List, []}
use Prim.Native.Nat.{ℕ, ◌<◌}
use native.Mathlib.Omega.{arith}
use lib.Dec.{eqb}
use lib.ListN.{take}
use Rattle.rules.specs.Layout.{current}
use Rattle.rules.specs.Applied.{Filled, Outcome, applied}
use Rattle.rules.proofs.TestLaws.{by_test}
use Rattle.report_lines.specs.Text.{no_text}
use Rattle.report_lines.specs.Framing.{frame_of, stops_at}
use Rattle.report_turns.specs.Report.{heads_there}
use Rattle.report_turns.specs.Turns.{Program, Step, waiting, stopping, no_cells, opened, built_from, opens, served, serves, step_by, step}
use Rattle.report_turns.specs.declared.Next.TheVariants.{Go, Stop}
use Rattle.report_turns.proofs.RequestLaws.{by_some, framed}

-- ---- what a step may do

-- it stops, waits before the end of the input with nothing said or done, or goes on and takes something
pub data Does (ended : Bool) (p : Program) (x : Step) : Type 0 where
  stopped : x.next ≡ Stop → Does ended p x
  waited : ended ≡ false → x ≡ waiting p → Does ended p x
  went : x.next ≡ Go → 0 < x.taken → Does ended p x

module _ (p : Program) (l : List ℕ) where
  opened_does : (ended : Bool) (n : ℕ) (f : Filled) → Does ended p (opened n p f)
  unfolding opened
  opened_does ended n f =
      by_test (eqb f.number 0) (λ (e : eqb f.number 0 ≡ true). rw e (went refl (omega arith)))
      (λ (e : eqb f.number 0 ≡ false). rw e (stopped refl))

  none_does : (ended never : Bool) (text : List ℕ) → (ended ≡ true → never ≡ true) → Does ended p (cond never (stopping text p) (waiting p))
  none_does ended true text h = stopped refl
  none_does true false text h = absurd (false≢true (h refl))
  none_does false false text h = waited refl refl

  opens_does : (ended : Bool) → Does ended p (opens ended p l)
  unfolding opens
  opens_does ended =
      by_some (heads_there l)
      (λ (e : heads_there l ≡ None). rw e (none_does ended (ended || no_cells l) (no_text 9) (λ (t : ended ≡ true). rw t)))
      (λ (n : ℕ) (e : heads_there l ≡ Some n). rw e (opened_does ended n (built_from n p l)))

  served_does : (ended : Bool) (size : ℕ) → 0 < size → (o : Outcome) → Does ended p (served p size o)
  unfolding served
  served_does ended size some o =
      by_test (stops_at o.number) (λ (e : stops_at o.number ≡ true). stopped (rw e)) (λ (e : stops_at o.number ≡ false). went (rw e) some)

  serves_does : (ended : Bool) → Does ended p (serves ended p l)
  unfolding serves
  serves_does ended =
      by_some (frame_of l ended) (λ (e : frame_of l ended ≡ None). rw e (none_does ended ended [] (λ t. t)))
      (λ (size : ℕ) (e : frame_of l ended ≡ Some size).
      rw e (served_does ended size (framed l ended size e).some (applied current p.table (take size l) p.answer)))

  pub step_does : (ended : Bool) → Does ended p (step ended p l)
  unfolding step
  step_does ended = go p.cells
    where
      go : (cells : Option ℕ) → Does ended p (step_by ended p l cells)
      go None = opens_does ended
      go (Some n) = serves_does ended

-- ---- no table still

none_done : (b : Bool) (text : List ℕ) (p : Program) → (cond b (stopping text p) (waiting p)).program ≡ p
none_done true text p = refl
none_done false text p = refl

pub serves-cells : (ended : Bool) (p : Program) (l : List ℕ) → (serves ended p l).program.cells ≡ p.cells
unfolding serves served
serves-cells ended p l =
    by_some (frame_of l ended) (λ (e : frame_of l ended ≡ None). rw (e, none_done ended [] p)) (λ (size : ℕ) (e : frame_of l ended ≡ Some size). rw e)

opened-no : (n : ℕ) (p : Program) (f : Filled) → (opened n p f).program.cells ≡ None → (opened n p f).program ≡ p
unfolding opened
opened-no n p f =
    by_test (eqb f.number 0) (λ (e : eqb f.number 0 ≡ true). rw e (λ (z : Some n ≡ None). cc))
    (λ (e : eqb f.number 0 ≡ false). rw e (λ z. refl))

opens-no : (ended : Bool) (p : Program) (l : List ℕ) → (opens ended p l).program.cells ≡ None → (opens ended p l).program ≡ p
unfolding opens
opens-no ended p l =
    by_some (heads_there l)
    (λ (e : heads_there l ≡ None). rw e (λ z. none_done (ended || no_cells l) (no_text 9) p))
    (λ (n : ℕ) (e : heads_there l ≡ Some n). rw e (opened-no n p (built_from n p l)))

-- a step that leaves no table leaves what was there
pub still_none : (ended : Bool) (p : Program) (l : List ℕ) → (step ended p l).program.cells ≡ None → (step ended p l).program ≡ p
unfolding step
still_none ended p l = go p.cells refl
  where
    go : (cells : Option ℕ) → p.cells ≡ cells → (step_by ended p l cells).program.cells ≡ None → (step_by ended p l cells).program ≡ p
    go None e = opens-no ended p l
    go (Some n) e = λ (z : (serves ended p l).program.cells ≡ None). let no : Some n ≡ None = sym e ∙ sym (serves-cells ended p l) ∙ z in cc

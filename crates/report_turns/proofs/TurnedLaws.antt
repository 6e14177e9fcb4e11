-- A turn takes no more than is at hand, and what it leaves is where the next one may begin.
use Rattle.std.specs.Prelude.{Option, Some, None}
use mathlib.Core.Path.{◌≡◌, refl, sym, ◌∙◌}
use mathlib.Core.Bool.{Bool, true, false, cond, ◌||◌}
use mathlib.Core.List.{List, []}
use Prim.Native.Nat.{ℕ, ◌+◌, ◌-◌, ◌≤◌}
use native.Mathlib.Omega.{arith}
use lib.Dec.{eqb, ltb}
use lib.ListN.{length, drop, length-drop}
use lib.Seq.{length-take-le}
use Rattle.rules.specs.Applied.{Filled}
use Rattle.rules.proofs.TestLaws.{by_test}
use Rattle.report_lines.specs.Text.{no_text}
use Rattle.report_lines.specs.Framing.{frame_of}
use Rattle.report_lines.specs.declared.text.Text.{Text}
use Rattle.report_turns.specs.Report.{heads_there}
use Rattle.report_turns.specs.Serve.{most_text}
use Rattle.report_turns.specs.Next.{pauses}
use Rattle.report_turns.specs.Turns.{Program, waiting, stopping, no_cells, opened, built_from, opens, served, serves, step_by, step}
use Rattle.report_turns.specs.Buffers.{program_in, Few, Stepped, held_in, step_of, Turned}
use Rattle.report_turns.specs.declared.Next.TheVariants.{Wait}
use Rattle.report_turns.specs.declared.Stand.{Stand}
use Rattle.report_turns.specs.declared.Took.{Took}
use Rattle.report_turns.proofs.RequestLaws.{by_some, framed}
use Rattle.report_turns.proofs.OpeningLaws.{there}
use Rattle.report_turns.proofs.StepLaws.{serves-cells}
use Rattle.report_turns.proofs.WaitLaws.{waits-short}

-- the cells of the table, and the bytes that are taken
pub record Small (cells : Option ℕ) (taken length : ℕ) : Type 0 where
  pub few : Few cells
  pub within : taken ≤ length

module _ (p : Program) (few : Few p.cells) (l : List ℕ) where
  nothing-taken : (b : Bool) (text : List ℕ) → let x = cond b (stopping text p) (waiting p) in Small x.program.cells x.taken (length l)
  nothing-taken true text = record { few = few; within = omega arith }
  nothing-taken false text = record { few = few; within = omega arith }

  opened-small : (n : ℕ) → heads_there l ≡ Some n → (f : Filled) → let x = opened n p f in Small x.program.cells x.taken (length l)
  unfolding opened
  opened-small n e f =
      let t = there l n e in
      by_test (eqb f.number 0) (λ (z : eqb f.number 0 ≡ true). rw z (record { few = t.few; within = t.within }))
      (λ (z : eqb f.number 0 ≡ false). rw z (record { few = few; within = omega arith }))

  opens_small : (ended : Bool) → Small (opens ended p l).program.cells (opens ended p l).taken (length l)
  unfolding opens
  opens_small ended =
      by_some (heads_there l)
      (λ (e : heads_there l ≡ None). rw e (nothing-taken (ended || no_cells l) (no_text 9)))
      (λ (n : ℕ) (e : heads_there l ≡ Some n). rw e (opened-small n e (built_from n p l)))

  serves-within : (ended : Bool) → (serves ended p l).taken ≤ length l
  unfolding serves served
  serves-within ended =
      by_some (frame_of l ended) (λ (e : frame_of l ended ≡ None). rw e (nothing-taken ended []).within)
      (λ (size : ℕ) (e : frame_of l ended ≡ Some size). rw e (framed l ended size e).within)

  pub step_small : (ended : Bool) → Small (step ended p l).program.cells (step ended p l).taken (length l)
  unfolding step
  step_small ended = go p.cells
    where
      go : (cells : Option ℕ) → let x = step_by ended p l cells in Small x.program.cells x.taken (length l)
      go None = opens_small ended
      go (Some n) = record { few = rw (serves-cells ended p l) few; within = serves-within ended }

cells_in : (cells : Option ℕ) (t a : List ℕ) → Few cells → Few (program_in cells t a).cells
unfolding program_in
cells_in None t a h = h
cells_in (Some n) t a h = h

module _ (s : Stand) (input t a : List ℕ) (order : s.from ≤ s.to) (inside : s.to ≤ length input) (few : Few s.cells) where
  small : Small (step_of s input t a).program.cells (step_of s input t a).taken (length (held_in s input))
  small = step_small (program_in s.cells t a) (cells_in s.cells t a few) (held_in s input) s.ended

  held-long : length (held_in s input) ≡ s.to - s.from
  held-long =
      let d : length (drop s.from input) ≡ length input - s.from = length-drop s.from input in
      length-take-le (s.to - s.from) (drop s.from input) (omega arith)

  module _ (x : Took) (before after : Text) (t' a' : List ℕ) (at : before.at ≡ s.at) (y : Stepped (step_of s input t a) t a before x t' a' after) where
    pub taken-within : s.from + x.bytes ≤ s.to
    taken-within = omega (arith, small.within, held-long, y.bytes)

    pub turned : (writes : Bool) → writes ≡ pauses x.next || ltb (length before.out.now - after.at) most_text → (out' : List ℕ) → out' ≡ after.out.now
        → Turned s input t a before.out.now (record { cells = x.cells; from = s.from + x.bytes; to = s.to; at = after.at; ended = s.ended; next = x.next; writes = writes }) t' a' out'
    turned writes w out' e =
        record {
          cells = y.cells;
          from = rw y.bytes;
          to = refl;
          ended = refl;
          next = y.next;
          writes = w;
          text = rw (e, ← at) y.text.said;
          table = y.table;
          answer = y.answer;
          sized = y.sized;
          short = λ (w : x.next ≡ Wait). omega (arith, waits-short s.ended (program_in s.cells t a) (held_in s input) (sym y.next ∙ w), held-long);
          order = taken-within;
          few = rw y.cells small.few;
          most = rw (← at) y.most;
        }

-- ---- with a table and without one

module _ (t a l : List ℕ) (ended : Bool) (cells : Option ℕ) (s : Text) (x : Took) (t' a' : List ℕ) (s' : Text) where
  pub without-table : cells ≡ None → Stepped (opens ended (program_in None t a) l) t a s x t' a' s' → Stepped (step ended (program_in cells t a) l) t a s x t' a' s'
  unfolding step program_in
  without-table e told = rw e told

  pub with-table : (n : ℕ) → cells ≡ Some n → Stepped (serves ended (program_in (Some n) t a) l) t a s x t' a' s' → Stepped (step ended (program_in cells t a) l) t a s x t' a' s'
  unfolding step program_in
  with-table n e told = rw e told

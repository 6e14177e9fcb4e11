use Prim.Native.Nat.{ℕ, ◌+◌, ◌*◌, ◌≤◌}
use mathlib.Core.List.{List}
use Rattle.report_lines.specs.Text.{longest_row}
use Rattle.report_lines.specs.Told.{Tells}
use Rattle.report_lines.specs.declared.text.Text.{Text}
use Rattle.report_lines.proofs.RowLaws.{rows_text}
use Rattle.report_lines.proofs.text.Text.put_answer.Given as goal

-- the lines of the rows so far
pub record Told (before : Text) (answer : List ℕ) (now : Text) (k : ℕ) : Type 0 where
  pub tells : Tells before (rows_text k answer) now
  pub room_taken : now.at ≤ before.at + longest_row * k

abbrev pub invariant-loop-k : goal.invariant-loop-k
invariant-loop-k l = Told l.initial.self l.answer l.self l.k

-- `run` takes turn after turn and stays within its buffers: unless it stops, it stands where a turn may begin, and the input still has room
-- for the heads of the largest table.
use Rattle.std.proofs.Common.{◌≡◌, ◌≤◌, List, ℕ, length}
use Rattle.rules.specs.Layout.{most_cells}
use Rattle.report_lines.specs.Framing.{heads_end}
use Rattle.report_turns.specs.Buffers.{Standing}
use Rattle.report_turns.specs.declared.Next.TheVariants.{Stop}
use Rattle.report_turns.specs.declared.Stand.{Stand}
use Rattle.report.proofs.run.Given as goal

pub record Going (input table answer out : List ℕ) (s : Stand) : Type 0 where
  pub stands : (s.next ≡ Stop → ⊥) → Standing s (length input) (length table) (length answer) (length out)
  pub heads-room : heads_end most_cells ≤ length input

abbrev pub invariant-loop : goal.invariant-loop
invariant-loop l = Going l.input l.table l.answer l.out l.s

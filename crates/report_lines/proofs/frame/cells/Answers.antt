-- `cells` reads N, the first two bytes, and names no cells where it is 0 or too large.
use Rattle.std.proofs.Common.{inl, inr}
use native.Mathlib.Omega.{arith}
use Rattle.report_lines.proofs.FrameLaws.{cells_some, cells_none}
use Rattle.report_lines.proofs.frame.cells.Goals as goal

pub returns-in-1-to-512-clause-value : goal.returns-in-1-to-512-clause-value
returns-in-1-to-512-clause-value c = cells_some c.args.held.now _ (omega (arith, c.get.ensures)) c.requires (omega arith) (omega arith)

pub returns-in_default-clause-value : goal.returns-in_default-clause-value
returns-in_default-clause-value c = cells_none c.args.held.now c.get.result c.get.ensures c.requires (inl (omega arith))

pub returns-in_default-2-clause-value : goal.returns-in_default-2-clause-value
returns-in_default-2-clause-value c = cells_none c.args.held.now c.get.result c.get.ensures c.requires (inr (omega arith))

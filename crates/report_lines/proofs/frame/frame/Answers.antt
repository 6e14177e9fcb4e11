-- `frame` takes a whole record, or at the end of the input what is there.
use mathlib.Core.Path.{◌∙◌}
use native.Mathlib.Omega.{arith}
use Rattle.report_lines.proofs.FrameLaws.{frame-whole, frame-left}
use Rattle.report_lines.proofs.frame.frame.Goals as goal

pub returns-then-size-held-clause-value : goal.returns-then-size-held-clause-value
returns-then-size-held-clause-value c = frame-whole c.args.held.now c.own_size-size.result c.own_size-size.ensures c.args.ended (omega arith)

pub returns-clause-value : goal.returns-clause-value
returns-clause-value c =
    let size = c.own_size-size in
    c.then_some.ensures ∙ rw c.is_empty.ensures (frame-left c.args.held.now size.result size.ensures c.args.ended (omega arith))

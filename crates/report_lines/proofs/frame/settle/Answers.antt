-- `settle` moves bytes to the front of their buffer. By `grind`, so that the indices may be spelled in another way.
use native.Mathlib.Omega.{arith}
use Rattle.report_lines.proofs.FrameLaws.{moved}
use Rattle.report_lines.proofs.frame.settle.Goals as goal

pub returns : goal.returns
returns c = grind (arith, c.copy_within.ensures.after, moved c.args.buffer.now c.args.from c.args.to c.requires.from_le_to c.requires.to_in_bounds)

-- `own_size` is what a record takes by its own n: a head that is cut off or says too many items is a head.
use native.Mathlib.Omega.{arith}
use Rattle.report_lines.proofs.FrameLaws.{own-cut, own-many, own-whole}
use Rattle.report_lines.proofs.frame.own_size.Goals as goal

pub returns-then-held-lt-RECORD : goal.returns-then-held-lt-RECORD
returns-then-held-lt-RECORD c = own-cut c.args.held.now (omega arith)

pub returns-then-n-gt-MOST_ITEMS : goal.returns-then-n-gt-MOST_ITEMS
returns-then-n-gt-MOST_ITEMS c = own-many c.args.held.now c.count-n.result (omega arith) c.count-n.ensures (omega arith)

pub returns : goal.returns
returns c = own-whole c.args.held.now c.count-n.result (omega arith) c.count-n.ensures (omega arith)

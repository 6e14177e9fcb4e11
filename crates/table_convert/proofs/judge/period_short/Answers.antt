-- `period_short` says whether the period of place k is short.
-- It is by the number that is read there, and its test is asked as two bounds: `short-read`.
use native.Mathlib.Omega.{arith}
use Rattle.table_convert.proofs.CellStoreLaws.{short-read}
use Rattle.table_convert.proofs.judge.period_short.Goals as goal

pub returns : goal.returns
returns c = short-read c.args.cell.now c.args.k (λ low. grind (arith, low, c.get.ensures)) (λ high. grind (arith, high, c.get.ensures))

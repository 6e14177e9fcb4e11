-- `lower24` returns the number that the last three of four bytes say.
-- The number that all four say, taken apart: `lower_three`.
use Rattle.table_judge.proofs.ReadLaws.{lower_three}
use Rattle.table_judge.proofs.lower24.Goals as goal

pub returns : goal.returns
returns c = lower_three _ (λ i. (c.type_inv.s i).fits) c.args.at c.get.ensures

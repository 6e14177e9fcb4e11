-- `upper24` returns the number that the first three of four bytes say.
-- The number that all four say, taken apart: `upper_three`.
use Rattle.table_judge.proofs.ReadLaws.{upper_three}
use Rattle.table_judge.proofs.upper24.Goals as goal

pub returns : goal.returns
returns c = upper_three _ (λ i. (c.type_inv.s i).fits) c.args.at c.get.ensures

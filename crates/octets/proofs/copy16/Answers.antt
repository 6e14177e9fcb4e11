-- `copy16` stores sixteen bytes as two numbers.
-- A number that is read and stored is the bytes that were read: `copied_16`.
use Rattle.octets.proofs.CopyLaws.{copied_16}
use Rattle.octets.proofs.copy16.Goals as goal

pub returns : goal.returns
returns c = copied_16 _ _ _ _ (λ i. (c.type_inv.from i).fits) c.get-front.ensures c.get-back.ensures c.put.ensures c.put-2.ensures

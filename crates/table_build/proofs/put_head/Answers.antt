-- `put_head` stores the head at the start of the cell, and nothing else.
-- Eight bytes that are read and stored are the same bytes, and three such stores are one: `words-stored`.
use Rattle.octets.proofs.NumbersLaws.{words-stored}
use Rattle.table_build.proofs.put_head.Goals as goal

pub returns : goal.returns
returns c =
    words-stored c.args.cell.now c.args.head.now 0 (λ i. (c.type_inv.head i).fits) c.requires.0
    c.get.ensures c.get-2.ensures c.get-3.ensures
    c.put.ensures c.put-2.ensures c.put-3.ensures

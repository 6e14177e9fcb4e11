-- `widen_place` stores the widened place at an index, and nothing else.
-- Four reads and four stores: `place-stored`.
use Rattle.table_convert.proofs.StoreLaws.{place-stored}
use Rattle.table_convert.proofs.wide.widen_place.Goals as goal

pub returns : goal.returns
returns c =
    place-stored c.args.wide.now c.args.cell.now c.args.to c.args.from (λ i. (c.type_inv.cell i).fits)
    c.get.ensures c.get-2.ensures c.get-3.ensures c.get-4.ensures
    c.put.ensures c.put-2.ensures c.put-3.ensures c.put-4.ensures

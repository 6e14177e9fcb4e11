-- `put_items` stores an item of each row. The invariant, `ToCome`: storing all of them into the message as it was is storing those that are still to come into it
-- as it is.
use Rattle.response_write.proofs.ItemsLaws.{row_small, come_next, come_done}
use Rattle.response_write.proofs.Response.put_items.Goals as goal

pub put_item-requires-clause-is_cell : goal.put_item-requires-clause-is_cell
put_item-requires-clause-is_cell c =
    row_small _ _ _ _ _ c.loop-k.invariant c.requires.rows_of.whole c.loop-k-test.true _ c.row_at.ensures

pub loop-k-preserved : goal.loop-k-preserved
loop-k-preserved c =
    come_next _ _ _ _ _ c.loop-k.invariant c.requires.rows_of.whole c.loop-k-test.true _ c.row_at.ensures c.put_item.ensures (rw (← c.item_size-to.ensures))

pub returns : goal.returns
returns c = come_done _ _ _ _ _ c.loop-k.invariant c.loop-k-test.false

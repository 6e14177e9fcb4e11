-- `put_item` stores an item: what stands before its cell, its cell over the end of that, and its count only if it has one.
use mathlib.Core.Path.{◌≡◌}
use Prim.Native.Nat.{◌*◌, ◌^◌}
use native.Mathlib.Omega.{arith}
use lib.Seq.{sets}
use Rattle.octets.specs.Numbers.{to_be}
use Rattle.answer.specs.Rows.{row_said}
use Rattle.wire.specs.Readers.{plain_head}
use Rattle.response_write.proofs.SizeLaws.{count_none}
use Rattle.response_write.proofs.StoredLaws.{plain_item_lem, counted-item}
use Rattle.response_write.proofs.Response.put_item.Goals.{After-put}
use Rattle.response_write.proofs.Response.put_item.Goals as goal

-- the item's head stored
head : (c : After-put) → c.put.new.s ≡ sets c.args.message.now c.args.at (to_be 8 (plain_head c.args.self.m * 256 ^ 4))
head c = rw (← c.plain_head.ensures) c.put.ensures

pub returns-then-count_size-eq-COUNT : goal.returns-then-count_size-eq-COUNT
returns-then-count_size-eq-COUNT c =
    counted-item _ _ c.args.self.m (row_said c.args.row) (head (goal.at.returns-then-count_size-eq-COUNT c).After-put) c.put-2.ensures (omega arith) c.put-then-count_size-eq-COUNT.ensures

pub returns-else-count_size-eq-COUNT : goal.returns-else-count_size-eq-COUNT
returns-else-count_size-eq-COUNT c =
    plain_item_lem _ _ c.args.self.m (row_said c.args.row) (head (goal.at.returns-else-count_size-eq-COUNT c).After-put) c.put-2.ensures (count_none c.args.self.m (omega arith))

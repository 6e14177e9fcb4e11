-- `put_list` stores the list's element: what stands before it, the number of items less one, and the items.
use mathlib.Core.Path.{ap}
use Prim.Native.Nat.{ℕ, ◌+◌, ◌*◌}
use Rattle.response_write.proofs.StoredLaws.{list-stored}
use Rattle.response_write.proofs.Response.put_list.Goals as goal

pub returns : goal.returns
returns c =
    let r = c.args.self in
    list-stored c.args.answer.now r.m r.rows c.args.message.now c.args.at _ _ c.requires.has_rows
    (ap (λ (n : ℕ). 2 + n * r.rows) c.item_size.ensures) (rw (← c.cells_id.ensures) c.put_opening-start.ensures.0) c.put_opening-start.ensures.1
    c.put.ensures c.put_items.ensures

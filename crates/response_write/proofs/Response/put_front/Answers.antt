-- `put_front` stores what stands before the value, and the value up to its list.
use native.Mathlib.Omega.{arith}
use Rattle.response_write.proofs.StoredLaws.{front_stored}
use Rattle.response_write.proofs.Response.put_front.Goals as goal

pub returns : goal.returns
returns c =
    let at = c.put_opening-at.ensures.1 in (
      rw (← c.frame_id.ensures)
          (front_stored _ _ _ _ c.args.self.rows c.args.self.transaction c.put_opening-at.ensures.0 c.put.ensures c.put-2.ensures (omega arith)),
      omega arith,
    )

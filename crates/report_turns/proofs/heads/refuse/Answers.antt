-- `refuse` tells a refusal and stops.
use native.Mathlib.Omega.{arith}
use Rattle.report_turns.proofs.OpenLaws.{stopping_stepped}
use Rattle.report_turns.proofs.heads.refuse.Goals as goal

pub returns : goal.returns
returns c =
    let n = c.put_no in
    λ p none. rw (← c.number.ensures) (stopping_stepped p none c.args.text.now n.new.self c.number.result n.ensures.tells (omega (arith, n.ensures.room_taken)))

-- `put_answer` stores an answer's first line, and a line for each of its rows behind those of the rows before it.
-- Kind and count of rows are what the answer's head says: `answer-told`. The count has two bytes.
use Prim.Native.Nat.{◌<◌, ◌^◌}
use mathlib.Core.Path.{◌≡◌}
use native.Mathlib.Omega.{arith}
use Rattle.octets.specs.Runs.{gets}
use Rattle.octets.specs.Numbers.{be}
use Rattle.octets.proofs.NumbersLaws.{be-gets_lt}
use Rattle.answer.proofs.HeadLaws.{rows-read}
use Rattle.report_lines.proofs.RowLaws.{no-rows, rows-more, answer-told}
use Rattle.report_lines.proofs.TextLaws.{tells_none, tells_then}
use Rattle.report_lines.proofs.text.Text.put_answer.Goals as goal

pub overflow_cast-many : goal.overflow_cast-many
overflow_cast-many c =
    let a = c.args.answer.now in
    let few : be (gets a 10 2) < 256 ^ 2 = be-gets_lt 2 10 a (λ i. (c.type_inv.answer i).fits) in
    record { fits = omega (arith, c.rows-many.ensures, rows-read a (omega arith)) }

pub loop-k-init : goal.loop-k-init
loop-k-init c = record { tells = rw (no-rows c.args.answer.now) (tells_none c.put_ok.new.self); room_taken = omega arith }

pub loop-k-preserved : goal.loop-k-preserved
loop-k-preserved c =
    let l = c.loop-k in
    record {
      tells = rw (rows-more l.k c.args.answer.now (omega arith)) at (tells_then l.invariant.tells (rw c.row_at.ensures at c.put_row.ensures.tells));
      room_taken = omega (arith, c.put_row.ensures.room_taken);
    }

pub returns-clause-tells : goal.returns-clause-tells
returns-clause-tells c =
    let l = c.loop-k in
    let all : l.k ≡ c.rows-many.result = omega arith in
    rw (answer-told c.args.answer.now c.kind.result c.rows-many.result c.kind.ensures c.rows-many.ensures) at (tells_then c.put_ok.ensures.tells (rw all at l.invariant.tells))

-- `serve` applies a request and tells of it: an answer that was written lies in its buffer, so all of it can be told.
-- What was written is a whole answer, by what `apply` ensures: `lies`.
use Rattle.std.proofs.Common.{rules}
use Prim.Native.Nat.{◌*◌, ◌≤◌}
use mathlib.Core.Path.{sym}
use native.Mathlib.Omega.{arith}
use lib.ListN.{take}
use Rattle.rules.specs.Layout.{current, places_per_cell, most_cells}
use Rattle.rules.specs.Answer.{row_count}
use Rattle.report_turns.proofs.ServeLaws.{Lies, written-lies, rows_fit, served-ok, served-no}
use Rattle.report_turns.proofs.serve.serve.Goals.{In-Ok}
use Rattle.report_turns.proofs.serve.serve.Goals as goal

lies : (c : In-Ok) → Lies c.in-Ok.length c.apply.new.answer
lies c =
    written-lies c.args.table.now c.args.req.now c.args.answer.now (λ i. search rules) (λ i. (c.type_inv.req i).fits)
    c.apply.result c.in-Ok.length c.apply.new.table c.apply.new.answer c.apply.ensures c.in-Ok.is

few-rows : (c : In-Ok) → Lies c.in-Ok.length c.apply.new.answer → row_count current (take c.in-Ok.length c.apply.new.answer) ≤ places_per_cell * most_cells
few-rows c l = rows_fit l (rw c.apply.auto.answer c.requires.answer_bounded)

pub slice_bounds-put_answer-end : goal.slice_bounds-put_answer-end
slice_bounds-put_answer-end c =
    let at = goal.at.slice_bounds-put_answer-end c in
    (lies at.In-Ok).most

pub slice_bounds-put_answer-end-in-Ok : goal.slice_bounds-put_answer-end-in-Ok
slice_bounds-put_answer-end-in-Ok c =
    let at = goal.at.slice_bounds-put_answer-end-in-Ok c in
    sym (lies at.In-Ok).size

pub put_answer-requires : goal.put_answer-requires
put_answer-requires c =
    let at = goal.at.put_answer-requires c in
    let l = lies at.In-Ok in
    record { rows_there = omega (arith, l.size, l.whole); room_for_text = omega (arith, few-rows at.In-Ok l, c.requires.room_for_text) }

pub returns-in-Ok : goal.returns-in-Ok
returns-in-Ok c =
    let at = goal.at.returns-in-Ok c in
    let a = c.args in
    record {
      served = served-ok a.table.now a.req.now a.answer.now c.apply.new.table c.apply.new.answer a.text.now c.put_answer.new.self c.apply.result c.apply.ensures
          c.in-Ok.length c.in-Ok.is c.put_answer.ensures.tells;
      room_taken = omega (arith, c.put_answer.ensures.room_taken, few-rows at.In-Ok (lies at.In-Ok));
    }

pub returns-in-Err-clause-served : goal.returns-in-Err-clause-served
returns-in-Err-clause-served c =
    let a = c.args in
    served-no a.table.now a.req.now a.answer.now c.apply.new.table c.apply.new.answer a.text.now c.put_no.new.self c.apply.result c.apply.ensures
    c.in-Err.refusal c.number-number.result c.next_behind.result c.in-Err.is c.number-number.ensures c.next_behind.ensures c.put_no.ensures.tells

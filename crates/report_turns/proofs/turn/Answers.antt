-- `turn` does one turn over the bytes at hand and says where it stands then.
use Rattle.std.proofs.Common.{rules}
use mathlib.Core.Path.{refl}
use native.Mathlib.Omega.{arith}
use Rattle.report_turns.proofs.TurnedLaws.{taken-within, turned}
use Rattle.report_turns.proofs.turn.Goals as goal

pub overflow_add-result : goal.overflow_add-result
overflow_add-result c =
    let a = c.args in
    let p = c.requires in
    let x = c.one_turn-took in
    let within = taken-within a.s a.input.now a.table.now a.answer.now p.order p.within p.to_take.few x.result _ x.new.text x.new.table x.new.answer refl x.ensures in
    record { fits = omega (arith, p.within, c.well_formed, within) }

pub returns : goal.returns
returns c =
    let a = c.args in
    let p = c.requires in
    let x = c.one_turn-took in
    turned a.s a.input.now a.table.now a.answer.now p.order p.within p.to_take.few x.result _ x.new.text x.new.table x.new.answer refl x.ensures _
    (rw (c.pauses.ensures, x.ensures.text.same_length)) _ (search rules)

-- `room_for` is the room that document 01 asks for, by the kind.
-- Each way out is its case.
use native.Mathlib.Omega.{arith}
use mathlib.Core.Path.{ap}
use Rattle.rules.specs.Answer.{rows_per_cell, room_for}
use Rattle.rules.proofs.KindAreaLaws.{rows_other}
use Rattle.answer.proofs.room_for.Goals as goal

pub returns-then-kind-eq-ONE_SECOND : goal.returns-then-kind-eq-ONE_SECOND
unfolding room_for
returns-then-kind-eq-ONE_SECOND c = rw (ap rows_per_cell c.if-kind-eq-ONE_SECOND.true) (omega arith)

pub returns : goal.returns
unfolding room_for
returns c = rw (rows_other c.args.kind c.requires.1 c.if-kind-eq-ONE_SECOND.false) (omega arith)

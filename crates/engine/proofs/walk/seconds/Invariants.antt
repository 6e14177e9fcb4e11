use Prim.Native.Nat.{◌+◌, ◌*◌, ◌-◌}
use Rattle.rules.specs.Layout.{current, header_size, cell_size, answer_size, row_size}
use Rattle.rules.specs.Record.{request_of, items_of}
use Rattle.engine.proofs.WalkSteps.{GoingFrom}
use Rattle.engine.proofs.walk.seconds.Given as goal

abbrev pub invariant-cells : goal.invariant-cells
invariant-cells l =
    GoingFrom (request_of l.req) (items_of l.req) l.initial.table l.initial.answer l.table l.answer (header_size + cell_size current * l.k)
    (answer_size current + row_size current * l.rows) l.rows (l.cells - l.k)

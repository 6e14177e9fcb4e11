use mathlib.Core.Path.{◌≡◌}
use Prim.Native.Nat.{◌+◌, ◌*◌, ◌-◌}
use lib.ListN.{length}
use Rattle.rules.specs.Layout.{current, header_size, cell_size, answer_size, row_size, record_size, item_size}
use Rattle.rules.specs.Table.{cell_of}
use Rattle.rules.specs.Record.{items_of}
use Rattle.engine.specs.Reach.{named_by}
use Rattle.engine.proofs.Searching.{Searching}
use Rattle.engine.proofs.WalkSteps.{GoingFrom}
use Rattle.engine.proofs.Walking.{cell_from}
use Rattle.engine.proofs.walk.walk.Given as goal

-- ---- the loops
abbrev pub invariant-items : goal.invariant-items
invariant-items l = (record_size + item_size current * l.items ≡ length l.req)
    × Searching l.area (items_of l.req) (cell_of current (cell_from l.table l.at)).head (named_by l.naming) l.reached l.looked

abbrev pub decreases-items : goal.decreases-items
decreases-items l = l.items - l.looked

abbrev pub invariant-cells : goal.invariant-cells
invariant-cells l =
    GoingFrom l.request (items_of l.req) l.initial.table l.initial.answer l.table l.answer (header_size + cell_size current * l.c)
    (answer_size current + row_size current * l.rows) l.rows (l.cells - l.c)

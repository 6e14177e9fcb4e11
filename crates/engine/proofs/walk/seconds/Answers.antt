-- A second leaves the table cell by cell and the rows as the rules give them: the walk without a search.
-- Between two cells: what is done, with what the rules say of the cells still to come, is the goal (Walking).
use Prim.Native.Nat.{◌+◌, ◌*◌, ◌-◌, ◌≤◌}
use mathlib.Core.Path.{refl, ◌≡◌, sym}
use native.Mathlib.Omega.{arith}
use Rattle.rules.specs.Layout.{places_per_cell, current, header_size, cell_size}
use Rattle.rules.specs.Record.{one_second, request_of}
use Rattle.in_cell.proofs.KindLaws.{rows_of-kind, ready_for, stepped_by}
use Rattle.engine.proofs.WalkSteps.{begin, asked, stepped}
use Rattle.engine.proofs.Walking.{cell_from, over-table, over-count, over-answer}
use Rattle.rules.proofs.InCellLaws.{in_cell-second}
use Rattle.engine.proofs.WalkItems.{second-reaches}
use Rattle.engine.proofs.walk.seconds.Goals as goal

pub cells-init : goal.cells-init
cells-init c =
    let all = c.requires.all_cells in
    begin c.args.req.now (λ i. (c.type_inv.table i).fits) c.requires.accepted (omega arith) refl

pub second_in_cell-rows-requires : goal.second_in_cell-rows-requires
second_in_cell-rows-requires c =
    let l = c.cells in
    let at = header_size + cell_size current * l.k in
    let kind = (request_of c.args.req.now).kind in
    let k : at + cell_size current - at ≡ cell_size current = omega arith in
    ready_for kind places_per_cell _ _ (rows_of-kind kind one_second places_per_cell c.requires.second refl) (asked _ _ l.invariant (omega (arith, c.cells-test.true)) k refl)

pub cells-preserved : goal.cells-preserved
cells-preserved c =
    let l = c.cells in
    let q = request_of c.args.req.now in
    let at = header_size + cell_size current * l.k in
    let k : at + cell_size current - at ≡ cell_size current = omega arith in
    let reached = second-reaches c.requires (cell_from l.table at) in
    let rows = rows_of-kind q.kind one_second places_per_cell c.requires.second refl in
    let told = stepped_by q _ _ places_per_cell _ _ _ _ _ (in_cell-second q _ c.requires.second) rows c.second_in_cell-rows.ensures in
    stepped _ _ l.invariant (omega (arith, c.cells-test.true)) reached k refl told c.second_in_cell-rows.auto.cell (omega arith) (omega arith) (omega arith)

pub returns : goal.returns
returns c =
    let l = c.cells in
    let all_done : c.args.cells - l.k ≤ 0 = omega (arith, c.cells-test.false) in
    record {
      table = sym (over-table l.invariant all_done);
      rows = sym (over-count l.invariant all_done);
      out = sym (over-answer l.invariant all_done);
      few = omega (arith, l.invariant.few);
    }

-- The walk leaves the table cell by cell and the rows as the rules give them.
-- Each stage hands what it knows to the laws of the cells (WalkSteps, Walking) and of the items (WalkItems, Searching).
use mathlib.Core.Path.{◌≡◌, sym, ◌∙◌, refl, ap}
use mathlib.Core.List.{List}
use Prim.Native.Nat.{ℕ, ◌+◌, ◌*◌, ◌-◌, ◌≤◌}
use native.Mathlib.Omega.{arith}
use Rattle.rules.specs.Layout.{current, header_size, cell_size}
use Rattle.rules.specs.Table.{Head, cell_of}
use Rattle.rules.specs.Record.{items_of}
use Rattle.engine.specs.Reach.{named_by}
use Rattle.engine.proofs.Searching.{Searched, search_hit, search_end, search_start, search_miss}
use Rattle.engine.proofs.WalkItems.{next-item, all_looked, items_span, no_items, named_here}
use Rattle.engine.proofs.WalkSteps.{begin, asked, passed, stepped}
use Rattle.engine.proofs.Walking.{cell_from, cell-long, over-table, over-count, over-answer}
use Rattle.rules.specs.declared.Request.{Request}
use Rattle.engine.proofs.walk.walk.Goals.{Left-items, then-reached, else-reached, else-items-test, then-items-test+then-named}
use Rattle.engine.proofs.walk.walk.Goals as goal

-- the head of the cell at hand
abbrev head_at : List ℕ → ℕ → Head
head_at table at = (cell_of current (cell_from table at)).head

-- where cell c begins
abbrev place_of : ℕ → ℕ
place_of c = header_size + cell_size current * c

-- ---- the stages of a turn

-- where the search has ended: whether the cell is reached, and how many items were looked at
found : (c : Left-items) → let p = c.args in
    Searched p.request.area (items_of p.req.now) (head_at c.cells.table (place_of c.cells.c)) c.items-test.reached c.items-test.looked
found c =
    let p = c.requires in
    let i = c.items in
    elim c.items-test.branch [
      | else-items-test w ↦ rw (w.reached-is, w.looked-is) (search_end _ _ _ _ _ i.looked i.invariant.1 (all_looked p i.looked w.items-test.false))
      | then-items-test+then-named w ↦
          rw (w.reached-is, w.looked-is)
          (search_hit _ _ _ _ _ i.looked i.invariant.1 _ (next-item p i.looked (omega (arith, w.items-test.true))) (sym w.named.ensures ∙ w.if-named.true))
    ]

pub seconds-requires : goal.seconds-requires
seconds-requires c =
    record {
      accepted = c.requires.accepted;
      all_cells = c.requires.all_cells;
      second = ap (λ (x : Request). x.kind) (sym c.requires.request) ∙ c.if-request-eq-ONE_SECOND.true;
    }

pub returns-then-request-eq-ONE_SECOND : goal.returns-then-request-eq-ONE_SECOND
returns-then-request-eq-ONE_SECOND c =
    rw c.requires.request c.seconds.ensures

pub cells-init : goal.cells-init
cells-init c =
    let all = c.requires.all_cells in
    begin c.args.req.now (λ i. (c.type_inv.table i).fits) c.requires.accepted (omega arith) c.requires.request

pub naming_of-naming-requires : goal.naming_of-naming-requires
naming_of-naming-requires c =
    let l = c.cells in
    let at = place_of l.c in
    let k : at + cell_size current - at ≡ cell_size current = omega arith in
    rw k (cell-long l.invariant (omega (arith, c.cells-test.true)))

pub items-init : goal.items-init
items-init c =
    let l = c.cells in
    let n = c.naming_of-naming in
    let at = place_of l.c in
    let k : at + cell_size current - at ≡ cell_size current = omega arith in (
      items_span c.requires,
      search_start c.args.request.area (items_of c.args.req.now) (head_at l.table at) (named_by n.result) (named_here l.table at k n.ensures) (no_items c.requires),
    )

pub items-preserved : goal.items-preserved
items-preserved c =
    let i = c.items in
    let here = next-item c.requires i.looked (omega (arith, c.items-test.true)) in
    (i.invariant.0, search_miss _ _ _ _ _ i.looked i.invariant.1 _ here (sym c.named.ensures ∙ c.if-named.false))

pub step_cell-n-requires : goal.step_cell-n-requires
step_cell-n-requires c =
    let l = c.cells in
    let at = place_of l.c in
    let k : at + cell_size current - at ≡ cell_size current = omega arith in
    record { ready = asked _ _ l.invariant (omega (arith, c.cells-test.true)) k refl; to_step = (c.requires.to_step, c.if-request-eq-ONE_SECOND.false) }

pub cells-preserved : goal.cells-preserved
cells-preserved c =
    let l = c.cells in
    let at = place_of l.c in
    let k : at + cell_size current - at ≡ cell_size current = omega arith in
    let search = (found (goal.at.cells-preserved c).Left-items).reached in
    elim c.if-reached.branch [
      | then-reached w ↦
          rw (w.table-is, w.answer-is, w.rows-is)
          (stepped _ _ l.invariant (omega (arith, c.cells-test.true)) (search ∙ w.if-reached.true) k refl w.step_cell-n.ensures w.step_cell-n.auto.cell (omega arith) (omega arith) (omega arith))
      | else-reached w ↦
          rw (w.table-is, w.answer-is, w.rows-is)
          (passed _ _ l.invariant (omega (arith, c.cells-test.true)) (omega arith) (omega arith) (search ∙ w.if-reached.false))
    ]

pub returns : goal.returns
returns c =
    let l = c.cells in
    let all_done : c.args.cells - l.c ≤ 0 = omega (arith, c.cells-test.false) in
    record {
      table = sym (over-table l.invariant all_done);
      rows = sym (over-count l.invariant all_done);
      out = sym (over-answer l.invariant all_done);
      few = omega (arith, l.invariant.few);
    }

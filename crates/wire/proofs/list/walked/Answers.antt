-- `walked` tells whether something in the list is marked reject, whether an item is not a cell's and whether the cells ascend: what is still to come decides, on top of
-- what was gathered so far.
use native.Mathlib.Omega.{arith}
use Rattle.wire.proofs.ListLaws.{switch, list-uncounted, walk_starts, nothing_told, entry_small, walk_breaks_lem, walk_next, walk_behind, walk_whole}
use Rattle.wire.proofs.list.walked.Goals as goal

pub returns-in_err-count : goal.returns-in_err-count
returns-in_err-count g c = rw c.from_residual.ensures (nothing_told _ _ (switch g.row.PLAIN) (list-uncounted _ _ c.in_err-count.ensures))

pub loop-init : goal.loop-init
loop-init g c = walk_starts _ _ (switch g.row.PLAIN) _ c.in_ok-count.ensures

pub entry_at-requires-clause-at_in_bounds : goal.entry_at-requires-clause-at_in_bounds
entry_at-requires-clause-at_in_bounds g c = c.loop.invariant.walk.within

pub returns-in_err-entry : goal.returns-in_err-entry
returns-in_err-entry g c = rw c.from_residual-in_err-entry.ensures (walk_breaks_lem _ _ c.loop.invariant c.loop-test.true c.in_err-entry.ensures)

pub overflow_add-least : goal.overflow_add-least
overflow_add-least g c = let small = entry_small c.args.m c.args.s.now (switch g.row.PLAIN) _ _ c.in_ok-entry.ensures in omega (arith, small)

pub loop-preserved : goal.loop-preserved
loop-preserved g c = walk_next _ _ c.loop.invariant c.loop-test.true _ c.in_ok-entry.ensures (omega arith)

pub returns-then-at-s : goal.returns-then-at-s
returns-then-at-s g c = walk_behind _ _ c.loop.invariant c.loop-test.false c.if-at-s.true

pub returns : goal.returns
returns g c = walk_whole _ _ c.loop.invariant c.loop-test.false c.if-at-s.false

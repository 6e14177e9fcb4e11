-- `verdict` says of any bytes what `table_verdict` says.
-- Each way out is the case of the verdict that its tests lead to; a legal header gives the length that reading the cells asks.
use mathlib.Core.Path.{sym}
use native.Mathlib.Omega.{arith}
use Rattle.rules.specs.Layout.{current}
use Rattle.rules.specs.Table.{legal_cell}
use Rattle.table_judge.proofs.OrderLaws.{cell-small}
use Rattle.table_judge.proofs.JudgeLaws.{unmarked, header-wrong, header-long, runs-size, cells-wrong, table_right}
use Rattle.table_judge.proofs.verdict.Goals as goal

pub returns-then-not-marked : goal.returns-then-not-marked
returns-then-not-marked c = unmarked current _ c.if-not-marked.ensures

pub returns-then-not-header_legal : goal.returns-then-not-header_legal
returns-then-not-header_legal c = header-wrong current _ c.if-not-marked.ensures c.if-not-header_legal.ensures

pub get-count-requires : goal.get-count-requires
get-count-requires c = let long = header-long current _ c.if-not-header_legal.ensures in omega arith

pub slice_bounds-runs_legal-count : goal.slice_bounds-runs_legal-count
slice_bounds-runs_legal-count c = header-long current _ c.if-not-header_legal.ensures

pub slice_bounds-runs_legal-start : goal.slice_bounds-runs_legal-start
slice_bounds-runs_legal-start c = header-long current _ c.if-not-header_legal.ensures

pub runs_legal-requires-clause-has_a_next : goal.runs_legal-requires-clause-has_a_next
runs_legal-requires-clause-has_a_next c run legal = cell-small current run.now (sym legal)

pub runs_legal-requires-clause-runs_whole : goal.runs_legal-requires-clause-runs_whole
runs_legal-requires-clause-runs_whole c = runs-size current _ c.if-not-header_legal.ensures _ c.get-count.ensures

pub returns-then-not-runs_legal : goal.returns-then-not-runs_legal
returns-then-not-runs_legal c =
    cells-wrong current _ c.if-not-marked.ensures c.if-not-header_legal.ensures _ c.get-count.ensures (c.runs_legal.ensures (legal_cell current) (λ run r e. e))
    c.if-not-runs_legal.true

pub returns : goal.returns
returns c =
    table_right current _ c.if-not-marked.ensures c.if-not-header_legal.ensures _ c.get-count.ensures (c.runs_legal.ensures (legal_cell current) (λ run r e. e))
    c.if-not-runs_legal.false

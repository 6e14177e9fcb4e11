-- `verdict` says of any bytes what `older_verdict` says.
-- Each way out is the case of the verdict that its tests lead to; a legal header gives the length that reading the cells asks. Version 1 is the only older one: `older-verdict`.
use mathlib.Core.Path.{sym, ◌∙◌}
use native.Mathlib.Omega.{arith}
use Rattle.rules.specs.Layout.{version1}
use Rattle.rules.specs.Table.{legal_cell}
use Rattle.rules.proofs.OlderLaws.{older-verdict}
use Rattle.table_judge.proofs.OrderLaws.{cell-small}
use Rattle.table_judge.proofs.JudgeLaws.{unmarked, header-wrong, header-long, runs-size, cells-wrong, table_right}
use Rattle.table_convert.proofs.WideLaws.{same-identity, same-runs}
use Rattle.table_convert.proofs.judge.verdict.Goals as goal

pub returns-then-not-marked : goal.returns-then-not-marked
returns-then-not-marked c = unmarked version1 _ c.if-not-marked.ensures ∙ sym (older-verdict _)

pub returns-then-not-header_legal : goal.returns-then-not-header_legal
returns-then-not-header_legal c = header-wrong version1 _ c.if-not-marked.ensures c.if-not-header_legal.ensures ∙ sym (older-verdict _)

pub get-count-requires : goal.get-count-requires
get-count-requires c = let long = header-long version1 _ c.if-not-header_legal.ensures in omega arith

pub slice_bounds-runs_legal-count : goal.slice_bounds-runs_legal-count
slice_bounds-runs_legal-count c = header-long version1 _ c.if-not-header_legal.ensures

pub slice_bounds-runs_legal-start : goal.slice_bounds-runs_legal-start
slice_bounds-runs_legal-start c = header-long version1 _ c.if-not-header_legal.ensures

pub runs_legal-requires-clause-has_a_next : goal.runs_legal-requires-clause-has_a_next
runs_legal-requires-clause-has_a_next c run legal = rw same-identity (cell-small version1 run.now (sym legal))

pub runs_legal-requires-clause-runs_whole : goal.runs_legal-requires-clause-runs_whole
runs_legal-requires-clause-runs_whole c = runs-size version1 _ c.if-not-header_legal.ensures _ c.get-count.ensures

pub returns-then-not-runs_legal : goal.returns-then-not-runs_legal
returns-then-not-runs_legal c =
    cells-wrong version1 _ c.if-not-marked.ensures c.if-not-header_legal.ensures
    _ c.get-count.ensures (c.runs_legal.ensures (legal_cell version1) (λ run r e. e) ∙ same-runs _ _) c.if-not-runs_legal.true
    ∙ sym (older-verdict _)

pub returns : goal.returns
returns c =
    table_right version1 _ c.if-not-marked.ensures c.if-not-header_legal.ensures
    _ c.get-count.ensures (c.runs_legal.ensures (legal_cell version1) (λ run r e. e) ∙ same-runs _ _) c.if-not-runs_legal.false
    ∙ sym (older-verdict _)

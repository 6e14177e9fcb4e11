-- `areas_legal` says whether the used areas come first and ascend, and the rest is zero.
-- The definition computes once the number of areas is known: one law for each of 0 to 4, and one for more.
use native.Mathlib.Omega.{arith}
use Rattle.table_judge.proofs.ReadLaws.{areas-at, areas-none, areas-one, areas-two, areas-three, areas-four, areas-more}
use Rattle.table_judge.proofs.areas_legal.Goals as goal

pub returns-then-used-eq0 : goal.returns-then-used-eq0
returns-then-used-eq0 c = rw (c.if-used-eq0.true, ← areas-at _ c.requires, c.get.ensures, c.get-then-used-eq0.ensures) (areas-none _)

pub returns-then-used-eq1 : goal.returns-then-used-eq1
returns-then-used-eq1 c = rw (c.if-used-eq1.true, ← areas-at _ c.requires, c.get-then-used-eq1.ensures, c.get-then-used-eq1-2.ensures) (areas-one _)

pub returns-then-used-eq2 : goal.returns-then-used-eq2
returns-then-used-eq2 c =
    rw (c.if-used-eq2.true, ← areas-at _ c.requires, c.upper24-a.ensures, c.upper24-b.ensures, c.get-then-used-eq2.ensures, c.get-then-used-eq2-2.ensures)
    (areas-two _)

pub returns-then-used-eq3 : goal.returns-then-used-eq3
returns-then-used-eq3 c =
    rw (c.if-used-eq3.true, ← areas-at _ c.requires, c.upper24-a.ensures, c.upper24-b.ensures, c.upper24-c.ensures, c.lower24-d.ensures)
    (areas-three _ _ _ _)

pub returns-then-used-eq4 : goal.returns-then-used-eq4
returns-then-used-eq4 c =
    rw (c.if-used-eq4.true, ← areas-at _ c.requires, c.upper24-a.ensures, c.upper24-b.ensures, c.upper24-c.ensures, c.lower24-d.ensures)
    (areas-four _ _ _ _)

pub returns : goal.returns
returns c = areas-more _ _ (omega arith)

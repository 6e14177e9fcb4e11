-- `build` leaves and answers what `built` says: 9, then 8, else the empty table, whole.
-- Each way out is the case of the verdict that its tests lead to; few heads make every sum fit.
use native.Mathlib.Omega.{arith}
use Rattle.table_build.specs.Build.{empty_run}
use Rattle.table_build.proofs.BuiltLaws.{heads-few, heads_bad, buffer-short, table-built}
use Rattle.table_build.proofs.build.Goals as goal

pub returns-then-not-heads_legal : goal.returns-then-not-heads_legal
returns-then-not-heads_legal c = heads_bad _ _ c.if-not-heads_legal.ensures

pub overflow_mul-length : goal.overflow_mul-length
overflow_mul-length c = let few = heads-few _ c.if-not-heads_legal.ensures in omega arith

pub overflow_add-length : goal.overflow_add-length
overflow_add-length c = let few = heads-few _ c.if-not-heads_legal.ensures in omega arith

pub returns-then-table-length : goal.returns-then-table-length
returns-then-table-length c = buffer-short _ c.if-not-heads_legal.ensures _ c.if-table-length.true

pub put_header-requires : goal.put_header-requires
put_header-requires c = let few = heads-few _ c.if-not-heads_legal.ensures in (omega arith, omega arith)

pub returns : goal.returns
returns c =
    table-built _ c.if-not-heads_legal.ensures _ (λ i. (c.type_inv.heads i).fits) c.if-table-length.false c.put_header.ensures (c.put_cells.ensures empty_run (λ cell run left e. e))

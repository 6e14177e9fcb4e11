-- `cell_count` counts the cells of a list: no list has none, and another has as many entries as its first two bytes say, each a cell's.
use mathlib.Core.Path.{sym}
use lib.ListN.{length}
use borrow.Author.Tests.{eqb-true, eqb-false}
use Rattle.wire_cells.proofs.WholeListLaws.{entries, Entries, none-counted, some-counted}
use Rattle.wire_cells.proofs.cell_count.Goals.{Else-is_empty}
use Rattle.wire_cells.proofs.cell_count.Goals as goal

-- where there is a list
all : (c : Else-is_empty) → Entries c.args.m c.args.cells.now
all c = entries _ _ (eqb-false (length c.args.cells.now) 0 (sym c.if-is_empty.ensures)) c.requires

pub returns-then-is_empty : goal.returns-then-is_empty
returns-then-is_empty c = none-counted _ c.args.cells.now (eqb-true (length c.args.cells.now) 0 (sym c.if-is_empty.ensures))

pub get-requires : goal.get-requires
get-requires c = (all (goal.at.get-requires c).Else-is_empty).long

pub returns : goal.returns
returns c = some-counted _ c.args.cells.now (all (goal.at.returns c).Else-is_empty) c.get.ensures

-- `cell_legal` says whether a cell's bytes are legal.
-- Its head and its places are lent on, and what both answer is the definition.
use native.Mathlib.Omega.{arith}
use lib.ListN.{length-take}
use Rattle.rules.specs.Table.{legal_cell}
use Rattle.table_judge.proofs.PiecesLaws.{take_rest}
use Rattle.table_judge.proofs.cell_legal.Goals as goal

pub slice_bounds-head_legal-end : goal.slice_bounds-head_legal-end
slice_bounds-head_legal-end c = rw length-take (omega arith)

pub head_legal-requires : goal.head_legal-requires
head_legal-requires c = rw length-take (omega arith)

pub returns : goal.returns
unfolding legal_cell
returns c = rw (c.head_legal.ensures, c.places_legal.ensures, take_rest)

-- `old_cell_legal` says whether a cell is legal by version 1.
-- It is if its head is legal, its periods are short and its places, widened, are legal: `legal-wide`.
use Rattle.table_convert.proofs.WideCellLaws.{legal-wide}
use Rattle.table_convert.proofs.judge.old_cell_legal.Goals as goal

pub returns : goal.returns
returns c =
    rw (c.head_legal.ensures, c.periods_short.ensures, c.places_legal.ensures, c.widen_places.ensures)
    (legal-wide c.args.cell.now (λ i. (c.type_inv.cell i).fits) c.requires)

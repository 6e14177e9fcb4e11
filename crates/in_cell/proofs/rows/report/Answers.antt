-- `report` stores the row of a cell with that count at the start of the room for rows.
-- The identity that it reads is the one that the row's definition takes from the head: `one-row`.
use mathlib.Core.Path.{◌∙◌}
use Rattle.in_cell.proofs.RowsLaws.{one-row}
use Rattle.in_cell.proofs.rows.report.Goals as goal

pub returns : goal.returns
returns c =
    let s = c.args in
    c.put_row.ensures ∙ rw (c.identity-identity.ensures, one-row s.cell.now s.count.0)

-- A cell of the table, by whether a request reaches it: its bytes afterwards, and its rows.
-- A reached cell's routine leaves the bytes that the rule gives; an unreached cell stays, and has no row.
use mathlib.Core.Path.{◌≡◌, sym}
use mathlib.Core.Bool.{true, false}
use mathlib.Core.List.{List, [], flat_map}
use Prim.Native.Nat.{ℕ}
use lib.ListN.{length, length-map}
use Rattle.octets.specs.Runs.{Bytes}
use Rattle.rules.specs.Layout.{current, cell_size}
use Rattle.rules.specs.Table.{cell_of, legal_cell}
use Rattle.rules.specs.Reach.{reaches}
use Rattle.rules.specs.InCell.{in_cell}
use Rattle.rules.specs.Answer.{row_bytes}
use Rattle.rules.specs.Applied.{cell_after}
use Rattle.rules.specs.Reply.{row_by, cell_rows}
use Rattle.rules.specs.declared.Request.{Request}
use Rattle.rules.proofs.CellCodec.{legal-cell}
use Rattle.rules.proofs.StepLaws.{step-reached, rows-reached, rows_unreached}
use Rattle.cell_read.specs.Places.{live_places, with_places}
use Rattle.cell_read.proofs.PlacesLaws.{with_places-cell}
use Rattle.in_cell.specs.Step.{rows_bytes}

module _ (q : Request) (items c : List ℕ) where
  pub after_unreached : reaches q.area items (cell_of current c).head ≡ false → (cell_after current q items c ≡ c) × (cell_rows q items (cell_of current c) ≡ [])
  unfolding cell_after
  after_unreached e = (rw e, rows_unreached q items (cell_of current c) e)

  module _ (b : Bytes c) (n : length c ≡ cell_size current) (l : legal_cell current c ≡ true) (e : reaches q.area items (cell_of current c).head ≡ true) where
    pub after-reached : cell_after current q items c ≡ with_places c (in_cell q (live_places c)).places
    unfolding cell_after cell_of
    after-reached =
        rw (e, step-reached q items (cell_of current c) e)
        (sym (with_places-cell c b n (legal-cell current c l).0 (in_cell q (live_places c)).places))

    pub rows_of-reached : flat_map (row_bytes current) (cell_rows q items (cell_of current c)) ≡ rows_bytes c (in_cell q (live_places c)).rows
    unfolding rows_bytes cell_of
    rows_of-reached = rw (rows-reached q items (cell_of current c) e)

    pub count_of_reached : length (cell_rows q items (cell_of current c)) ≡ length (in_cell q (live_places c)).rows
    unfolding cell_of
    count_of_reached = rw (rows-reached q items (cell_of current c) e) (length-map (in_cell q (live_places c)).rows (row_by (cell_of current c)))

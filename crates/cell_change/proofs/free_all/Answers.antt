-- `free_all` leaves the cell without places.
-- Zeros behind the head are no place: `freed`.
use native.Mathlib.Omega.{arith}
use borrow.Author.Rules.{rules}
use Prim.Native.Nat.{◌*◌}
use Rattle.rules.specs.Layout.{current, head_size, place_size, places_per_cell}
use Rattle.cell_change.proofs.Freeing.{filled, freed}
use Rattle.cell_change.proofs.free_all.Goals as goal

pub returns : goal.returns
returns c =
    let long = c.requires in
    freed c.args.cell.now _ c.requires (filled c.args.cell.now _ (head_size current) (place_size current * places_per_cell) (omega arith) (c.fill.ensures.after (λ y e. search rules)))

-- `cell_at` gives the cell of an entry: the list is whole, so that the entry is there, and its length says where its bytes are.
use Rattle.std.specs.Prelude.{Some}
use mathlib.Core.Path.{refl}
use Prim.Native.Nat.{◌+◌, ◌≤◌}
use native.Mathlib.Omega.{arith}
use lib.ListN.{length}
use Rattle.aper.specs.Readers.{LengthAt}
use Rattle.wire_cells.proofs.EntryLaws.{entry_length, entry-within, entry-item, entry-long, cell-there}
use borrow.Author.Rules.{rules}
use Rattle.wire_cells.proofs.cell_at.Goals.{After-unwrap-of}
use Rattle.wire_cells.proofs.cell_at.Goals as goal

-- the entry's length, and where its bytes begin
size : (c : After-unwrap-of) → LengthAt c.args.cells.now (c.args.at + 3) (Some c.unwrap-of.result)
size c = rw c.unwrap-of.ensures at c.length_at.ensures

-- its cell's bytes are in the list's, and it ends there
within : (c : After-unwrap-of) → (c.unwrap-of.result.start + 9 ≤ c.unwrap-of.result.start + c.unwrap-of.result.of) × (c.unwrap-of.result.start + c.unwrap-of.result.of ≤ length c.args.cells.now)
within c = (entry-long _ _ _ c.requires _ (size c) (λ i. (c.type_inv.cells i).fits), (entry-within _ _ _ c.requires _ (size c)).1)

pub unwrap-of-requires : goal.unwrap-of-requires
unwrap-of-requires c = entry_length _ _ _ c.requires _ c.length_at.ensures

pub identity_at-requires : goal.identity_at-requires
identity_at-requires c = let inside = within (goal.at.identity_at-requires c).After-unwrap-of in omega (arith, inside.0, inside.1)

pub overflow_add-start-2 : goal.overflow_add-start-2
overflow_add-start-2 c = let inside = within (goal.at.overflow_add-start-2 c).After-unwrap-of in search rules

pub slice_bounds-count_in-end : goal.slice_bounds-count_in-end
slice_bounds-count_in-end c = (within (goal.at.slice_bounds-count_in-end c).After-unwrap-of).1

pub count_in-requires : goal.count_in-requires
count_in-requires c = entry-item _ _ _ c.requires _ (size (goal.at.count_in-requires c).After-unwrap-of)

pub returns : goal.returns
returns c = cell-there _ _ _ c.requires _ (size (goal.at.returns c).After-unwrap-of) (λ i. (c.type_inv.cells i).fits) _ c.identity_at.ensures c.count_in.ensures refl

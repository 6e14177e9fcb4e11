-- What a second makes of several places, by the first of them: its row, and whether it has ended.
-- Each is one place's own part and that of the rest, by the definition.
use mathlib.Core.Path.{◌≡◌, refl}
use mathlib.Core.Bool.{true, false}
use mathlib.Core.List.{List, [], ◌∷◌, ◌++◌, append-nil, flat_map}
use Prim.Native.Nat.{ℕ, ◌+◌}
use lib.ListN.{length-append}
use Rattle.rules.specs.Lists.{those}
use Rattle.rules.specs.Layout.{current}
use Rattle.rules.specs.Table.{cell_of}
use Rattle.rules.specs.InCell.{Told, is_due, has_ended, second}
use Rattle.rules.specs.Answer.{row_bytes}
use Rattle.rules.specs.Reply.{row_by}
use Rattle.rules.specs.declared.Place.{Place}
use Rattle.in_cell.specs.Step.{rows_bytes}
use Rattle.in_cell.specs.Second.{told_of, endings}

module _ (p : Place) (ps : List Place) where
  pub told-due : is_due p ≡ true → (second (p ∷ ps)).rows ≡ told_of p ∷ (second ps).rows
  unfolding second flat_map
  told-due e = rw e

  pub told-waits : is_due p ≡ false → (second (p ∷ ps)).rows ≡ (second ps).rows
  unfolding second flat_map
  told-waits e = rw e

  pub endings_cons : endings (p ∷ ps) ≡ endings (p ∷ []) + endings ps
  unfolding endings those flat_map
  endings_cons = rw (append-nil, length-append)

  pub endings-none : has_ended p ≡ false → endings (p ∷ ps) ≡ endings ps
  unfolding endings those flat_map
  endings-none e = rw e

pub rows_cons : (c : List ℕ) (x : Told) (xs : List Told) → rows_bytes c (x ∷ xs) ≡ row_bytes current (row_by (cell_of current c) x) ++ rows_bytes c xs
unfolding rows_bytes flat_map
rows_cons c x xs = refl

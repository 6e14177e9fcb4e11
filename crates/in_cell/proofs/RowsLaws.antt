-- The bytes of a cell's one row, and what a routine leaves: nothing changed and no row, or other places and one row.
-- What `Stepped` asks, field by field.
use mathlib.Core.Path.{◌≡◌, refl}
use mathlib.Core.List.{List, [], flat_map, append-nil}
use Prim.Native.Nat.{ℕ}
use native.Mathlib.Omega.{arith}
use lib.ListN.{take}
use lib.Seq.{sets}
use Rattle.rules.specs.Layout.{current, head_size}
use Rattle.rules.specs.Table.{head_of, cell_of}
use Rattle.rules.specs.InCell.{Done, done, reported}
use Rattle.rules.specs.Answer.{row_bytes}
use Rattle.rules.specs.declared.Place.{Place}
use Rattle.cell_read.specs.Places.{live_places, with_places, Formed}
use Rattle.in_cell.specs.Step.{rows_bytes, Stepped}

-- ---- bytes

pub one-row : (c : List ℕ) (n : ℕ) → rows_bytes c (reported n) ≡ row_bytes current (record { identity = (head_of current (take (head_size current) c)).identity; count = n; content = 0 })
unfolding rows_bytes cell_of flat_map
one-row c n = append-nil _

-- ---- what a routine leaves

-- no place changes and nothing is reported
pub idle : (d : Done) (c out : List ℕ) → Formed c → d ≡ done (live_places c) [] → Stepped d c out c out 1 0
unfolding rows_bytes flat_map
idle d c out formed e = rw e (record { cell = formed.whole; many = refl; few = omega arith; rows = refl })

-- the cell has these places now and is reported
pub told : (d : Done) (c out : List ℕ) (ps : List Place) (n : ℕ) → d ≡ done ps (reported n)
    → (c' out' : List ℕ) → c' ≡ with_places c ps → out' ≡ sets out 0 (rows_bytes c (reported n))
    → Stepped d c out c' out' 1 1
told d c out ps n e c' out' cell rows = rw e (record { cell = cell; many = refl; few = omega arith; rows = rows })

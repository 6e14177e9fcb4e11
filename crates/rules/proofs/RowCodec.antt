-- A row and its bytes, by the version, are each other's inverse; a sound row fits its fields, and is legal.
-- By the laws of layouts.
use mathlib.Core.Path.{◌≡◌, refl, sym, ◌∙◌}
use mathlib.Core.Bool.{true}
use mathlib.Core.List.{List}
use Prim.Native.Nat.{ℕ}
use native.Mathlib.Omega.{arith}
use lib.ListN.{length}
use Rattle.octets.specs.Runs.{Bytes}
use Rattle.octets.specs.Fields.{numbers, field_of}
use Rattle.octets.proofs.FieldsLaws.{fit-numbers, bytes_bytes_of}
use Rattle.rules.specs.Layout.{Version, row_fields, row_size}
use Rattle.rules.specs.Reply.{Row}
use Rattle.rules.specs.Answer.{row_of, row_numbers, row_bytes, legal_row}
use Rattle.rules.specs.Sound.{fits, sound_row}
use Rattle.rules.proofs.TestLaws.{both}
use Rattle.rules.proofs.FitLaws.{fits-Fit, Fit-fits, numbers-written, numbers-again, length-written}
use Rattle.rules.proofs.LayoutLaws.{row-size}

module _ (v : Version) where
  pub length-row_bytes : (w : Row) → length (row_bytes v w) ≡ row_size v
  unfolding row_bytes
  length-row_bytes w = length-written (row_fields v) (row_numbers w) refl ∙ row-size v

  module _ (b : List ℕ) (bytes : Bytes b) (long : length b ≡ row_size v) where
    pub row_back : row_bytes v (row_of v b) ≡ b
    unfolding row_bytes row_of numbers field_of
    row_back = numbers-again (row_fields v) b bytes (long ∙ sym (row-size v))

    pub row_fits : fits (row_fields v) (row_numbers (row_of v b)) ≡ true
    unfolding row_of numbers field_of
    row_fits = Fit-fits (row_fields v) (numbers (row_fields v) b) (fit-numbers (row_fields v) b bytes (omega (arith, row-size v)))

  module _ (w : Row) (fit : fits (row_fields v) (row_numbers w) ≡ true) where
    pub row-again : row_of v (row_bytes v w) ≡ w
    unfolding row_of row_bytes field_of
    row-again = rw (numbers-written (row_fields v) (row_numbers w) (fits-Fit (row_fields v) (row_numbers w) fit))

    pub bytes-row_bytes : Bytes (row_bytes v w)
    unfolding row_bytes
    bytes-row_bytes = bytes_bytes_of (row_fields v) (row_numbers w) (fits-Fit (row_fields v) (row_numbers w) fit)

  -- a sound row fits its fields, and is legal
  pub row-sound : (kind : ℕ) (w : Row) → sound_row v kind w ≡ true → (fits (row_fields v) (row_numbers w) ≡ true) × (legal_row kind w ≡ true)
  unfolding sound_row
  row-sound kind w e = both (fits (row_fields v) (row_numbers w)) (legal_row kind w) e

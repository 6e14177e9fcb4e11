-- A cell identity says the PLMN and the part that it was made of, and is made of those that it says.
-- By the division with remainder by 2^36.
use mathlib.Core.Path.{◌≡◌}
use Prim.Native.Nat.{ℕ, ◌<◌}
use native.Mathlib.Nat.{div-add-mod'}
use native.Mathlib.Omega.{arith}
use lib.Arith.{digits_div, digits_mod}
use Rattle.rules.specs.Layout.{cell_end}
use Rattle.rules.specs.Identity.{plmn_end, part_end, identity_of, plmn_of, part_of}

module _ (plmn part : ℕ) (short : part < part_end) where
  pub plmn-back : plmn_of (identity_of plmn part) ≡ plmn
  plmn-back = digits_div plmn short

  pub part-back : part_of (identity_of plmn part) ≡ part
  part-back = digits_mod plmn short

  -- and is one of document 01's
  pub identity-below : plmn < plmn_end → identity_of plmn part < cell_end
  identity-below h = omega (arith, h, short)

pub identity-back : (identity : ℕ) → identity_of (plmn_of identity) (part_of identity) ≡ identity
identity-back identity = div-add-mod' identity part_end

-- "A cell identity is made from its PLMN and its 36-bit part", and a tracking area from the PLMN and its code.
use Rattle.std.specs.Prelude.{Option, cond, ◌&&◌, ℕ, ◌+◌, ◌*◌, ◌/◌, ◌%◌, ◌^◌, ltb, Some, None}
use Rattle.rules.specs.declared.CellIdentity.{CellIdentity}

abbrev pub plmn_end : ℕ
plmn_end = 2 ^ 24

abbrev pub part_end : ℕ
part_end = 2 ^ 36

abbrev pub code_end : ℕ
code_end = 2 ^ 24

-- the one number by which cells are known and ordered
abbrev pub identity_number : CellIdentity → ℕ
identity_number x = x.0

abbrev pub identity_of : ℕ → ℕ → ℕ
identity_of plmn part = plmn * part_end + part

abbrev pub plmn_of : ℕ → ℕ
plmn_of identity = identity / part_end

abbrev pub part_of : ℕ → ℕ
part_of identity = identity % part_end

-- a PLMN and a part that fit make an identity
unfoldable pub identity_answer : ℕ → ℕ → Option CellIdentity
identity_answer plmn part =
    cond (ltb plmn plmn_end && ltb part part_end) (Some (record { 0 = identity_of plmn part })) None

-- the item that names the cell
abbrev pub cell_item : ℕ → ℕ
cell_item identity = identity

-- "PLMN x 2^24 + code": the item that names the tracking area of a cell
abbrev pub tracking_item : ℕ → ℕ → ℕ
tracking_item identity code = plmn_of identity * code_end + code

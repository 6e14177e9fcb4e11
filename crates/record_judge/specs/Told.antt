-- The tests 5, 6 and 7 of the rules (specs/Record, specs/Refusals there), of a request of which it is told which fields are zero, and which bits are set in its items.
-- That each says what the rules say is proved once, in ToldLaws.
use Rattle.std.specs.Prelude.{Bool, false, cond, not, ◌&&◌, ◌||◌, [], ◌∷◌, ℕ, eqb, ltb, leb}
use Rattle.rules.specs.Lists.{one_of}
use Rattle.rules.specs.Layout.{first_sib, last_sib}
use Rattle.rules.specs.Record.{write_replace, Kind, a_write_replace, a_cancel, a_restart, a_failure, a_second, unknown_kind, kind_of, no_area, cell_area, any_area, item_end, cancels_nothing}
use Rattle.rules.specs.Refusals.{test, first_of, Verdict}
use Rattle.rules.specs.declared.Request.{Request}
use Rattle.rules.specs.declared.Seconds.{Seconds}
use Rattle.rules.specs.declared.Refusal.TheVariants.{RecordFields, RecordLimits, CancelsNothing}

-- ---- 5

-- flags allowed and each sum of them; areas allowed; whether the fields are zero that the kind leaves out
abbrev pub kind_told : Kind → ℕ → ℕ → Bool → Bool → Bool
kind_told a_write_replace flags area textless omitted = one_of flags (0 ∷ 1 ∷ []) && one_of area any_area
kind_told a_cancel flags area textless omitted = one_of flags (0 ∷ 2 ∷ 4 ∷ 6 ∷ []) && one_of area any_area && omitted
kind_told a_restart flags area textless omitted = one_of flags (0 ∷ []) && one_of area (no_area ∷ cell_area ∷ []) && textless
kind_told a_failure flags area textless omitted = one_of flags (0 ∷ []) && one_of area (no_area ∷ cell_area ∷ []) && textless
kind_told a_second flags area textless omitted = one_of flags (0 ∷ []) && one_of area (no_area ∷ []) && textless
kind_told unknown_kind flags area textless omitted = false

abbrev pub area_told : ℕ → ℕ → Bool
area_told area n = cond (eqb area no_area) (eqb n 0) (not (eqb n 0))

-- ---- 6

abbrev pub text_told : Request → Seconds → Bool
text_told q longest =
    not (eqb q.kind write_replace) || leb q.period.0 longest.0 && leb first_sib q.sib && leb q.sib last_sib

abbrev pub items_told : ℕ → ℕ → ℕ → Bool
items_told area n any = eqb n 0 || ltb any (item_end area)

-- ---- in their order

unfoldable pub told_verdict : (q : Request) (textless omitted : Bool) (n any : ℕ) (longest : Seconds) → Verdict
told_verdict q textless omitted n any longest =
    first_of
    (test (kind_told (kind_of q.kind) q.flags q.area textless omitted && area_told q.area n) RecordFields
    ∷ test (text_told q longest && items_told q.area n any) RecordLimits
    ∷ test (not (cancels_nothing q)) CancelsNothing
    ∷ [])

-- The room of an answer, computed: a second's, which `omega` cannot read off its name. More cells ask for no less of it.
use mathlib.Core.Path.{◌≡◌, refl, ap}
use mathlib.Core.Bool.{true≢false}
use Prim.Native.Nat.{ℕ, ◌+◌, ◌*◌, ◌≤◌}
use native.Mathlib.Omega.{arith}
use Rattle.rules.specs.Layout.{current, answer_size, row_size, places_per_cell, most_cells}
use Rattle.rules.specs.Record.{one_second, unknown_kind, kind_of}
use Rattle.rules.specs.Answer.{is_known, room_for}
use Rattle.report_turns.specs.Report.{answer_room}

pub room_of : (n : ℕ) → answer_room n ≡ answer_size current + row_size current * places_per_cell * n
unfolding room_for
room_of n = refl

pub room_within : (n k : ℕ) → n ≤ most_cells → answer_room most_cells ≤ k → answer_room n ≤ k
room_within n k few room = omega (arith, room_of n, room_of most_cells)

pub second-known : kind_of one_second ≡ unknown_kind → ⊥
second-known e = true≢false (ap is_known e)

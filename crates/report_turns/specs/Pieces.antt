-- However an input is cut into pieces, the program comes to an end of it, and what it says, text after text, is `report` of the whole.
use Rattle.std.specs.Prelude.{◌≡◌, false, ℕ}
use mathlib.Core.List.{List, [], flat_map}
use Rattle.report_turns.specs.Report.{report}
use Rattle.report_turns.specs.Turns.{begun, Spoken}

abbrev pub joined : List (List ℕ) → List ℕ
joined pieces = flat_map (λ p. p) pieces

-- ---- THE CLAIM

abbrev pub CutAnywhere : Type 0
CutAnywhere = (pieces : List (List ℕ)) (text : List ℕ) → Spoken false begun [] pieces text → text ≡ report (joined pieces)

-- turn after turn comes to an end
abbrev pub AlwaysSpoken : Type 0
AlwaysSpoken = (pieces : List (List ℕ)) → (text : List ℕ) × Spoken false begun [] pieces text

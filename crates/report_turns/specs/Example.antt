-- Document 01's example of the program, whole: its input as bytes, its output as ASCII codes, and what is claimed of them.
use Rattle.std.specs.Prelude.{◌≡◌, ℕ, ◌+◌}
use mathlib.Core.List.{List, [], ◌∷◌, ◌++◌, flat_map}
use Rattle.rules.specs.ByHand.{head}
use Rattle.rules.specs.Samples.{example}
use Rattle.report_turns.specs.Report.{report}

-- two cells, and the seven requests
abbrev pub example_input : List ℕ
example_input = 0 ∷ 2 ∷ head 16 1 ++ head 32 2 ++ flat_map (λ r. r) example

-- "ok KIND ROWS", both of one digit
abbrev ok : ℕ → ℕ → List ℕ
ok kind rows = 111 ∷ 107 ∷ 32 ∷ (48 + kind) ∷ 32 ∷ (48 + rows) ∷ 10 ∷ []

-- "00f1100000000x0 COUNT CONTENT", all of one digit
abbrev row : ℕ → ℕ → ℕ → List ℕ
row x count content =
    48
    ∷ 48
    ∷ 102
    ∷ 49
    ∷ 49
    ∷ 48
    ∷ 48
    ∷ 48
    ∷ 48
    ∷ 48
    ∷ 48
    ∷ 48
    ∷ 48
    ∷ (48 + x)
    ∷ 48
    ∷ 32
    ∷ (48 + count)
    ∷ 32
    ∷ (48 + content)
    ∷ 10
    ∷ []

abbrev pub example_output : List ℕ
example_output =
    ok 1 2
    ++ row 1 0 0
    ++ row 2 0 0
    ++ ok 5 2
    ++ row 1 1 7
    ++ row 2 1 7
    ++ ok 5 0
    ++ ok 5 2
    ++ row 1 2 7
    ++ row 2 2 7
    ++ ok 2 1
    ++ row 2 2 0
    ++ ok 2 1
    ++ row 1 0 0
    ++ ok 2 0

-- ---- THE CLAIM

abbrev pub ExampleHolds : Type 0
ExampleHolds = report example_input ≡ example_output

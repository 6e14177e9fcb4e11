-- Document 01's example of the program holds. What its calls leave is a sample of `rules`; what is said of that is computed here.
-- An input that is cut into these records is told as they are served, one behind the other: `served-said`.
use Rattle.std.specs.Prelude.{Some}
use mathlib.Core.Path.{◌≡◌, refl}
use mathlib.Core.Bool.{true}
use mathlib.Core.List.{List, [], ◌∷◌, ◌++◌, flat_map}
use Prim.Native.Nat.{ℕ, zero, suc, ◌≤◌}
use native.Mathlib.Omega.{arith}
use lib.ListN.{length, take, drop, replicate}
use Rattle.octets.specs.Runs.{pieces}
use Rattle.octets.specs.Numbers.{be}
use Rattle.octets.specs.Fields.{numbers, field_of}
use Rattle.rules.specs.Answer.{row_of, answer_of, room_for}
use Rattle.rules.specs.ByHand.{free, AllServed}
use Rattle.rules.specs.Samples.{two, example, example_gives}
use Rattle.rules.proofs.SamplesHold.{samples_hold}
use Rattle.report_lines.specs.Text.{glyph, digits, places, decimal, number_text, cell_text, ok_text, row_text, answer_text, said_of}
use Rattle.report_lines.specs.Framing.{cells_named, own_size, frame_of, stops_at}
use Rattle.report_turns.specs.Report.{requests_said, opened_said, report}
use Rattle.report_turns.specs.Example.{ExampleHolds}
use Rattle.report_turns.proofs.RequestLaws.{said-none}

-- the input is these records, each framed by its own n
abbrev Cut : List ℕ → List (List ℕ) → Type 0
Cut l [] = length l ≡ 0
Cut l (r ∷ rs) = (frame_of l true ≡ Some (length r)) × (take (length r) l ≡ r) × Cut (drop (length r) l) rs

-- what is said of requests that leave this, in an answer buffer
abbrev said_all : List ℕ → List (List ℕ × List ℕ) → List ℕ
said_all a [] = []
said_all a (x ∷ xs) =
    let told = x.1 ++ drop (length x.1) a in
    said_of (record { number = 0; length = length x.1; table = x.0; answer = told }) ++ said_all told xs

served-said : (k : ℕ) (t a l : List ℕ) (rs : List (List ℕ)) (xs : List (List ℕ × List ℕ)) → length rs ≤ k → AllServed t a rs xs → Cut l rs
    → requests_said k t a l ≡ said_all a xs
unfolding requests_said stops_at
served-said k t a l [] [] h s c = said-none k t a l c
served-said k t a l [] (x ∷ xs) h s c = absurd s
served-said k t a l (r ∷ rs) [] h s c = absurd s
served-said zero t a l (r ∷ rs) (x ∷ xs) h s c = absurd (omega arith)
served-said (suc k) t a l (r ∷ rs) (x ∷ xs) h s c =
    rw (c.0, c.1, s.0, served-said k x.0 (x.1 ++ drop (length x.1) a) (drop (length r) l) rs xs (omega arith) s.1 c.2)

example-cut : Cut (flat_map (λ r. r) example) example
unfolding flat_map be numbers field_of own_size frame_of
example-cut = (refl, refl, (refl, refl, (refl, refl, (refl, refl, (refl, refl, (refl, refl, (refl, refl, refl)))))))

pub example-holds : ExampleHolds
unfolding flat_map pieces be numbers field_of row_of answer_of room_for glyph digits places decimal number_text cell_text ok_text row_text answer_text said_of cells_named opened_said report
example-holds =
    rw samples_hold.0.opens
    (served-said (length (flat_map (λ r. r) example)) (two (free 4) (free 4)) (replicate 124 0) (flat_map (λ r. r) example) example example_gives (omega arith) samples_hold.0.runs example-cut)

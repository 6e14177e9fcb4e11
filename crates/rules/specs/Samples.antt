-- Document 01, "Sample situations": the rows marked P, the others and the program's example, and what is claimed of each.
use Rattle.std.specs.Prelude.{◌≡◌, List, [], ◌∷◌, ◌++◌, ℕ, replicate}
use Rattle.rules.specs.Applied.{built}
use Rattle.rules.specs.ByHand.{header, identity, head, text, free, request, starts, cancels, passes, answers, says, refuses, leaves, one, Sample, sample, AllHold, AllServed}

-- ---- P1 to P13

abbrev pub four : List ℕ
four = text 1 7 5 3 1 4 ++ text 2 7 5 3 1 4 ++ text 3 7 5 3 1 4 ++ text 4 7 5 3 1 4

-- a text sent twice
abbrev pub twice : List ℕ
twice = one (text 4370 7 2 3 2 1 ++ free 3)

-- P1: period 4095, requested 2: starts
abbrev pub p1 : Sample
p1 =
    sample (one (free 4)) (starts 0 4370 7 4095 2) []
    (leaves (one (text 4370 7 4095 2 0 0 ++ free 3)) (answers 1 4370 16 1 ++ says 16 0 0))

-- P2, as document 02, 3/13, moves it: period 131,072: refusal 6
abbrev pub p2 : Sample
p2 = sample (one (free 4)) (starts 0 4370 7 131072 2) [] (refuses 6 (one (free 4)))

-- P3: requested 0, period 5, flag 1 absent: accepted, no rows
abbrev pub p3 : Sample
p3 = sample (one (free 4)) (starts 0 4370 7 5 0) [] (leaves (one (free 4)) (answers 1 4370 16 0))

-- P4: requested 0, period 1, flag 1: starts ..
abbrev pub p4 : Sample
p4 =
    sample (one (free 4)) (starts 1 4370 7 1 0) []
    (leaves (one (text 4370 7 1 0 0 0 ++ free 3)) (answers 1 4370 16 1 ++ says 16 0 0))

-- .. no end: after three seconds it runs on
abbrev pub p4_on : Sample
p4_on =
    sample (one (free 4)) (starts 1 4370 7 1 0) (passes ∷ passes ∷ passes ∷ [])
    (leaves (one (text 4370 7 1 0 3 0 ++ free 3)) (answers 5 0 0 1 ++ says 16 3 7))

-- P5: period 0, requested 1, then a second: one row, sent 1, place free
abbrev pub p5 : Sample
p5 =
    sample (one (free 4)) (starts 0 4370 7 0 1) (passes ∷ [])
    (leaves (one (free 4)) (answers 5 0 0 1 ++ says 16 1 7))

-- P6: period 0, requested 2: accepted, no rows
abbrev pub p6 : Sample
p6 = sample (one (free 4)) (starts 0 4370 7 0 2) [] (leaves (one (free 4)) (answers 1 4370 16 0))

-- P7: same identifier and serial again, sent 2: row, sent stays 2
abbrev pub p7 : Sample
p7 = sample twice (starts 0 4370 8 9 9) [] (leaves twice (answers 1 4370 16 1 ++ says 16 0 0))

-- P8: fifth different text, flag 1: no rows
abbrev pub p8 : Sample
p8 = sample (one four) (starts 1 4370 7 2 3) [] (leaves (one four) (answers 1 4370 16 0))

-- P9: four live, new text, flag 1 absent: one live
abbrev pub p9 : Sample
p9 =
    sample (one four) (starts 0 4370 7 2 3) []
    (leaves (one (text 4370 7 2 3 0 0 ++ free 3)) (answers 1 4370 16 1 ++ says 16 0 0))

-- P10: cancel of a text sent twice: row with 2
abbrev pub p10 : Sample
p10 = sample twice (cancels 4 4370 16 0 0 []) [] (leaves (one (free 4)) (answers 2 4370 16 1 ++ says 16 2 0))

-- P11: the same with flag 2: row with 0
abbrev pub p11 : Sample
p11 = sample twice (cancels 6 4370 16 0 0 []) [] (leaves (one (free 4)) (answers 2 4370 16 1 ++ says 16 0 0))

-- P12: cancel of a live text, the cell listed twice: one row
abbrev pub p12 : Sample
p12 =
    sample twice (cancels 4 4370 16 1 2 (identity 16 ++ identity 16)) []
    (leaves (one (free 4)) (answers 2 4370 16 1 ++ says 16 2 0))

-- P13: cancel, flags, identifier and serial 0: refusal 7
abbrev pub p13 : Sample
p13 = sample twice (cancels 0 0 0 0 0 []) [] (refuses 7 twice)

abbrev pub samples : List Sample
samples = p1 ∷ p2 ∷ p3 ∷ p4 ∷ p4_on ∷ p5 ∷ p6 ∷ p7 ∷ p8 ∷ p9 ∷ p10 ∷ p11 ∷ p12 ∷ p13 ∷ []

-- ---- the rows that are not marked, and readings that no row shows

-- a table of two cells with these places
abbrev pub two : List ℕ → List ℕ → List ℕ
two a b = header 2 ++ head 16 1 ++ a ++ head 32 2 ++ b

-- a head with one emergency area, the identifier 0
abbrev pub area_zero : List ℕ → List ℕ
area_zero places = header 1 ++ identity 16 ++ (0 ∷ 0 ∷ 1 ∷ 1 ∷ replicate 12 0) ++ places

-- 512 items: accepted, here none of them the cell's
abbrev pub items512 : Sample
items512 = sample twice (cancels 4 4370 16 1 512 (replicate 4096 0)) [] (leaves twice (answers 2 4370 16 0))

-- 513 items: 4
abbrev pub items513 : Sample
items513 = sample twice (cancels 4 4370 16 1 513 (replicate 4104 0)) [] (refuses 4 twice)

-- an unending text at 65,535 sent stays 65,535
abbrev pub sent_held : Sample
sent_held =
    sample (one (text 4370 7 1 0 65535 0 ++ free 3)) passes []
    (leaves (one (text 4370 7 1 0 65535 0 ++ free 3)) (answers 5 0 0 1 ++ says 16 65535 7))

-- area 1 with n = 0: 5
abbrev pub area_without_items : Sample
area_without_items = sample twice (cancels 4 4370 16 1 0 []) [] (refuses 5 twice)

-- a full cell fails nothing and ends nothing: the cell behind it starts the text
abbrev pub full_cell_passed : Sample
full_cell_passed =
    sample (two four (free 4)) (starts 1 4370 7 2 3) []
    (leaves (two four (text 4370 7 2 3 0 0 ++ free 3)) (answers 1 4370 16 1 ++ says 32 0 0))

-- the first text ends, and the others close up in order
abbrev pub first_ends : Sample
first_ends =
    sample (one (text 1 7 5 2 1 0 ++ text 2 8 5 3 1 4 ++ text 3 9 5 3 1 4 ++ free 1)) passes []
    (leaves (one (text 2 8 5 3 1 3 ++ text 3 9 5 3 1 3 ++ free 2)) (answers 5 0 0 1 ++ says 16 2 7))

-- a text in the middle is cancelled
abbrev pub middle_cancelled : Sample
middle_cancelled =
    sample (one four) (cancels 4 2 16 0 0 []) []
    (leaves (one (text 1 7 5 3 1 4 ++ text 3 7 5 3 1 4 ++ text 4 7 5 3 1 4 ++ free 1)) (answers 2 2 16 1 ++ says 16 1 0))

-- flag 1 and a place free: the new text stands behind the others
abbrev pub second_text : Sample
second_text =
    sample twice (starts 1 5 9 2 3) []
    (leaves (one (text 4370 7 2 3 2 1 ++ text 5 9 2 3 0 0 ++ free 2)) (answers 1 5 16 1 ++ says 16 0 0))

-- cancel-all of four: one row for the cell
abbrev pub all_cancelled : Sample
all_cancelled = sample (one four) (cancels 2 0 0 0 0 []) [] (leaves (one (free 4)) (answers 2 0 0 1 ++ says 16 0 0))

-- a restart and a failure free every place, and report the cell
abbrev pub restart_frees : Sample
restart_frees = sample (one four) (request 3 0 0 0 0 0 0 0 0 0 []) [] (leaves (one (free 4)) (answers 3 0 0 1 ++ says 16 0 0))

abbrev pub failure_reports : Sample
failure_reports = sample (one four) (request 4 0 0 0 0 0 0 0 0 0 []) [] (leaves (one (free 4)) (answers 4 0 0 1 ++ says 16 0 0))

-- the zero rules come first: no row even where the same text is live
abbrev pub zero_rules_first : Sample
zero_rules_first = sample twice (starts 0 4370 7 5 0) [] (leaves twice (answers 1 4370 16 0))

-- an item 0 names a used emergency area 0 ..
abbrev pub area_zero_named : Sample
area_zero_named =
    sample (area_zero (text 4370 7 2 3 2 1 ++ free 3)) (cancels 4 4370 16 3 1 (replicate 8 0)) []
    (leaves (area_zero (free 4)) (answers 2 4370 16 1 ++ says 16 2 0))

-- .. and never the zero filling
abbrev pub filling_not_named : Sample
filling_not_named = sample twice (cancels 4 4370 16 3 1 (replicate 8 0)) [] (leaves twice (answers 2 4370 16 0))

-- a restart reports the cell though nothing was live, a failure does not
abbrev pub restart_reports : Sample
restart_reports = sample (one (free 4)) (request 3 0 0 0 0 0 0 0 0 0 []) [] (leaves (one (free 4)) (answers 3 0 0 1 ++ says 16 0 0))

abbrev pub failure_silent : Sample
failure_silent = sample (one (free 4)) (request 4 0 0 0 0 0 0 0 0 0 []) [] (leaves (one (free 4)) (answers 4 0 0 0))

abbrev pub further_samples : List Sample
further_samples = items512 ∷ items513 ∷ sent_held ∷ area_without_items ∷ full_cell_passed ∷ first_ends ∷ middle_cancelled ∷ second_text ∷ all_cancelled ∷ restart_frees ∷ failure_reports ∷ zero_rules_first ∷ area_zero_named ∷ filling_not_named ∷ restart_reports ∷ failure_silent ∷ []

-- ---- the program's example: two cells, seven requests

-- 4370/16 with so many sent, and so many seconds to wait
abbrev pub flood : ℕ → ℕ → List ℕ
flood sent wait = text 4370 7 2 3 sent wait ++ free 3

abbrev pub example : List (List ℕ)
example =
    starts 0 4370 7 2 3
    ∷ passes
    ∷ passes
    ∷ passes
    ∷ cancels 4 4370 16 2 1 (0 ∷ 0 ∷ 0 ∷ 241 ∷ 16 ∷ 0 ∷ 0 ∷ 2 ∷ [])
    ∷ cancels 2 0 0 0 0 []
    ∷ cancels 4 4370 16 0 0 []
    ∷ []

-- the table that each leaves, and what it is told
abbrev pub example_gives : List (List ℕ × List ℕ)
example_gives =
    (two (flood 0 0) (flood 0 0), answers 1 4370 16 2 ++ says 16 0 0 ++ says 32 0 0)
    ∷ (two (flood 1 1) (flood 1 1), answers 5 0 0 2 ++ says 16 1 7 ++ says 32 1 7)
    ∷ (two (flood 1 0) (flood 1 0), answers 5 0 0 0)
    ∷ (two (flood 2 1) (flood 2 1), answers 5 0 0 2 ++ says 16 2 7 ++ says 32 2 7)
    ∷ (two (flood 2 1) (free 4), answers 2 4370 16 1 ++ says 32 2 0)
    ∷ (two (free 4) (free 4), answers 2 0 0 1 ++ says 16 0 0)
    ∷ (two (free 4) (free 4), answers 2 4370 16 0)
    ∷ []

-- ---- THE CLAIM: each row is as it says; the example's heads build the empty table, in a buffer that is longer and in the program's own;
-- and its requests are served so, in the program's two buffers

pub record SamplesHold : Type 0 where
  pub marked : AllHold samples
  pub further : AllHold further_samples
  pub builds : built (head 16 1 ++ head 32 2) (replicate 262 9)
      ≡ record { number = 0; length = 256; buffer = two (free 4) (free 4) ++ replicate 6 9 }
  pub opens : built (head 16 1 ++ head 32 2) (replicate 256 0) ≡ record { number = 0; length = 256; buffer = two (free 4) (free 4) }
  pub runs : AllServed (two (free 4) (free 4)) (replicate 124 0) example example_gives

-- Samples of document 02's changes to the rules: of earthquake primaries, and of periods above an hour.
use Rattle.std.specs.Prelude.{◌≡◌, List, [], ◌∷◌, ◌++◌, ℕ, replicate}
use Rattle.rules.specs.Applied.{Filled, Outcome, conversion}
use Rattle.rules.specs.ByHand.{word, long, head, text_of_sib, text, free, request_in, starts_of, passes, answers, says, outcomes_of, refuses, leaves, one, Sample, sample, AllHold}
use Rattle.rules.specs.Samples.{four}

-- ---- 2/13: an earthquake primary goes out every second until it is stopped

-- a counted primary that stands in a table, sent once
abbrev pub counted : ℕ → List ℕ
counted wait = one (text_of_sib 6 4370 7 5 2 1 wait ++ free 3)

-- 4370/16 as a primary's start leaves it
abbrev pub primary : ℕ → List ℕ
primary sent = one (text_of_sib 6 4370 7 1 0 sent 0 ++ free 3)

-- requested 0, flag 1 absent: starts
abbrev pub primary_uncounted : Sample
primary_uncounted = sample (one (free 4)) (starts_of 6 0 4370 7 5 0) [] (leaves (primary 0) (answers 1 4370 16 1 ++ says 16 0 0))

-- period 0, requested 2: starts
abbrev pub primary_without_period : Sample
primary_without_period = sample (one (free 4)) (starts_of 6 0 4370 7 0 2) [] (leaves (primary 0) (answers 1 4370 16 1 ++ says 16 0 0))

-- both 0: starts
abbrev pub primary_of_zeros : Sample
primary_of_zeros = sample (one (free 4)) (starts_of 6 0 4370 7 0 0) [] (leaves (primary 0) (answers 1 4370 16 1 ++ says 16 0 0))

-- flag 1 absent: the others are dropped
abbrev pub primary_drops_others : Sample
primary_drops_others = sample (one four) (starts_of 6 0 4370 7 5 2) [] (leaves (primary 0) (answers 1 4370 16 1 ++ says 16 0 0))

-- flag 1 and no place free: no rows
abbrev pub primary_without_place : Sample
primary_without_place = sample (one four) (starts_of 6 1 4370 7 5 2) [] (leaves (one four) (answers 1 4370 16 0))

-- a counted one in a table waits as stored, and ends as stored ..
abbrev pub counted_waits : Sample
counted_waits = sample (counted 3) passes [] (leaves (counted 2) (answers 5 0 0 0))

abbrev pub counted_ends : Sample
counted_ends = sample (counted 0) passes [] (leaves (one (free 4)) (answers 5 0 0 1 ++ says 16 2 7))

-- .. and its repeat changes nothing
abbrev pub counted_repeated : Sample
counted_repeated = sample (counted 3) (starts_of 6 0 4370 8 1 0) [] (leaves (counted 3) (answers 1 4370 16 1 ++ says 16 0 0))

-- a period above the limit: 6
abbrev pub primary_too_long : Sample
primary_too_long = sample (one (free 4)) (starts_of 6 0 4370 7 131072 2) [] (refuses 6 (one (free 4)))

-- a text of SIB kind 7 is none: stored as it came, stopped by the zero rules
abbrev pub sib7_stored : Sample
sib7_stored =
    sample (one (free 4)) (starts_of 7 0 4370 7 5 2) []
    (leaves (one (text_of_sib 7 4370 7 5 2 0 0 ++ free 3)) (answers 1 4370 16 1 ++ says 16 0 0))

abbrev pub sib7_stopped : Sample
sib7_stopped = sample (one (free 4)) (starts_of 7 0 4370 7 0 2) [] (leaves (one (free 4)) (answers 1 4370 16 0))

abbrev pub primary_samples : List Sample
primary_samples = primary_uncounted ∷ primary_without_period ∷ primary_of_zeros ∷ primary_drops_others ∷ primary_without_place ∷ counted_waits ∷ counted_ends ∷ counted_repeated ∷ primary_too_long ∷ sib7_stored ∷ sib7_stopped ∷ []

-- period 5, requested 2, then three seconds: a row each, and it is live still
abbrev pub primary_story : List (List ℕ)
primary_story = starts_of 6 0 4370 7 5 2 ∷ passes ∷ passes ∷ passes ∷ []

abbrev pub primary_gives : List Outcome
primary_gives =
    leaves (primary 0) (answers 1 4370 16 1 ++ says 16 0 0)
    ∷ leaves (primary 1) (answers 5 0 0 1 ++ says 16 1 7)
    ∷ leaves (primary 2) (answers 5 0 0 1 ++ says 16 2 7)
    ∷ leaves (primary 3) (answers 5 0 0 1 ++ says 16 3 7)
    ∷ []

-- ---- 3/13: periods above an hour, and tables of version 1

-- Write-Replace of 4370/16 in a record of a version, with its period
abbrev pub starts_in : ℕ → ℕ → List ℕ
starts_in version period = request_in version 1 0 0 4370 16 7 period 2 8 0 []

-- it starts
abbrev pub begins : ℕ → Outcome
begins period = leaves (one (text 4370 7 period 2 0 0 ++ free 3)) (answers 1 4370 16 1 ++ says 16 0 0)

-- a quarry notice every two hours, sent once
abbrev pub notice : ℕ → List ℕ
notice wait = one (text 4370 7 7200 0 1 wait ++ free 3)

-- a table of version 1 with one cell, and a text in it
abbrev pub old_one : List ℕ → List ℕ
old_one places = 80 ∷ 87 ∷ 84 ∷ 0 ∷ 1 ∷ 0 ∷ 1 ∷ 4 ∷ replicate 8 0 ++ head 16 1 ++ places

abbrev pub old_text : ℕ → ℕ → ℕ → ℕ → List ℕ
old_text period requested sent wait =
    word 4370
    ++ (0 ∷ 16 ∷ long 7)
    ++ (word period ++ word requested ++ word sent ++ word wait)
    ++ (8 ∷ 1 ∷ 0 ∷ 0 ∷ [])

abbrev pub old_table : List ℕ
old_table = old_one (old_text 4095 9 3 4094 ++ replicate 60 0)

-- 131,071 starts; P2 is the row for 131,072
abbrev pub longest_starts : Sample
longest_starts = sample (one (free 4)) (starts_in 2 131071) [] (begins 131071)

-- 4096 starts by a record of version 2, by one of version 1 it is above the limit: 6; 4095 starts
abbrev pub version2_starts : Sample
version2_starts = sample (one (free 4)) (starts_in 2 4096) [] (begins 4096)

abbrev pub version1_too_long : Sample
version1_too_long = sample (one (free 4)) (starts_in 1 4096) [] (refuses 6 (one (free 4)))

abbrev pub version1_longest : Sample
version1_longest = sample (one (free 4)) (starts_in 1 4095) [] (begins 4095)

-- any other version: 3
abbrev pub version0_refused : Sample
version0_refused = sample (one (free 4)) (starts_in 0 5) [] (refuses 3 (one (free 4)))

abbrev pub version3_refused : Sample
version3_refused = sample (one (free 4)) (starts_in 3 5) [] (refuses 3 (one (free 4)))

-- a table of version 1: 1
abbrev pub old_table_refused : Sample
old_table_refused = sample old_table passes [] (refuses 1 old_table)

-- a notice that is due waits two hours but a second ..
abbrev pub notice_due : Sample
notice_due = sample (one (text 4370 7 7200 0 0 0 ++ free 3)) passes [] (leaves (notice 7199) (answers 5 0 0 1 ++ says 16 1 7))

-- .. and a wait goes on below 65,536
abbrev pub wait_goes_on : Sample
wait_goes_on =
    sample (one (text 4370 7 131071 0 1 65536 ++ free 3)) passes []
    (leaves (one (text 4370 7 131071 0 1 65535 ++ free 3)) (answers 5 0 0 0))

abbrev pub period_samples : List Sample
period_samples = longest_starts ∷ version2_starts ∷ version1_too_long ∷ version1_longest ∷ version0_refused ∷ version3_refused ∷ old_table_refused ∷ notice_due ∷ wait_goes_on ∷ []

-- a buffer that is six bytes longer than the converted table, and what it is after a conversion
abbrev pub lent : List ℕ
lent = replicate 142 9

abbrev pub filled_with : ℕ → ℕ → List ℕ → Filled
filled_with number bytes buffer = record { number = number; length = bytes; buffer = buffer }

pub record Converts : Type 0 where
  -- every field is carried, and the bytes behind stay
  pub whole : conversion old_table lent ≡ filled_with 0 136 (one (text 4370 7 4095 9 3 4094 ++ free 3) ++ replicate 6 9)
  -- a table of version 2, or no table: 1
  pub newer : conversion (notice 7199) lent ≡ filled_with 1 0 lent
  pub none : conversion [] lent ≡ filled_with 1 0 lent
  -- a period above version 1's limit: 2
  pub long-period : conversion (old_one (old_text 4096 9 3 4094 ++ replicate 60 0)) lent ≡ filled_with 2 0 lent
  -- no room: 8
  pub short : conversion old_table (replicate 135 9) ≡ filled_with 8 0 (replicate 135 9)

-- ---- THE CLAIM: each row is as it says, the requests of a primary have these outcomes, and so have the conversions

pub record ChangeSamplesHold : Type 0 where
  pub primaries : AllHold primary_samples
  pub primary-runs : outcomes_of (one (free 4)) primary_story ≡ primary_gives
  pub periods : AllHold period_samples
  pub converts : Converts

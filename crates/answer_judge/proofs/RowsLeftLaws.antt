-- The rows still to come, where the judge's one pass stands: the next one may follow or not, and its NR CGI says what the least behind it is.
-- Each row is a piece of the bytes behind the head, and each of its numbers stands where it is read.
use mathlib.Core.Path.{◌≡◌, refl, sym, ap, ◌∙◌}
use mathlib.Core.Bool.{Bool, true, false, ◌&&◌, ◌||◌}
use mathlib.Core.List.{List}
use Prim.Native.Nat.{ℕ, ◌+◌, ◌*◌, ◌≤◌, ◌<◌}
use lib.Dec.{eqb, ltb, leb}
use lib.ListN.{length}
use borrow.Author.Tests.{le-leb, lt-leb, lt-ltb, le-ltb}
use Rattle.octets.specs.Runs.{gets}
use Rattle.octets.specs.Numbers.{be}
use Rattle.rules.specs.Layout.{current, answer_size, row_size, cell_end}
use Rattle.rules.specs.Reply.{Row}
use Rattle.rules.specs.Answer.{row_of}
use Rattle.answer.specs.Rows.{row_at, rows_in, rows_from}
use Rattle.answer.proofs.RowsLaws.{row_read, rows-first, rows_none, next_row}
use Rattle.answer_judge.specs.OnePass.{right_told, may_follow, follow}

-- ---- the numbers of the row that begins at an index

abbrev pub row_from : List ℕ → ℕ → Row
row_from answer from = row_of current (gets answer from (row_size current))

module _ (answer : List ℕ) (from : ℕ) where
  numbers : record { identity = be (gets answer from 8); count = be (gets answer (from + 8) 2); content = be (gets answer (from + 10) 4) } ≡ row_from answer from
  numbers = row_read answer from _ _ _ refl refl refl

  pub told-read : (counted : Bool) → right_told counted (row_from answer from) ≡ eqb (be (gets answer (from + 10) 4)) 0 && (counted || eqb (be (gets answer (from + 8) 2)) 0)
  unfolding right_told
  told-read counted = ap (λ (w : Row). eqb w.content 0 && (counted || eqb w.count 0)) (sym numbers)

  identity-read : be (gets answer from 8) ≡ (row_from answer from).identity
  identity-read = ap (λ (w : Row). w.identity) numbers

-- ---- the pass

-- where row k begins
abbrev pub row_begin : ℕ → ℕ
row_begin k = answer_size current + row_size current * k

-- what the pass is to find is what is still to be found
pub record RowsLeft (counted : Bool) (answer : List ℕ) (many k least : ℕ) : Type 0 where
  pub same : follow counted 0 (rows_in answer many) ≡ follow counted least (rows_from answer many k)

module _ (counted : Bool) (answer : List ℕ) (many : ℕ) (fits : answer_size current + row_size current * many ≤ length answer) where
  pub rows_start : RowsLeft counted answer many 0 0
  rows_start = record { same = rw (rows-first answer many) }

  pub rows_end : {k least : ℕ} → RowsLeft counted answer many k least → many ≤ k → true ≡ follow counted 0 (rows_in answer many)
  unfolding follow
  rows_end {k} left h = rw (left.same, rows_none answer many k h)

  -- the NR CGI of a row was read
  module _ {k least : ℕ} (left : RowsLeft counted answer many k least) (h : k < many) (i : ℕ) (ei : i ≡ be (gets answer (row_begin k) 8)) where
    identity : (row_from answer (row_begin k)).identity ≡ i
    identity = sym (ei ∙ identity-read answer (row_begin k))

    -- its tests, and those of the rows behind it
    ahead : follow counted 0 (rows_in answer many)
        ≡ (leb least i && (ltb i cell_end && right_told counted (row_from answer (row_begin k)))) && follow counted (i + 1) (rows_from answer many (k + 1))
    unfolding follow may_follow row_at
    ahead =
        left.same
        ∙ rw (next_row answer many k fits h)
        (ap (λ x. (leb least x && (ltb x cell_end && right_told counted (row_from answer (row_begin k)))) && follow counted (x + 1) (rows_from answer many (k + 1))) identity)

    pub row_below : i < least → false ≡ follow counted 0 (rows_in answer many)
    row_below l = rw (ahead, lt-leb least i l)

    module _ (above : least ≤ i) where
      pub row_large : cell_end ≤ i → false ≡ follow counted 0 (rows_in answer many)
      row_large l = rw (ahead, le-leb least i above, le-ltb i cell_end l)

      -- and what it says besides was tested: m is what the test said
      module _ (small : i < cell_end) (m : Bool) (em : m ≡ right_told counted (row_from answer (row_begin k))) where
        pub row-wrong : m ≡ false → false ≡ follow counted 0 (rows_in answer many)
        row-wrong e = rw (ahead, le-leb least i above, lt-ltb i cell_end small, ← em, e)

        pub row_on : m ≡ true → RowsLeft counted answer many (k + 1) (i + 1)
        row_on e = record { same = rw (ahead, le-leb least i above, lt-ltb i cell_end small, ← em, e) }

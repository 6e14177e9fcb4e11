-- A row's bytes in three stores, its numbers in three reads, and the rows one after the other.
-- Stores one behind the other are one run; each number is the field that stands where it is read; a row is the next piece of the bytes behind the head.
use mathlib.Core.Path.{◌≡◌, refl, ◌∙◌}
use mathlib.Core.List.{List, [], ◌∷◌, ◌++◌, append_assoc, append-nil}
use Prim.Native.Nat.{ℕ, ◌+◌, ◌-◌, ◌*◌, ◌<◌, ◌≤◌}
use native.Mathlib.Nat.{add-zero, sub-zero}
use native.Mathlib.Omega.{arith}
use lib.ListN.{length, get_or, drop, length-append, length-map}
use lib.Seq.{sets}
use Rattle.octets.specs.Runs.{gets}
use Rattle.octets.specs.Numbers.{be, to_be}
use Rattle.octets.specs.Fields.{offset, bytes_of, field_of}
use Rattle.octets.proofs.RunsLaws.{sets-run, gets-gets, length-gets}
use Rattle.octets.proofs.NumbersLaws.{length-to_be}
use Rattle.octets.proofs.FieldsLaws.{field_at}
use Rattle.octets.proofs.PiecesLaws.{pieces-next, pieces_none, length-pieces}
use Rattle.rules.specs.Layout.{current, row_fields, answer_size, row_size}
use Rattle.rules.specs.Reply.{Row}
use Rattle.rules.specs.Answer.{row_of, row_bytes}
use Rattle.answer.specs.Rows.{row_at, rows_in, rows_from}

pub row-stored : (l : List ℕ) (at : ℕ) (w : Row) (a b d : List ℕ)
    → a ≡ sets l at (to_be 8 w.identity) → b ≡ sets a (at + 8) (to_be 2 w.count) → d ≡ sets b (at + 10) (to_be 4 w.content)
    → d ≡ sets l at (row_bytes current w)
unfolding row_bytes bytes_of
row-stored l at w a b d ea eb ed =
    let first : List ℕ = to_be 8 w.identity in
    let second : List ℕ = to_be 2 w.count in
    let n : length first ≡ 8 = length-to_be 8 w.identity in
    let m : length (first ++ second) ≡ 10 = rw (length-append, n, length-to_be 2 w.count) in
    ed
    ∙ rw (eb, ea, append-nil, sets-run first second l at (at + 8) (omega arith), ← append_assoc)
    (sets-run (first ++ second) (to_be 4 w.content) l at (at + 10) (omega arith))

-- ---- read

-- the number in a field of the row that begins at an index
row_field : (k at w : ℕ) → offset (row_fields current) k ≡ at → get_or (row_fields current) k 0 ≡ w → at + w ≤ row_size current → (l : List ℕ) (from : ℕ)
    → field_of (row_fields current) k (gets l from (row_size current)) ≡ be (gets l (from + at) w)
row_field k at w o v h l from =
    let long = length-gets (row_size current) l from in
    field_at (row_fields current) k (gets l from (row_size current)) (omega (arith, long, o, v)) ∙ rw (o, v, gets-gets w (row_size current) l from at h)

pub row_read : (l : List ℕ) (from i k n : ℕ) → i ≡ be (gets l from 8) → k ≡ be (gets l (from + 8) 2) → n ≡ be (gets l (from + 10) 4)
    → record { identity = i; count = k; content = n } ≡ row_of current (gets l from (row_size current))
unfolding row_of offset
row_read l from i k n a b d =
    rw (
      row_field 0 0 8 refl refl (omega arith) l from,
      row_field 1 8 2 refl refl (omega arith) l from,
      row_field 2 10 4 refl refl (omega arith) l from,
      add-zero,
      a,
      b,
      d,
    )

-- ---- one after the other

module _ (answer : List ℕ) (many : ℕ) where
  pub length-rows : length (rows_in answer many) ≡ many
  length-rows = rw (length-map, length-pieces)

  pub rows-first : rows_from answer many 0 ≡ rows_in answer many
  rows-first = rw sub-zero

  pub rows_none : (k : ℕ) → many ≤ k → rows_from answer many k ≡ []
  rows_none k h = rw (pieces_none (row_size current) (many - k) (drop (answer_size current + row_size current * k) answer) (omega (arith, h)))

  pub next_row : (k : ℕ) → answer_size current + row_size current * many ≤ length answer → k < many → rows_from answer many k ≡ row_at answer k ∷ rows_from answer many (k + 1)
  unfolding row_at
  next_row k fits h =
      let from : ℕ = answer_size current + row_size current * k in
      let one : many - k - 1 ≡ many - (k + 1) = omega arith in
      let next : from + row_size current ≡ answer_size current + row_size current * (k + 1) = omega arith in
      rw (pieces-next (row_size current) (many - k) answer from (omega (arith, h)) (omega (arith, h, fits)), one, next)

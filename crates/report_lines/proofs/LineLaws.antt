-- Laws of the report's lines: each is its parts, stored one behind the other, and those of an answer are its first line and a line for each row.
-- A text behind another is one text; what is still to come, rows or any text, is taken one by one.
use mathlib.Core.Path.{◌≡◌, refl}
use mathlib.Core.List.{List, [], ◌∷◌, ◌++◌, map, flat_map}
use Prim.Native.Nat.{ℕ, ◌+◌, ◌-◌, ◌*◌, ◌≤◌, ◌<◌}
use native.Mathlib.Omega.{arith}
use lib.ListN.{length, drop, set, length-append}
use lib.Seq.{sets}
use Rattle.octets.specs.Runs.{pieces}
use Rattle.octets.proofs.RunsLaws.{sets-run}
use Rattle.octets.proofs.PiecesLaws.{pieces-next, pieces_none}
use Rattle.rules.specs.Layout.{current, answer_size, row_size}
use Rattle.rules.specs.Reply.{Row}
use Rattle.rules.specs.Answer.{row_of, row_count, answer_of}
use Rattle.answer.specs.Rows.{row_at}
use Rattle.report_lines.specs.Text.{digits, places, decimal, hex_places, space, line_feed, number_text, cell_text, no_text, ok_text, row_text, answer_text, Said}
use Rattle.report_lines.proofs.RowLaws.{rows_text, answer-told}
use Rattle.report_lines.proofs.TextLaws.{length_digits, said_then}

-- ---- a number and what ends it

digits-said : (base k n end : ℕ) (out : List ℕ) (at : ℕ)
    → Said out at (digits base k n ++ (end ∷ [])) (set (sets out at (digits base k n)) (at + k) end) (at + k + 1)
digits-said base k n end out at =
    let l : length (digits base k n) ≡ k = length_digits base k n in
    record {
      stored = sets-run (digits base k n) (end ∷ []) out at (at + k) (omega arith);
      ends = rw (length-append, l) (omega arith);
    }

pub number-said : (k n end : ℕ) (out : List ℕ) (at : ℕ) → k ≡ places 9 n
    → Said out at (number_text n end) (set (sets out at (digits 10 k n)) (at + k) end) (at + k + 1)
unfolding number_text decimal
number-said k n end out at e = rw e (digits-said 10 (places 9 n) n end out at)

pub cell-said : (identity : ℕ) (out : List ℕ) (at : ℕ)
    → Said out at (cell_text identity) (set (sets out at (digits 16 hex_places identity)) (at + hex_places) space) (at + hex_places + 1)
unfolding cell_text
cell-said identity out at = digits-said 16 hex_places identity space out at

-- ---- lines

pub no-said : {out first last : List ℕ} {at a end : ℕ} (number : ℕ) → Said out at (110 ∷ 111 ∷ space ∷ []) first a
    → Said first a (number_text number line_feed) last end → Said out at (no_text number) last end
unfolding no_text
no-said number w n = said_then w n

module _ {out first next last : List ℕ} {at a b end : ℕ} where
  pub ok-said : (kind rows : ℕ) → Said out at (111 ∷ 107 ∷ space ∷ []) first a → Said first a (number_text kind space) next b
      → Said next b (number_text rows line_feed) last end → Said out at (ok_text kind rows) last end
  unfolding ok_text
  ok-said kind rows w k n = said_then w (said_then k n)

  pub row-said : (w : Row) → Said out at (cell_text w.identity) first a → Said first a (number_text w.count space) next b
      → Said next b (number_text w.content line_feed) last end → Said out at (row_text w) last end
  unfolding row_text
  row-said w i k n = said_then i (said_then k n)

-- ---- rows

-- the lines of the rows from row k on
abbrev pub rows_from : ℕ → ℕ → List ℕ → List ℕ
rows_from k rows answer =
    flat_map row_text (map (row_of current) (pieces (row_size current) (rows - k) (drop (answer_size current + row_size current * k) answer)))

pub rows_next : (k rows : ℕ) (answer : List ℕ) → k < rows → answer_size current + row_size current * rows ≤ length answer
    → rows_from k rows answer ≡ row_text (row_at answer k) ++ rows_from (k + 1) rows answer
unfolding flat_map row_at
rows_next k rows answer h fits =
    let from : ℕ = answer_size current + row_size current * k in
    let one : rows - k - 1 ≡ rows - (k + 1) = omega arith in
    let next : from + row_size current ≡ answer_size current + row_size current * (k + 1) = omega arith in
    rw (pieces-next (row_size current) (rows - k) answer from (omega (arith, h)) (omega (arith, h, fits)), one, next)

pub rows_none : (k rows : ℕ) (answer : List ℕ) → rows ≤ k → rows_from k rows answer ≡ []
unfolding flat_map
rows_none k rows answer h = rw (pieces_none (row_size current) (rows - k) (drop (answer_size current + row_size current * k) answer) (omega (arith, h)))

pub answer-said : {out next last : List ℕ} {at mid end : ℕ} (answer : List ℕ) (kind rows : ℕ) → kind ≡ (answer_of current answer).kind → rows ≡ row_count current answer
    → Said out at (ok_text kind rows) next mid → Said next mid (rows_text rows answer) last end → Said out at (answer_text (answer_of current answer)) last end
answer-said answer kind rows k r a b = rw (answer-told answer kind rows k r) at (said_then a b)

-- ---- text still to come: what is stored now and the rest behind it are the whole

pub come_start : (out : List ℕ) (at : ℕ) (text : List ℕ) → Said out at text (sets out at text) (at + length text)
come_start out at text = record { stored = refl; ends = refl }

pub come_next : {out₀ out next whole line : List ℕ} {at mid end : ℕ} (todo rest : List ℕ) → Said out mid line next end → todo ≡ line ++ rest
    → Said out₀ at whole (sets out mid todo) (mid + length todo) → Said out₀ at whole (sets next end rest) (end + length rest)
come_next {out₀} {out} {next} {whole} {line} {at} {mid} {end} todo rest a e s =
    let n : length (line ++ rest) ≡ length line + length rest = length-append line rest in
    let r : Said out₀ at whole (sets out mid (line ++ rest)) (mid + length (line ++ rest)) = rw e at s in
    record {
      stored = rw (a.stored, sets-run line rest out mid end a.ends) r.stored;
      ends = rw a.ends (omega (arith, r.ends));
    }

pub come_done : {out₀ out whole : List ℕ} {at mid : ℕ} (todo : List ℕ) → todo ≡ [] → Said out₀ at whole (sets out mid todo) (mid + length todo)
    → Said out₀ at whole out mid
come_done {out₀} {out} {whole} {at} {mid} todo e s =
    let r : Said out₀ at whole out (mid + 0) = rw e at s in
    record { stored = r.stored; ends = omega (arith, r.ends) }

-- The rows of an answer, a line each: one more row is one more line behind those of the rows before it.
use mathlib.Core.Path.{◌≡◌, refl, sym, ap, ◌∙◌}
use mathlib.Core.List.{List, [], ◌∷◌, ◌++◌, map, flat_map, append-nil}
use Prim.Native.Nat.{ℕ, zero, suc, ◌+◌, ◌*◌, ◌≤◌}
use native.Mathlib.Nat.{add_comm, mul-zero, mul-suc}
use native.Mathlib.Numerals.{add-one}
use lib.ListN.{length, take, drop, length-map}
use lib.Seq.{drop-drop}
use Rattle.std.proofs.lemmas.List.{map-append}
use Rattle.octets.specs.Runs.{gets, pieces}
use Rattle.octets.proofs.RunsLaws.{gets_eq}
use Rattle.octets.proofs.PiecesLaws.{length-pieces}
use Rattle.rules.specs.Layout.{current, answer_size, row_size}
use Rattle.rules.proofs.MapLaws.{flat_map_append}
use Rattle.rules.specs.Answer.{row_of, row_count, row_runs, answer_of}
use Rattle.answer.specs.Rows.{row_at}
use Rattle.report_lines.specs.Text.{ok_text, row_text, answer_text}

pieces-last : (w n : ℕ) (l : List ℕ) → pieces w (suc n) l ≡ pieces w n l ++ (take w (drop (w * n) l) ∷ [])
unfolding pieces
pieces-last w zero l = rw mul-zero
pieces-last w (suc n) l =
    rw (mul-suc, add_comm (w * n) w, ← drop-drop (w * n) w l) (ap (λ (ps : List (List ℕ)). take w l ∷ ps) (pieces-last w n (drop w l)))

abbrev pub rows_text : ℕ → List ℕ → List ℕ
rows_text n answer = flat_map row_text (map (row_of current) (pieces (row_size current) n (drop (answer_size current) answer)))

pub no-rows : (answer : List ℕ) → rows_text 0 answer ≡ []
unfolding flat_map pieces
no-rows answer = refl

pub rows-more : (k : ℕ) (answer : List ℕ) → answer_size current + row_size current * k + row_size current ≤ length answer
    → rows_text k answer ++ row_text (row_at answer k) ≡ rows_text (k + 1) answer
unfolding row_at flat_map
rows-more k answer h =
    let l : List ℕ = drop (answer_size current) answer in
    let row : gets answer (answer_size current + row_size current * k) (row_size current) ≡ take (row_size current) (drop (row_size current * k) l) =
    gets_eq (row_size current) answer (answer_size current + row_size current * k) h ∙ ap (take (row_size current)) (sym (drop-drop (row_size current * k) (answer_size current) answer)) in
    rw (add-one, pieces-last, map-append, flat_map_append, row, append-nil)

-- the kind and the count of rows are those of the answer's head
pub answer-told : (answer : List ℕ) (kind rows : ℕ) → kind ≡ (answer_of current answer).kind → rows ≡ row_count current answer
    → ok_text kind rows ++ rows_text rows answer ≡ answer_text (answer_of current answer)
unfolding answer_text answer_of
answer-told answer kind rows k r =
    let many : length (map (row_of current) (row_runs current answer)) ≡ row_count current answer =
    length-map (row_runs current answer) (row_of current) ∙ length-pieces (row_size current) (row_count current answer) (drop (answer_size current) answer) in
    rw (many, ← r, ← k)

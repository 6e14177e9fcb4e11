-- A row of an answer by its number, the rows from one on, and what the row that is handed out says.
use Rattle.std.specs.Prelude.{List, map, ℕ, ◌+◌, ◌-◌, ◌*◌, drop}
use Rattle.octets.specs.Runs.{gets, pieces}
use Rattle.rules.specs.Layout.{current, answer_size, row_size}
use Rattle.rules.specs.Identity.{identity_number}
use Rattle.rules.specs.Reply.{Row}
use Rattle.rules.specs.Answer.{row_of}
use Rattle.answer.specs.declared.Row as said

-- the bytes of row k stand behind those before it
unfoldable pub row_at : List ℕ → ℕ → Row
row_at a k = row_of current (gets a (answer_size current + row_size current * k) (row_size current))

-- the first rows of an answer, so many
abbrev pub rows_in : List ℕ → ℕ → List Row
rows_in answer many = map (row_of current) (pieces (row_size current) many (drop (answer_size current) answer))

-- of so many, those from row k on
abbrev pub rows_from : List ℕ → ℕ → ℕ → List Row
rows_from answer many k = map (row_of current) (pieces (row_size current) (many - k) (drop (answer_size current + row_size current * k) answer))

abbrev pub row_said : said.Row → Row
row_said w = record { identity = identity_number w.identity; count = w.count.0; content = w.content }

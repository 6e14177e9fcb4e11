-- One request of the input, as the program serves it: applied to its table, and what is told of it added to the text.
use Rattle.std.specs.Prelude.{◌≡◌, List, ℕ, ◌+◌, ◌*◌}
use Rattle.rules.specs.Layout.{current, most_cells, places_per_cell}
use Rattle.rules.specs.Applied.{applied}
use Rattle.report_lines.specs.Text.{most_places, longest_row, said_of}
use Rattle.report_lines.specs.Told.{Tells}
use Rattle.report_lines.specs.declared.text.Text.{Text}
use Rattle.report_turns.specs.Next.{next_behind}
use Rattle.report_turns.specs.declared.Next.{Next}

-- no request has more to tell: the first line, and a row for each place of each cell
abbrev pub most_text : ℕ
most_text = most_places + most_places + 5 + longest_row * (places_per_cell * most_cells)

pub record Served (t r a : List ℕ) (s : Text) (t' a' : List ℕ) (s' : Text) (next : Next) : Type 0 where
  pub table : t' ≡ (applied current t r a).table
  pub answer : a' ≡ (applied current t r a).answer
  pub text : Tells s (said_of (applied current t r a)) s'
  pub comes : next ≡ next_behind (applied current t r a).number

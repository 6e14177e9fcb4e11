-- The program in the buffers that it is lent: what one turn asks of them, and what it leaves in them.
use Rattle.std.specs.Prelude.{◌≡◌, Option, Some, None, IfSome, ◌||◌, List, ℕ, ◌+◌, ◌-◌, ◌≤◌, ◌<◌, ltb, length, take, drop}
use Rattle.std.proofs.lemmas.List.Edits.{sets}
use Rattle.rules.specs.Layout.{most_cells}
use Rattle.report_lines.specs.Text.{Said}
use Rattle.report_lines.specs.Told.{Tells}
use Rattle.report_lines.specs.Framing.{heads_end}
use Rattle.report_lines.specs.declared.text.Text.{Text}
use Rattle.report_turns.specs.Report.{answer_room, table_size}
use Rattle.report_turns.specs.Serve.{most_text}
use Rattle.report_turns.specs.Turns.{Program, Sized, Step, step}
use Rattle.report_turns.specs.Next.{pauses}
use Rattle.report_turns.specs.declared.Next.TheVariants.{Wait}
use Rattle.report_turns.specs.declared.Stand.{Stand}
use Rattle.report_turns.specs.declared.Took.{Took}

-- the program: all of the two buffers before there is a table, then the parts that its cells ask for
unfoldable pub program_in : Option ℕ → List ℕ → List ℕ → Program
program_in None t a = record { cells = None; table = t; answer = a }
program_in (Some n) t a = record { cells = Some n; table = take (table_size n) t; answer = take (answer_room n) a }

-- a table has no more cells than the largest
abbrev pub Few : Option ℕ → Type 0
Few cells = IfSome cells (λ n. n ≤ most_cells)

-- a step of the program, done in the buffers: the text behind what is there, and all else as it was
pub record Stepped (x : Step) (t a : List ℕ) (s : Text) (r : Took) (t' a' : List ℕ) (s' : Text) : Type 0 where
  pub cells : r.cells ≡ x.program.cells
  pub bytes : r.bytes ≡ x.taken
  pub next : r.next ≡ x.next
  pub text : Tells s x.said s'
  pub table : t' ≡ sets t 0 x.program.table
  pub answer : a' ≡ sets a 0 x.program.answer
  pub sized : Sized x.program
  -- no longer than a request's text
  pub most : s'.at ≤ s.at + most_text

-- the buffers hold the largest table, its largest answer, and one more text
pub record ToTake (cells : Option ℕ) (table answer out at : ℕ) : Type 0 where
  pub few : Few cells
  pub table-room : table_size most_cells ≤ table
  pub answer-room : answer_room most_cells ≤ answer
  pub text-room : at + most_text ≤ out

-- ---- one turn

abbrev pub held_in : Stand → List ℕ → List ℕ
held_in s input = take (s.to - s.from) (drop s.from input)

pub record Standing (s : Stand) (input table answer out : ℕ) : Type 0 where
  pub order : s.from ≤ s.to
  pub within : s.to ≤ input
  pub to_take : ToTake s.cells table answer out s.at

abbrev pub step_of : Stand → (input table answer : List ℕ) → Step
step_of s input t a = step s.ended (program_in s.cells t a) (held_in s input)

-- where it stands then, and the text that is to be written: it waits or stops, or the next request's text might not fit behind it
pub record Turned (s : Stand) (input t a out : List ℕ) (s' : Stand) (t' a' out' : List ℕ) : Type 0 where
  pub cells : s'.cells ≡ (step_of s input t a).program.cells
  pub from : s'.from ≡ s.from + (step_of s input t a).taken
  pub to : s'.to ≡ s.to
  pub ended : s'.ended ≡ s.ended
  pub next : s'.next ≡ (step_of s input t a).next
  pub writes : s'.writes ≡ pauses s'.next || ltb (length out - s'.at) most_text
  pub text : Said out s.at (step_of s input t a).said out' s'.at
  pub table : t' ≡ sets t 0 (step_of s input t a).program.table
  pub answer : a' ≡ sets a 0 (step_of s input t a).program.answer
  pub sized : Sized (step_of s input t a).program
  -- it waits for less than the heads of the largest table, so a buffer that holds these has room to read
  pub short : s'.next ≡ Wait → s'.to - s'.from < heads_end most_cells
  -- and the next turn may begin, once there is room for its text
  pub order : s'.from ≤ s'.to
  pub few : Few s'.cells
  pub most : s'.at ≤ s.at + most_text

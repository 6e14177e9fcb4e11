-- What a writer asks of the buffer, and what it leaves: its text behind what was there, in the same buffer.
use Rattle.std.specs.Prelude.{◌≡◌, List, ℕ, ◌+◌, ◌≤◌, length}
use Rattle.report_lines.specs.Text.{Said}
use Rattle.report_lines.specs.declared.text.Text.{Text}

-- so many more bytes fit behind what was told
abbrev pub HasRoom : Text → ℕ → Type 0
HasRoom s n = s.at + n ≤ length s.out.now

pub record Tells (s : Text) (text : List ℕ) (s' : Text) : Type 0 where
  pub said : Said s.out.now s.at text s'.out.now s'.at
  pub same_buffer : s'.out.ghost_name ≡ s.out.ghost_name
  pub same_length : length s'.out.now ≡ length s.out.now

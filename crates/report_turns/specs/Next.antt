-- What comes next, and what is done before it.
use Rattle.std.specs.Prelude.{Bool, true, false, cond, ℕ}
use Rattle.report_lines.specs.Framing.{stops_at}
use Rattle.report_turns.specs.declared.Next.{Next}
use Rattle.report_turns.specs.declared.Next.TheVariants.{Go, Wait, Stop}

-- whoever waits for the text has it before the program waits or ends
abbrev pub pauses : Next → Bool
pauses Go = false
pauses Wait = true
pauses Stop = true

-- behind a request of such a number, 0 where it was accepted
abbrev pub next_behind : ℕ → Next
next_behind number = cond (stops_at number) Stop Go

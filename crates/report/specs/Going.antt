-- Where the program stands once its text was written, and once it has read: what a system call brought is not said.
use Rattle.std.specs.Prelude.{◌≡◌, ℕ, ◌≤◌}
use Rattle.report_turns.specs.declared.Next.TheVariants.{Stop}
use Rattle.report_turns.specs.declared.Stand.{Stand}

pub record Written (s s' : Stand) : Type 0 where
  pub cells : s'.cells ≡ s.cells
  pub from : s'.from ≡ s.from
  pub to : s'.to ≡ s.to
  pub at : s'.at ≡ 0
  pub ended : s'.ended ≡ s.ended
  -- unless the text could not be written, what came next still does
  pub next : (s'.next ≡ Stop → ⊥) → s'.next ≡ s.next

pub record ReadOn (s : Stand) (input : ℕ) (s' : Stand) : Type 0 where
  pub cells : s'.cells ≡ s.cells
  pub from : s'.from ≡ 0
  pub to : s'.to ≤ input
  pub at : s'.at ≡ s.at

-- What a reader of messages took says the same as numbers.
use mathlib.Core.Path.{◌≡◌, refl}
use mathlib.Core.List.{List}
use Prim.Native.Nat.{ℕ}
use Rattle.std.specs.Prelude.{Ok, Err}
use Rattle.wire.specs.MessageOutcome.{Taking, taken_by}
use Rattle.pws.specs.Surface.{message_by, taken}

pub same_taken : (t : Taking) (buffer : List ℕ) → taken (message_by t) buffer ≡ taken_by t buffer
same_taken (Ok r) buffer = refl
same_taken (Err x) buffer = refl

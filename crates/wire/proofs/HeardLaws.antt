-- What was heard is settled by what it is found as.
use Rattle.std.specs.Prelude.{Option, Some, None}
use mathlib.Core.Path.{◌≡◌, refl, sym, ap}
use mathlib.Core.List.{[]}
use Rattle.formats.specs.Format.{nothing, found}
use Rattle.formats.proofs.SummaryLaws.{nothing-found, found-value}
use Rattle.wire.specs.Readers.{heard_by}
use Rattle.wire.specs.declared.Heard.{Heard}

pub heard-is : (h : Option Heard) (k : Heard) → heard_by h ≡ found k [] → h ≡ Some k
heard-is (Some h) k e = ap Some (found-value h k [] [] e)
heard-is None k e = absurd (nothing-found k [] e)

pub heard-none : (h : Option Heard) → heard_by h ≡ nothing → h ≡ None
heard-none (Some h) e = absurd (nothing-found h [] (sym e))
heard-none None e = refl

pub heard_settled : (h k : Option Heard) → heard_by h ≡ heard_by k → h ≡ k
heard_settled h (Some k) e = heard-is h k e
heard_settled h None e = heard-none h e

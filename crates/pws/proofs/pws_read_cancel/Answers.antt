-- `pws_read_cancel` leaves what `cancel_read` gives.
-- By what `read_cancel` ensures, what it took said as numbers.
use mathlib.Core.Path.{◌∙◌, ap}
use Rattle.pws.specs.Surface.{taken}
use Rattle.pws.proofs.MessageLaws.{same_taken}
use Rattle.pws.proofs.pws_read_cancel.Goals as goal

pub returns : goal.returns
returns c =
    let call = c.read_cancel in
    ap (λ m. taken m call.new.buffer) c.into.ensures ∙ same_taken call.result call.new.buffer ∙ call.ensures

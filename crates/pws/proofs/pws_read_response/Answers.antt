-- `pws_read_response` leaves what `response_read` gives.
-- By what `read_response` ensures, what it took said as numbers.
use mathlib.Core.Path.{◌∙◌, ap}
use Rattle.pws.specs.Surface.{taken}
use Rattle.pws.proofs.MessageLaws.{same_taken}
use Rattle.pws.proofs.pws_read_response.Goals as goal

pub returns : goal.returns
returns c =
    let call = c.read_response in
    ap (λ m. taken m call.new.answer) c.into.ensures ∙ same_taken call.result call.new.answer ∙ call.ensures

-- `pws_write_response` leaves what `response_written` gives.
-- By what `write_response` ensures, its answer said as number and length.
use mathlib.Core.Path.{◌∙◌, ap}
use Rattle.pws.specs.Surface.{filled}
use Rattle.pws.proofs.pws_write_response.Goals as goal

pub returns : goal.returns
returns c =
    let call = c.write_response in
    ap (λ d. filled d call.new.message) c.into.ensures ∙ call.ensures

-- `pws_write` leaves what `written` gives.
-- By what `write` ensures, its answer said as number and length.
use mathlib.Core.Path.{◌∙◌, ap}
use Rattle.pws.specs.Surface.{filled}
use Rattle.pws.proofs.pws_write.Goals as goal

pub returns : goal.returns
returns c =
    let call = c.write in
    ap (λ d. filled d call.new.buffer) c.into.ensures ∙ call.ensures

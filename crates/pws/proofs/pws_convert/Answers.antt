-- `pws_convert` leaves what `conversion` gives.
-- By what `convert` ensures, its answer said as number and length.
use mathlib.Core.Path.{◌∙◌, ap}
use Rattle.pws.specs.Surface.{filled}
use Rattle.pws.proofs.pws_convert.Goals as goal

pub returns : goal.returns
returns c =
    let call = c.convert in
    ap (λ d. filled d call.new.table) c.into.ensures ∙ call.ensures

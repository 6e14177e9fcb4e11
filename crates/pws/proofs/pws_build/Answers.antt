-- `pws_build` leaves what `built` gives.
-- By what `build` ensures, its answer said as number and length.
use mathlib.Core.Path.{◌∙◌, ap}
use Rattle.pws.specs.Surface.{filled}
use Rattle.pws.proofs.pws_build.Goals as goal

pub returns : goal.returns
returns c =
    let call = c.build in
    ap (λ d. filled d call.new.table) c.into.ensures ∙ call.ensures

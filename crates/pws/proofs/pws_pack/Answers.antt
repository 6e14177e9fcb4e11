-- `pws_pack` leaves what `packed` gives.
-- By what `pack` ensures, its answer said as number and length.
use mathlib.Core.Path.{◌∙◌, ap}
use Rattle.pws.specs.Surface.{filled}
use Rattle.pws.proofs.pws_pack.Goals as goal

pub returns : goal.returns
returns c =
    let call = c.pack in
    ap (λ d. filled d call.new.list) c.into.ensures ∙ call.ensures

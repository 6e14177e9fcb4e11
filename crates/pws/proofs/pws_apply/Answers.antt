-- `pws_apply` leaves what `applied` gives.
-- By what `apply` ensures, its answer said as number and length.
use mathlib.Core.Path.{◌∙◌, ap}
use Rattle.pws.specs.Surface.{left}
use Rattle.pws.proofs.pws_apply.Goals as goal

pub returns : goal.returns
returns c =
    let call = c.apply in
    ap (λ d. left d call.new.table call.new.answer) c.into.ensures ∙ call.ensures

-- `get` returns the number that the bytes at the index say.
-- They are a part of the slice, which is a run of the list: `part-gets`.
use mathlib.Core.Path.{ap, ◌∙◌}
use Rattle.octets.specs.Numbers.{be}
use Rattle.octets.proofs.RunsLaws.{part-gets}
use Rattle.octets.proofs.get.Goals as goal

pub returns : goal.returns
returns g c =
    c.read.ensures ∙ ap be (rw c.BYTES.ensures (part-gets g.N.Number.BYTES c.args.s.now c.args.at c.requires))

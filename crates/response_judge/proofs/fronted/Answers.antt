-- `fronted` says true of a response that begins with a transaction identifier alone: by its tests, which are those of `GlanceLaws`.
use Rattle.response_judge.proofs.GlanceLaws.{front_there}
use Rattle.response_judge.proofs.fronted.Goals as goal

pub returns : goal.returns
returns c =
    front_there _ (λ i. (c.type_inv.s i).fits) c.if-s-lt-FRONT.false _ _ _ c.get.ensures c.get-head.ensures c.get-2.ensures

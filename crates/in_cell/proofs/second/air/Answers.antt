-- `air` stores the counts of a broadcast, writes its row and says whether it was the last one.
-- What each call read or stored, handed to `aired`.
use mathlib.Core.Path.{ap, ◌∙◌}
use Rattle.rules.specs.declared.Broadcasts.{Broadcasts}
use Rattle.in_cell.proofs.Airing.{aired}
use Rattle.in_cell.proofs.second.air.Goals as goal

pub returns : goal.returns
returns c =
    aired c.args.cell.now c.args.out.now c.args.k c.args.n c.requires _ _ _ _ _
    (c.one_more-sent.ensures ∙ rw c.sent.ensures)
    (c.one_less-wait.ensures ∙ rw c.terms_of-terms.ensures.0)
    (ap (λ (x : Broadcasts). x.0) c.terms_of-terms.ensures.1)
    c.identity-identity.ensures
    c.content-content.ensures
    _ _
    c.set_counts.ensures
    c.put_row.ensures
    _
    c.all_sent.ensures

-- `terms_legal` says whether a place's numbers are what a live place may have.
-- The tests are those of `legal_place`, in its order.
use Rattle.rules.specs.Table.{legal_place}
use Rattle.table_judge.proofs.terms_legal.Goals as goal

pub returns : goal.returns
unfolding legal_place
returns c = rw c.wait_end.ensures

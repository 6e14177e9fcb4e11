-- `CellIdentity::new` answers as `identity_answer` says: each way out is the case that its tests lead to.
-- Assumes nothing.
use borrow.Author.Tests.{le-ltb, lt-ltb}
use Rattle.rules.specs.Identity.{identity_answer}
use Rattle.rules.proofs.CellIdentity.new.Goals as goal

pub returns-then-plmn-ge-PLMN_END : goal.returns-then-plmn-ge-PLMN_END
unfolding identity_answer
returns-then-plmn-ge-PLMN_END c = rw (le-ltb _ _ c.if-plmn-ge-PLMN_END.true)

pub returns-then-part-ge-PART_END : goal.returns-then-part-ge-PART_END
unfolding identity_answer
returns-then-part-ge-PART_END c = rw (lt-ltb _ _ c.if-plmn-ge-PLMN_END.false, le-ltb _ _ c.if-part-ge-PART_END.true)

pub returns : goal.returns
unfolding identity_answer
returns c = rw (lt-ltb _ _ c.if-plmn-ge-PLMN_END.false, lt-ltb _ _ c.if-part-ge-PART_END.false)

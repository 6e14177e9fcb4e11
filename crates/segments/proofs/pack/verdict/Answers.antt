-- `verdict` tests 10, 11 and 8 in their order.
-- Each return has what the tests before it told.
use mathlib.Core.Path.{sym, ◌∙◌}
use Rattle.segments.proofs.PackLaws.{pack_damaged, pack-too_many, pack-short, pack-accepted}
use Rattle.segments.proofs.pack.verdict.Goals as goal

pub returns-then-not-lengths_fit : goal.returns-then-not-lengths_fit
returns-then-not-lengths_fit c = pack_damaged _ _ _ (sym c.lengths_fit.ensures ∙ c.if-not-lengths_fit.true)

pub returns-then-lengths-gt-MOST_SEGMENTS : goal.returns-then-lengths-gt-MOST_SEGMENTS
returns-then-lengths-gt-MOST_SEGMENTS c = pack-too_many _ _ _ (sym c.lengths_fit.ensures ∙ c.if-not-lengths_fit.false) c.if-lengths-gt-MOST_SEGMENTS.true

pub returns-then-room-lengths : goal.returns-then-room-lengths
returns-then-room-lengths c = pack-short _ _ _ (sym c.lengths_fit.ensures ∙ c.if-not-lengths_fit.false) c.if-lengths-gt-MOST_SEGMENTS.false c.if-room-lengths.true

pub returns : goal.returns
returns c = pack-accepted _ _ _ (sym c.lengths_fit.ensures ∙ c.if-not-lengths_fit.false) c.if-lengths-gt-MOST_SEGMENTS.false c.if-room-lengths.false

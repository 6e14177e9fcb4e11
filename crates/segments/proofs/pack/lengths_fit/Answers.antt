-- `lengths_fit` says whether the lengths add up to the bytes and none is too long.
-- The invariant, `StillToFit`: all of them fit exactly if those still to come fit what is left.
use Rattle.segments.proofs.LengthsLaws.{fit-goes, fit_fails_long, fit_fails_many, fit-ends}
use Rattle.segments.proofs.pack.lengths_fit.Goals as goal

pub returns-then-size-gt-LONGEST_SEGMENT : goal.returns-then-size-gt-LONGEST_SEGMENT
returns-then-size-gt-LONGEST_SEGMENT c = fit_fails_long c.loop-size.invariant c.loop-size-test.true c.if-size-gt-LONGEST_SEGMENT.true

pub returns-then-left-size : goal.returns-then-left-size
returns-then-left-size c = fit_fails_many c.loop-size.invariant c.loop-size-test.true c.if-left-size.true

pub loop-size-preserved : goal.loop-size-preserved
loop-size-preserved c = fit-goes c.loop-size.invariant c.loop-size-test.true c.if-size-gt-LONGEST_SEGMENT.false c.if-left-size.false

pub returns : goal.returns
returns c = fit-ends c.loop-size.invariant c.loop-size-test.false

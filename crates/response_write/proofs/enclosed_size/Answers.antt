-- `enclosed_size` counts what stands before so many bytes with them: by the form of their length.
use native.Mathlib.Omega.{arith}
use Rattle.aper.proofs.ElementLaws.{short-size, long-size}
use Rattle.response_write.proofs.enclosed_size.Goals as goal

pub returns-then-n-lt-SHORT : goal.returns-then-n-lt-SHORT
returns-then-n-lt-SHORT c = omega (arith, short-size c.args.n (omega (arith, c.if-n-lt-SHORT.true)))

pub returns : goal.returns
returns c = omega (arith, long-size c.args.n (omega (arith, c.if-n-lt-SHORT.false)))

-- `put_opening` stores what stands before so many bytes: by the form of their length.
use Prim.Native.Nat.{◌<◌, ◌≤◌}
use native.Mathlib.Omega.{arith}
use Rattle.aper.specs.Elements.{short_length}
use Rattle.aper.proofs.ElementLaws.{short-size, long-size}
use Rattle.response_write.proofs.LengthLaws.{short-opening}
use Rattle.response_write.proofs.StoredLaws.{long-stored}
use borrow.Author.Rules.{rules}
use Rattle.response_write.proofs.put_opening.Goals.{Else-n-lt-SHORT, Then-n-lt-SHORT}
use Rattle.response_write.proofs.put_opening.Goals as goal

-- the stages: a short length, a long one
short : (c : Then-n-lt-SHORT) → c.args.n < short_length
short c = omega (arith, c.if-n-lt-SHORT.true)

long : (c : Else-n-lt-SHORT) → short_length ≤ c.args.n
long c = omega (arith, c.if-n-lt-SHORT.false)

pub put-requires : goal.put-requires
put-requires c = omega (arith, short-size _ (short (goal.at.put-requires c).Then-n-lt-SHORT))

pub returns-then-n-lt-SHORT : goal.returns-then-n-lt-SHORT
returns-then-n-lt-SHORT c =
    let a = c.args in
    (rw (short-opening a.start (search rules) a.n (short (goal.at.returns-then-n-lt-SHORT c).Then-n-lt-SHORT)) c.put.ensures, omega (arith, short-size _ (short (goal.at.returns-then-n-lt-SHORT c).Then-n-lt-SHORT)))

pub put-requires-2 : goal.put-requires-2
put-requires-2 c = omega (arith, long-size _ (long (goal.at.put-requires-2 c).Else-n-lt-SHORT))

pub put-requires-3 : goal.put-requires-3
put-requires-3 c = let two = long-size _ (long (goal.at.put-requires-3 c).Else-n-lt-SHORT) in omega arith

pub returns : goal.returns
returns c =
    let a = c.args in
    (long-stored a.message.now a.at a.start a.n (search rules) (long (goal.at.returns c).Else-n-lt-SHORT) c.requires.fits_length c.put-2.ensures c.put-3.ensures, omega (arith, long-size _ (long (goal.at.returns c).Else-n-lt-SHORT)))

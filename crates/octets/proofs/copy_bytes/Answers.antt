-- `copy_bytes` stores all of `from` at the index, and nothing else.
-- The invariant, `Copying`, has the first i bytes stored; a turn stores one more, and behind the last all are stored.
use native.Mathlib.Omega.{arith}
use Rattle.octets.proofs.CopyLaws.{copying_starts, copying_one, copying_all}
use Rattle.octets.proofs.copy_bytes.Goals as goal

pub loop-i-init : goal.loop-i-init
loop-i-init c = copying_starts c.args.to.now c.args.at c.args.from.now

pub loop-i-preserved : goal.loop-i-preserved
loop-i-preserved c = copying_one c.loop-i.invariant (omega arith)

pub returns : goal.returns
returns c = copying_all c.loop-i.invariant (omega arith)

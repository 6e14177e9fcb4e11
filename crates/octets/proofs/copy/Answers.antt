-- `copy` stores all of `from` at the index, and nothing else.
-- The invariant, `Copying`, has the first bytes stored; a turn stores sixteen more, and the last sixteen end it.
use Prim.Native.Nat.{◌+◌, ◌*◌}
use mathlib.Core.Path.{◌≡◌}
use native.Mathlib.Omega.{arith}
use Rattle.octets.proofs.CopyLaws.{copying_starts, copying_goes, copying_ends}
use Rattle.octets.proofs.copy.Goals as goal

pub loop-k-init : goal.loop-k-init
loop-k-init c = copying_starts c.args.to.now c.args.at c.args.from.now

pub loop-k-preserved : goal.loop-k-preserved
loop-k-preserved c =
    let next : 16 * (c.loop-k.k + 1) ≡ 16 * c.loop-k.k + 16 = omega arith in
    rw next (copying_goes c.loop-k.invariant (omega arith) _ c.copy16.ensures (omega arith) (omega arith))

pub returns : goal.returns
returns c = copying_ends c.loop-k.invariant _ (omega arith) (omega arith) _ c.copy16-2.ensures

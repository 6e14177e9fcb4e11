-- `hex` stores the digits of a number, the last one first.
use Prim.Native.Nat.{◌-◌}
use mathlib.Core.Path.{◌∙◌}
use native.Mathlib.Omega.{arith}
use lib.ListN.{length-set}
use Rattle.report_lines.proofs.TextLaws.{digits-more, digits-done}
use Rattle.report_lines.proofs.text.hex.Goals as goal

pub loop-k-preserved : goal.loop-k-preserved
loop-k-preserved c =
    let l = c.loop-k in
    record {
      long = simp length-set l.invariant.long;
      stored = rw c.glyph.ensures (digits-more 16 (l.k - 1) l.k l.rest l.text (omega arith) (omega arith) ∙ l.invariant.stored);
    }

pub returns : goal.returns
returns c = digits-done 16 c.loop-k.k c.loop-k.rest c.loop-k.text (omega arith) c.loop-k.invariant.stored

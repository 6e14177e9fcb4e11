use Prim.Native.Nat.{◌-◌}
use lib.ListN.{length}
use Rattle.segments.proofs.ScanLaws.{Scanning}
use Rattle.segments.proofs.read.scan.Given as goal

abbrev pub invariant-segments : goal.invariant-segments
invariant-segments l = Scanning l.more l.k l.count l.end l.start l.length

abbrev pub decreases-segments : goal.decreases-segments
decreases-segments l = length l.more - l.end

use Prim.Native.Nat.{◌-◌}
use Rattle.wire_judge.proofs.ElementsLaws.{Going}
use Rattle.wire_judge.proofs.each_element.Given as goal

abbrev pub invariant-loop : goal.invariant-loop
invariant-loop g l = Going l.m l.s (l.end - l.counter) l.at (g.K.Kept.seen l.kept)

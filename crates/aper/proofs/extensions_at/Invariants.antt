use Prim.Native.Nat.{◌+◌, ◌-◌}
use Rattle.formats.proofs.WalkLaws.{Walking}
use Rattle.formats.specs.Summary.{or_marked}
use Rattle.aper.specs.Elements.{extension, marked}
use Rattle.aper.proofs.WalkLaws.{RunGoal}
use Rattle.aper.proofs.extensions_at.Given as goal

abbrev pub invariant-loop : goal.invariant-loop
invariant-loop l = Walking extension (or_marked marked) (RunGoal l.s l.at) l.s (l.last + 1 - l.counter) l.next l.rejected

use Prim.Native.Nat.{◌*◌, ◌-◌}
use Rattle.rules.specs.Layout.{current, place_size, places_per_cell}
use Rattle.table_judge.proofs.PlacesLaws.{PlacesLeft}
use Rattle.table_judge.proofs.places_legal.Given as goal

abbrev pub invariant-loop-k : goal.invariant-loop-k
invariant-loop-k l = PlacesLeft l.places (place_size current * l.k) (places_per_cell - l.k) l.a l.b l.c

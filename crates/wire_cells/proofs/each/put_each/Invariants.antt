use Prim.Native.Nat.{◌-◌}
use Rattle.wire_cells.proofs.ComeLaws.{Coming}
use Rattle.wire_cells.proofs.each.put_each.Given as goal

abbrev pub invariant-loop : goal.invariant-loop
invariant-loop g l = Coming l.m g.F.Form.form g.F.Form.SIZE l.from g.met.F.Form.sized l.initial.out l.cells l.out (l.end - l.counter) l.at l.to

use Rattle.wire.proofs.ListLaws.{switch, PlainWalk}
use Rattle.wire.proofs.list.walked.Given as goal

abbrev pub invariant-loop : goal.invariant-loop
invariant-loop g l = PlainWalk l.m l.s (switch g.row.PLAIN) l.count l.counter l.at l.marks l.least

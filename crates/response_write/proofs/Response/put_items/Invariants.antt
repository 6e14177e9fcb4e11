use Rattle.response_write.proofs.ItemsLaws.{ToCome}
use Rattle.response_write.proofs.Response.put_items.Given as goal

abbrev pub invariant-loop-k : goal.invariant-loop-k
invariant-loop-k l = ToCome l.initial.message l.answer l.self.m l.self.rows l.at l.message l.to l.k

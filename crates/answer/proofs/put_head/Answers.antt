-- `put_head` stores the head of an answer as two numbers.
-- By the law that they are its bytes.
use mathlib.Core.Path.{◌∙◌, ap}
use Prim.Native.Nat.{◌+◌, ◌*◌}
use lib.Seq.{sets}
use Rattle.octets.specs.Numbers.{to_be}
use Rattle.answer.proofs.HeadLaws.{head-stored}
use borrow.Author.Rules.{rules}
use Rattle.answer.proofs.put_head.Goals as goal

pub returns : goal.returns
returns c =
    let s = c.args in
    c.put-2.ensures
    ∙ ap (λ l. sets l 8 (to_be 4 (s.serial * 65536 + s.rows))) c.put.ensures
    ∙ head-stored s.kind s.identifier s.serial s.rows (search rules) (search rules) (search rules) (search rules) s.answer.now

-- `without_heads` waits, or stops with "no 9".
use Rattle.report_turns.proofs.OpenLaws.{waiting_stepped}
use Rattle.report_turns.proofs.heads.without_heads.Goals as goal

pub returns-then-never : goal.returns-then-never
returns-then-never c = λ p none. rw c.if-never.true (c.refuse.ensures p none)

pub returns : goal.returns
returns c = λ p none. rw c.if-never.false (waiting_stepped p none c.args.text.now)

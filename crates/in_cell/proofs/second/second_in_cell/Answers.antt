-- `second_in_cell` leaves the cell and the rows of one second.
-- The first pass is `all_later`, the second `close_up`, and the two are the rule: `stepped_one` and `stepped_two`.
use borrow.Author.Rules.{rules}
use Rattle.octets.specs.Runs.{Bytes}
use Rattle.in_cell.proofs.Passes.{pass_leaves, stepped_one, stepped_two}
use Rattle.in_cell.proofs.second.second_in_cell.Goals.{After-all_later-pass}
use Rattle.in_cell.proofs.second.second_in_cell.Goals as goal

-- behind the first pass
bytes : (p : After-all_later-pass) → Bytes p.args.cell.now
bytes p = search rules

pub close_up-requires : goal.close_up-requires
close_up-requires c =
    pass_leaves c.args.cell.now c.args.out.now (bytes (goal.at.close_up-requires c).After-all_later-pass) c.requires c.all_later-pass.ensures

pub returns-then-pass-gt0 : goal.returns-then-pass-gt0
returns-then-pass-gt0 c =
    stepped_two c.args.cell.now c.args.out.now (bytes (goal.at.returns-then-pass-gt0 c).After-all_later-pass) c.requires c.all_later-pass.ensures _ c.close_up.ensures

pub returns-else-pass-gt0 : goal.returns-else-pass-gt0
returns-else-pass-gt0 c =
    stepped_one c.args.cell.now c.args.out.now (bytes (goal.at.returns-else-pass-gt0 c).After-all_later-pass) c.requires c.all_later-pass.ensures c.if-pass-gt0.false

-- `grant` leaves what an accepted request leaves: the walk's table and rows behind the answer's head, or an answer without rows.
-- By the two cases of an idle start.
use mathlib.Core.Path.{sym, ◌∙◌}
use borrow.Author.Rules.{rules}
use Rattle.octets.specs.Runs.{Bytes}
use Rattle.engine.proofs.CallLaws.{long-record, long-table, call_req, call_table}
use Rattle.engine.proofs.GrantLaws.{answer-room, idle_granted, walk_granted, to-walk}
use Rattle.engine.proofs.apply.grant.Goals.{After-idle}
use Rattle.engine.proofs.apply.grant.Goals as goal

-- the bytes of the table and of the record
table-bytes : (c : After-idle) → Bytes c.args.table.now
table-bytes c = search rules

record-bytes : (c : After-idle) → Bytes c.args.req.now
record-bytes c = search rules

pub request-fields-requires : goal.request-fields-requires
request-fields-requires c = long-record _ (call_req _ _ _ c.requires)

pub put_head-requires : goal.put_head-requires
put_head-requires c =
    answer-room c.args.table.now c.args.req.now c.args.answer.now (table-bytes (goal.at.put_head-requires c).After-idle) (record-bytes (goal.at.put_head-requires c).After-idle) c.requires

pub returns-then-idle : goal.returns-then-idle
returns-then-idle c =
    let idle = sym c.idle.ensures ∙ c.if-idle.true in
    idle_granted c.args.table.now c.args.req.now c.args.answer.now (table-bytes (goal.at.returns-then-idle c).After-idle) (record-bytes (goal.at.returns-then-idle c).After-idle) c.requires _ c.request-fields.ensures idle _
    c.put_head.ensures

pub cells_of-requires : goal.cells_of-requires
cells_of-requires c =
    long-table _ (call_table _ _ _ c.requires)

pub count-requires : goal.count-requires
count-requires c =
    long-record _ (call_req _ _ _ c.requires)

pub walk-rows-requires : goal.walk-rows-requires
walk-rows-requires c =
    let going = sym c.idle.ensures ∙ c.if-idle.false in
    record {
      accepted = c.requires;
      all_cells = c.cells_of.ensures;
      all_items = c.count.ensures;
      request = c.request-fields.ensures;
      to_step =
          to-walk c.args.table.now c.args.req.now c.args.answer.now (table-bytes (goal.at.walk-rows-requires c).After-idle) (record-bytes (goal.at.walk-rows-requires c).After-idle) c.requires _
          c.request-fields.ensures going _ c.new_bytes-new.ensures;
    }

pub put_head-requires-2 : goal.put_head-requires-2
put_head-requires-2 c =
    rw c.walk-rows.auto.answer
    (answer-room c.args.table.now c.args.req.now c.args.answer.now (table-bytes (goal.at.put_head-requires-2 c).After-idle) (record-bytes (goal.at.put_head-requires-2 c).After-idle) c.requires)

pub returns : goal.returns
returns c =
    walk_granted c.args.table.now c.args.req.now c.args.answer.now (table-bytes (goal.at.returns c).After-idle) (record-bytes (goal.at.returns c).After-idle) c.requires _ c.request-fields.ensures _ _ _ _
    c.walk-rows.ensures c.put_head-2.ensures

-- `put_record` leaves the record of what a message says at the start of the buffer, or refuses and leaves the buffer as it was: by the two tests.
-- The list in the message's bytes is whole, so that its cells can be counted and written; fields and cells, one behind the other, are the record.
use mathlib.Core.Path.{◌≡◌, sym, ap, ◌∙◌}
use mathlib.Core.Bool.{true}
use lib.ListN.{length, length-map}
use Rattle.rules.specs.Refusals.{cancels_some}
use Rattle.wire.specs.CancelRead.{named, cancel_request}
use Rattle.wire.specs.declared.Message.TheVariants.{CancelRequest}
use Rattle.wire_cells.specs.Listed.{rows_listed}
use Rattle.wire_cancel.specs.Taken.{cells_listed}
use Rattle.wire_cells.proofs.WholeListLaws.{part, part-judged}
use Rattle.wire_cancel.proofs.StoredLaws.{items-stored}
use Rattle.wire_cancel.proofs.RecordLaws.{Says, cells-said, some-said, request-said, none_put, short_put, record_put}
use Rattle.wire_cancel.proofs.put_record.Goals.{After-cell_count-n}
use Rattle.wire_cancel.proofs.put_record.Goals as goal

-- the stages: the call, its cells counted, its fields stored
-- a message that cancels something
some : (c : After-cell_count-n) → cancels_some (cancel_request (Says c.args.elements.now c.args.seen)) ≡ true
some c = some-said c.args.elements.now c.args.seen ∙ c.if-not-seen.false

listed : (c : After-cell_count-n) → c.cell_count-n.result ≡ length (cells_listed (part CancelRequest c.args.elements.now c.args.seen))
listed c = c.cell_count-n.ensures.counts ∙ sym (length-map (rows_listed CancelRequest (part CancelRequest c.args.elements.now c.args.seen)) (λ w. w.identity))

many : (c : After-cell_count-n) → c.cell_count-n.result ≡ length (named (Says c.args.elements.now c.args.seen))
many c = listed c ∙ ap length (cells-said c.args.elements.now c.args.seen)

pub returns-then-not-seen : goal.returns-then-not-seen
returns-then-not-seen c =
    let a = c.args in
    none_put (Says a.elements.now a.seen) a.buffer.now (some-said a.elements.now a.seen ∙ c.if-not-seen.true)

pub cell_count-n-requires : goal.cell_count-n-requires
cell_count-n-requires c =
    part-judged CancelRequest c.args.elements.now c.args.seen c.requires.lies c.requires.every_cell_known

pub returns-then-buffer-n : goal.returns-then-buffer-n
returns-then-buffer-n c =
    let a = c.args in
    short_put (Says a.elements.now a.seen) a.buffer.now (some (goal.at.returns-then-buffer-n c).After-cell_count-n) (rw (← many (goal.at.returns-then-buffer-n c).After-cell_count-n) c.if-buffer-n.true)

pub put_each-requires-clause-judged_list : goal.put_each-requires-clause-judged_list
put_each-requires-clause-judged_list c = part-judged CancelRequest c.args.elements.now c.args.seen c.requires.lies c.requires.every_cell_known

pub returns : goal.returns
returns c =
    let a = c.args in
    let q = c.request_of.ensures ∙ request-said a.elements.now a.seen (listed (goal.at.returns c).After-cell_count-n) in
    record_put (Says a.elements.now a.seen) a.buffer.now (some (goal.at.returns c).After-cell_count-n) (rw (← many (goal.at.returns c).After-cell_count-n) c.if-buffer-n.false) (many (goal.at.returns c).After-cell_count-n) q c.put_fields.ensures
    (rw (← cells-said a.elements.now a.seen, ← items-stored (rows_listed CancelRequest (part CancelRequest a.elements.now a.seen))) c.put_each.ensures)

-- `put_fields` stores all fields of a record at the start of a buffer, and nothing else.
-- Field behind field is the layout's bytes: `fields_put`.
use mathlib.Core.Path.{refl}
use Rattle.rules.specs.Record.{request_numbers}
use Rattle.record_write.proofs.WriteLaws.{puts, fields_put}
use Rattle.record_write.proofs.put_fields.Goals as goal

pub returns : goal.returns
unfolding puts request_numbers
returns c =
    fields_put c.args.request c.args.n c.args.buffer.now c.put.ensures c.put-2.ensures
    (rw (c.put-13.ensures, c.put-12.ensures, c.put-11.ensures, c.put-10.ensures, c.put-9.ensures, c.put-8.ensures)
    (rw (c.put-7.ensures, c.put-6.ensures, c.put-5.ensures, c.put-4.ensures, c.put-3.ensures) refl))

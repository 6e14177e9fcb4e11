-- Demand 2, of records: what was written reads back as the request and items given, and what was read is written back.
-- Both are rules' round trips (RoundTrips); that each item comes out one by one is the reader's law.
use mathlib.Core.Path.{ap, ◌∙◌}
use lib.ListN.{take, get_or}
use Rattle.rules.specs.Layout.{current}
use Rattle.rules.specs.Record.{renewed}
use Rattle.rules.specs.Applied.{ReadOutcome, written, read_of, reading}
use Rattle.rules.proofs.OutcomeLaws.{read-accepted}
use Rattle.rules.proofs.RenewedLaws.{request-renewed, count-renewed, items-renewed, renewed-same}
use Rattle.rules.proofs.AcceptedRecordLaws.{record-accepted}
use Rattle.rules.proofs.RoundTrips.{write_read, read-write, renewed-accepted}
use Rattle.record_read.proofs.Items.{item_at_items_of}
use Rattle.demands.specs.Demand2.{WriteRead, ReadWrite}

-- a record that was written, read
pub read_again : WriteRead
read_again q items buffer f e =
    let w = write_read q items buffer f e in
    let bytes = take (written q items buffer).length (written q items buffer).buffer in
    let v = read-accepted bytes (ap (λ (o : ReadOutcome). o.number) w.reads) in
    (w.size, w.reads, w.reads-items, λ k. item_at_items_of bytes v k ∙ ap (λ l. get_or l k 0) w.reads-items)

-- a record that was read, written
pub read_back : ReadWrite
unfolding read_of reading
read_back r buffer b e h =
    let v = read-accepted r e in
    let a = record-accepted current r v in
    let long = a.long in
    record {
      written_back = read-write r buffer b e h;
      same_bytes = renewed-same r long b;
      same_fields = rw (v, renewed-accepted r a, request-renewed r long, count-renewed r long);
      same-items = items-renewed r long;
      each_item = item_at_items_of r v;
      each_renewed = λ k. item_at_items_of (renewed r) (renewed-accepted r a) k ∙ ap (λ l. get_or l k 0) (items-renewed r long);
    }

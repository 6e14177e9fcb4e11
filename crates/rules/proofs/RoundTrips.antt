-- Demand 2: write-then-read gives the request back, items included; read-then-write gives the same bytes, an older record as one of the current version.
-- What stands at the start of the writer's buffer is the record, and record and request are each other's inverse.
use Rattle.std.specs.Prelude.{Ok}
use mathlib.Core.Path.{◌≡◌, ◌∙◌}
use mathlib.Core.Bool.{true}
use mathlib.Core.List.{List}
use Prim.Native.Nat.{ℕ, ◌+◌, ◌*◌, ◌≤◌}
use native.Mathlib.Omega.{arith}
use lib.ListN.{length, take}
use lib.Seq.{sets}
use Rattle.octets.specs.Runs.{Bytes}
use Rattle.octets.proofs.RunsLaws.{take-sets_front}
use Rattle.rules.specs.Layout.{current, record_size, item_size}
use Rattle.rules.specs.Record.{request_of, items_of, item_count, record_bytes, renewed}
use Rattle.rules.specs.Refusals.{record_verdict, write_verdict}
use Rattle.rules.specs.Applied.{fill, written, reading, read_of}
use Rattle.rules.specs.Sound.{fit_request}
use Rattle.rules.specs.declared.Request.{Request}
use Rattle.rules.proofs.RecordCodec.{length_items_of}
use Rattle.rules.proofs.RenewedLaws.{request-renewed, mark-renewed, version-renewed, zero-renewed, count-renewed, items-renewed, length-renewed, record-renewed}
use Rattle.rules.proofs.RecordTrips.{writing_accepted, accepted_writing, length-record_bytes, record-written, items-read, request-read}
use Rattle.rules.proofs.AcceptedRecordLaws.{AcceptedRecord, record-accepted, accepted-record, within-own}
use Rattle.rules.proofs.OutcomeLaws.{written-accepted, read-accepted}

pub record WrittenRecord (q : Request) (items buffer : List ℕ) : Type 0 where
  pub size : (written q items buffer).length ≡ record_size + item_size current * length items
  pub reads : read_of (take (written q items buffer).length (written q items buffer).buffer)
      ≡ record { number = 0; request = q; items = length items }
  pub reads-items : items_of (take (written q items buffer).length (written q items buffer).buffer) ≡ items

pub write_read : (q : Request) (items buffer : List ℕ) → fit_request q ≡ true → (written q items buffer).number ≡ 0 → WrittenRecord q items buffer
unfolding written fill read_of reading
write_read q items buffer fit e =
    let v = written-accepted q items buffer e in
    let a = writing_accepted q items (length buffer) v in
    let n = length-record_bytes q items fit a.few in
    let f : take (length (record_bytes q items)) (sets buffer 0 (record_bytes q items)) ≡ record_bytes q items =
    take-sets_front buffer (record_bytes q items) (omega arith) in
    let w : record_verdict current (record_bytes q items) ≡ Ok tt =
    accepted-record current (record_bytes q items) (record-written q items fit a.few a.request) in
    let r = request-read q items fit a.few a.request in
    record {
      size = rw v n;
      reads = rw (v, f, w, r.0, r.1);
      reads-items = rw (v, f) (items-read q items fit a.few a.request);
    }

-- renewed, a record is accepted still
pub renewed-accepted : (r : List ℕ) → AcceptedRecord current r → record_verdict current (renewed r) ≡ Ok tt
renewed-accepted r a =
    let long = a.long in
    accepted-record current (renewed r)
    (record {
      long = rw (length-renewed r long) long;
      mark = mark-renewed r long ∙ a.mark;
      version = rw (version-renewed r long);
      few = rw (count-renewed r long) a.few;
      size = rw (length-renewed r long, count-renewed r long) a.size;
      zero = zero-renewed r long ∙ a.zero;
      request = rw (version-renewed r long, request-renewed r long, items-renewed r long) (within-own current r a);
    })

-- of an older version the bytes are renewed, and those of the writer's own stay as they are
pub read-write : (r buffer : List ℕ) → Bytes r → (read_of r).number ≡ 0 → length r ≤ length buffer
    → written (read_of r).request (items_of r) buffer ≡ record { number = 0; length = length r; buffer = sets buffer 0 (renewed r) }
unfolding written fill read_of reading
read-write r buffer b e h =
    let v = read-accepted r e in
    let a = record-accepted current r v in
    let n : length (items_of r) ≡ item_count r = length_items_of r in
    let w : write_verdict (request_of r) (items_of r) (length buffer) ≡ Ok tt =
    accepted_writing (request_of r) (items_of r) (length buffer) (record { few = rw n a.few; request = within-own current r a; fits_in_lem = rw n (omega arith) }) in
    rw (v, w, record-renewed r a.long b a.mark a.zero a.size, length-renewed r a.long)

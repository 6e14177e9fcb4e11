-- Demand 2 on records, of what `write`, `read` and `item` promise: what was written reads back as given; what was read is written as the same bytes.
-- Each promise is an equation with a definition of the rules, so the round trips of those definitions carry over; an answer with number 0 is no refusal.
use Rattle.std.specs.Prelude.{Ok}
use mathlib.Core.Path.{◌≡◌, sym, ap, ◌∙◌}
use mathlib.Core.Bool.{true}
use mathlib.Core.List.{List}
use Prim.Native.Nat.{ℕ, ◌+◌, ◌*◌, ◌<◌, ◌≤◌}
use lib.ListN.{length, take, get_or}
use lib.Seq.{sets, ext_get_or}
use borrow.Author.Tests.{lt-ltb}
use Rattle.octets.specs.Runs.{Bytes}
use Rattle.rules.specs.Layout.{current, record_size, item_size, record_version}
use Rattle.rules.specs.Record.{request_numbers, version_in, item_count, items_of, renewed}
use Rattle.rules.specs.Refusals.{writing_number, writing_length, record_verdict, Writing, Reading}
use Rattle.rules.specs.Applied.{Filled, ReadOutcome, filled_by, item_at, read_by, reading, read_of, written}
use Rattle.rules.specs.Sound.{fits, fit_request}
use Rattle.rules.specs.declared.Request.{Request}
use Rattle.rules.proofs.OnceLaws.{writing_injective, reading_injective}
use Rattle.rules.proofs.OutcomeLaws.{read-accepted}
use Rattle.rules.proofs.RecordCodec.{length_items_of}
use Rattle.rules.proofs.AcceptedRecordLaws.{record-accepted}
use Rattle.rules.proofs.RenewedLaws.{renewed-same}
use Rattle.rules.proofs.RoundTrips.{WrittenRecord, write_read, read-write}
use Rattle.record_read.proofs.Items.{item_at_items_of}

-- the fields of a request fit a record's, as their types say: any function that takes a `Request` knows these bounds of it
pub types_fit : (q : Request) → q.kind < 256 → q.flags < 256 → q.area < 256 → q.identifier < 65536 → q.serial < 65536 → q.content < 4294967296
    → q.period.0 < 4294967296 → q.requested.0 < 65536 → q.sib < 256 → fit_request q ≡ true
unfolding fit_request fits request_numbers
types_fit q k f a i s c p r b =
    rw (lt-ltb q.kind 256 k, lt-ltb q.flags 256 f, lt-ltb q.area 256 a, lt-ltb q.identifier 65536 i)
    (rw (lt-ltb q.serial 65536 s, lt-ltb q.content 4294967296 c, lt-ltb q.period.0 4294967296 p, lt-ltb q.requested.0 65536 r, lt-ltb q.sib 256 b))

-- ---- written, then read

-- `x` and `b` are what `write` answered and left; that `q` fits is what its type says, which a `Request` of antt's numbers does not carry
module _ (q : Request) (items buffer : List ℕ) (fit : fit_request q ≡ true) (x : Writing) (b : List ℕ) (promise : filled_by x b ≡ written q items buffer) (ok : writing_number x ≡ 0) where
  was_written : WrittenRecord q items buffer
  was_written = write_read q items buffer fit (sym (ap (λ (f : Filled). f.number) promise) ∙ ok)

  same_length : writing_length x ≡ (written q items buffer).length
  same_length = ap (λ (f : Filled). f.length) promise

  same_bytes : take (writing_length x) b ≡ take (written q items buffer).length (written q items buffer).buffer
  same_bytes = ap (λ (f : Filled). take f.length f.buffer) promise

  pub written-size : writing_length x ≡ record_size + item_size current * length items
  written-size = same_length ∙ was_written.size

  -- whatever `read` answers of the bytes that were written: the request, and as many items
  pub written_read : (y : Reading) → read_by y ≡ read_of (take (writing_length x) b) → y ≡ Ok (q, (length items))
  written_read y e = reading_injective y (Ok (q, (length items))) (e ∙ rw same_bytes was_written.reads)

  -- and `item` gives each of them
  pub written-item : (k : ℕ) → item_at (take (writing_length x) b) k ≡ get_or items k 0
  written-item k =
      let r : (read_of (take (writing_length x) b)).number ≡ 0 = rw same_bytes (ap (λ (o : ReadOutcome). o.number) was_written.reads) in
      item_at_items_of (take (writing_length x) b) (read-accepted (take (writing_length x) b) r) k ∙ rw same_bytes (ap (λ (l : List ℕ). get_or l k 0) was_written.reads-items)

-- ---- read, then written

-- `q` and `n` are what `read` answered of the bytes `r`, and `items` what `item` gave for each k below n
module _ (r : List ℕ) (bytes : Bytes r) (q : Request) (n : ℕ) (promise : read_by (Ok (q, n)) ≡ read_of r)
    (items : List ℕ) (count : length items ≡ n) (each : (k : ℕ) → k < n → get_or items k 0 ≡ item_at r k) where
  read_number : (read_of r).number ≡ 0
  read_number = sym (ap (λ (o : ReadOutcome). o.number) promise)

  read-verdict : record_verdict current r ≡ Ok tt
  read-verdict = read-accepted r read_number

  read_count : n ≡ item_count r
  unfolding read_of reading
  read_count = rw read-verdict at (ap (λ (o : ReadOutcome). o.items) promise)

  read-items : items ≡ items_of r
  read-items =
      ext_get_or 0 items (items_of r) (count ∙ read_count ∙ sym (length_items_of r))
      (λ k h. each k (rw count at h) ∙ item_at_items_of r read-verdict k)

  module _ (buffer : List ℕ) (room : length r ≤ length buffer) (x : Writing) (b : List ℕ) (wrote : filled_by x b ≡ written q items buffer) where
    -- whatever `write` answers and leaves where there is room: the same record in the writer's version, and the bytes behind it as they were
    pub read-written : (x ≡ Ok (length r)) × (b ≡ sets buffer 0 (renewed r))
    read-written =
        let request : q ≡ (read_of r).request = ap (λ (o : ReadOutcome). o.request) promise in
        let w : filled_by x b ≡ record { number = 0; length = length r; buffer = sets buffer 0 (renewed r) } =
        wrote ∙ rw (request, read-items) (read-write r buffer bytes read_number room) in
        (writing_injective x (Ok (length r)) (ap (λ (f : Filled). f.number) w) (ap (λ (f : Filled). f.length) w), ap (λ (f : Filled). f.buffer) w)

    -- of a record of that version: the same bytes again
    pub own-written : version_in r ≡ record_version → (x ≡ Ok (length r)) × (b ≡ sets buffer 0 r)
    own-written e =
        let long : record_size ≤ length r = (record-accepted current r read-verdict).long in
        (read-written.0, read-written.1 ∙ rw (renewed-same r long bytes e))

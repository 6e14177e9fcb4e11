-- Demand 2 on records: what the writer accepts reads back as that request, items included; what the reader accepts is written as the same bytes.
-- By the inverses of RecordCodec; each test of the reader is one of the writer, or holds of every record written.
use Rattle.std.specs.Prelude.{Ok}
use mathlib.Core.Path.{◌≡◌, sym, ◌∙◌}
use mathlib.Core.Bool.{Bool, true, not, ◌&&◌, ◌||◌}
use mathlib.Core.List.{List, [], append-nil}
use Prim.Native.Nat.{ℕ, ◌+◌, ◌*◌, ◌^◌, ◌≤◌, ◌<◌}
use native.Mathlib.Omega.{arith}
use lib.Dec.{eqb, ltb, leb}
use lib.ListN.{length, get_or, length-append}
use borrow.Author.Tests.{ltb-true, leb-true, lt-ltb, le-leb}
use Rattle.octets.specs.Numbers.{to_be}
use Rattle.octets.specs.Fields.{Fit, field_of}
use Rattle.octets.proofs.PiecesLaws.{length-flat_map}
use Rattle.octets.proofs.NumbersLaws.{length-to_be}
use Rattle.octets.proofs.FieldsLaws.{length_bytes_of}
use Rattle.rules.specs.Lists.{every}
use Rattle.rules.specs.Layout.{current, record_fields, record_size, item_size, most_items, longest_period, first_sib, last_sib}
use Rattle.rules.specs.Record.{write_replace, request_of, request_numbers, record_bytes, items_of, item_count, item_end_in, item_end, within_limits}
use Rattle.rules.specs.Refusals.{refuse_unless, few_items, request_verdict, write_verdict}
use Rattle.rules.specs.Sound.{fits, fit_request}
use Rattle.rules.specs.declared.Seconds.{Seconds}
use Rattle.rules.specs.declared.Request.{Request}
use Rattle.rules.specs.declared.Refusal.TheVariants.{RecordLength, ShortBuffer}
use Rattle.rules.proofs.TestLaws.{both}
use Rattle.rules.proofs.AllLaws.{All, all_every, all_imply}
use Rattle.rules.proofs.FitLaws.{fits-Fit}
use Rattle.rules.proofs.LayoutLaws.{record-size}
use Rattle.rules.proofs.KindAreaLaws.{area_by_lem}
use Rattle.rules.proofs.VerdictLaws.{then_accepted, unless_accepted, write_chain, request-accepted}
use Rattle.rules.proofs.RecordCodec.{field-again, request-again, items-again}
use Rattle.rules.proofs.AcceptedRecordLaws.{AcceptedRecord}

-- ---- a request that is written

-- the count of items fits besides
fit_count : (q : Request) (n : ℕ) → n < 65536 → fit_request q ≡ true → fits record_fields (request_numbers q n) ≡ true
unfolding fit_request fits request_numbers
fit_count q n h e = rw (lt-ltb n 65536 h) e

item_end_lem : (area : ℕ) → item_end area ≤ 2 ^ 60
item_end_lem area = area_by_lem (λ a. item_end_in a ≤ 2 ^ 60) area (λ _. omega arith) (λ _. omega arith) (λ _. omega arith) (λ _. omega arith) (omega arith)

-- an item within its area's limit fits its 8 bytes
items-fit : (longest : Seconds) (q : Request) (items : List ℕ) → within_limits longest q items ≡ true → All (λ x. x < 256 ^ (item_size current)) items
unfolding within_limits
items-fit longest q items e =
    let start : Bool = not (eqb q.kind write_replace) || leb q.period.0 longest.0 && leb first_sib q.sib && leb q.sib last_sib in
    let h = both start (every (λ x. ltb x (item_end q.area)) items) e in
    all_imply (λ x t. omega (arith, ltb-true x (item_end q.area) t, item_end_lem q.area)) (all_every (λ x. ltb x (item_end q.area)) items h.1)

pub record AcceptedWriting (q : Request) (items : List ℕ) (room : ℕ) : Type 0 where
  pub few : length items ≤ most_items
  pub request : request_verdict (longest_period current) q items ≡ Ok tt
  pub fits_in_lem : record_size + item_size current * length items ≤ room

pub writing_accepted : (q : Request) (items : List ℕ) (room : ℕ) → write_verdict q items room ≡ Ok tt → AcceptedWriting q items room
writing_accepted q items room e =
    let n = then_accepted (refuse_unless (few_items (length items)) RecordLength) _ (sym (write_chain q items room) ∙ e) in
    let v = then_accepted (request_verdict (longest_period current) q items) _ n.1 in
    record {
      few = leb-true (length items) most_items (unless_accepted _ RecordLength n.0);
      request = v.0;
      fits_in_lem = leb-true (record_size + item_size current * length items) room (unless_accepted _ ShortBuffer v.1);
    }

pub accepted_writing : (q : Request) (items : List ℕ) (room : ℕ) → AcceptedWriting q items room → write_verdict q items room ≡ Ok tt
accepted_writing q items room a =
    rw (write_chain q items room, le-leb _ _ a.few, a.request, le-leb (record_size + item_size current * length items) room a.fits_in_lem)

-- ---- written, then read

module _ (q : Request) (items : List ℕ) (fit : fit_request q ≡ true) (few : length items ≤ most_items) where
  fit-head : Fit record_fields (request_numbers q (length items))
  fit-head = fits-Fit record_fields (request_numbers q (length items)) (fit_count q (length items) (omega arith) fit)

  pub length-record_bytes : length (record_bytes q items) ≡ record_size + item_size current * length items
  unfolding record_bytes
  length-record_bytes =
      rw (length-append, length_bytes_of record_fields (request_numbers q (length items)) fit-head, record-size, length-flat_map (item_size current) (to_be (item_size current)) items (length-to_be (item_size current)))

  -- a field of the record, with nothing behind it
  own-field : (k : ℕ) → field_of record_fields k (record_bytes q items) ≡ get_or (request_numbers q (length items)) k 0
  own-field k = rw append-nil at (field-again q items [] fit-head k)

  own-request : request_of (record_bytes q items) ≡ q
  own-request = rw append-nil at (request-again q items [] fit-head)

  module _ (allowed : request_verdict (longest_period current) q items ≡ Ok tt) where
    pub items-read : items_of (record_bytes q items) ≡ items
    items-read = rw append-nil at (items-again q items [] fit-head (items-fit (longest_period current) q items (request-accepted (longest_period current) q items allowed).limits))

    pub record-written : AcceptedRecord current (record_bytes q items)
    unfolding request_numbers
    record-written =
        let n : item_count (record_bytes q items) ≡ length items = own-field 12 in
        record {
          long = omega (arith, length-record_bytes);
          mark = own-field 0;
          version = rw (own-field 1);
          few = rw n few;
          size = rw n length-record_bytes;
          zero = own-field 11;
          request = rw (own-field 1, own-request, items-read) allowed;
        }

    pub request-read : (request_of (record_bytes q items) ≡ q) × (item_count (record_bytes q items) ≡ length items)
    unfolding request_numbers
    request-read = (own-request, own-field 12)

-- What a call that is accepted gives: a legal table, an accepted record whose fields fit, and room for its answer.
-- By the verdicts that its own is joined of.
use Rattle.std.specs.Prelude.{Ok}
use mathlib.Core.Path.{◌≡◌, sym, ◌∙◌}
use mathlib.Core.Bool.{true}
use mathlib.Core.List.{List}
use Prim.Native.Nat.{ℕ, ◌≤◌, ◌<◌}
use native.Mathlib.Omega.{arith}
use borrow.Author.Tests.{leb-true, lt-ltb}
use Rattle.octets.specs.Runs.{Bytes}
use Rattle.octets.proofs.FieldsLaws.{fit-numbers}
use Rattle.rules.specs.Layout.{Version, record_fields}
use Rattle.rules.specs.Table.{cell_count}
use Rattle.rules.specs.Record.{request_of, request_numbers, item_count, renewed}
use Rattle.rules.specs.Answer.{room_for}
use Rattle.rules.specs.Refusals.{table_verdict, record_verdict, apply_verdict}
use Rattle.rules.specs.Sound.{fits, fit_request}
use Rattle.rules.specs.declared.Request.{Request}
use Rattle.rules.specs.declared.Refusal.TheVariants.{ShortBuffer}
use Rattle.rules.proofs.LayoutLaws.{record-size}
use Rattle.rules.proofs.FitLaws.{Fit-fits}
use Rattle.rules.proofs.VerdictLaws.{then_accepted, unless_accepted, apply_chain}
use Rattle.rules.proofs.RecordCodec.{numbers-back}
use Rattle.rules.proofs.RenewedLaws.{request-renewed, mark-renewed, version-renewed, zero-renewed, count-renewed, length-renewed, bytes-renewed}
use Rattle.rules.proofs.AcceptedRecordLaws.{AcceptedRecord}

module _ (v : Version) where
  -- ---- what acceptance gives

  pub record AcceptedCall (t r : List ℕ) (room : ℕ) : Type 0 where
    pub table : table_verdict v t ≡ Ok tt
    pub req : record_verdict v r ≡ Ok tt
    pub enough : room_for v (request_of r).kind (cell_count t) ≤ room

  pub call_accepted : (t r : List ℕ) (room : ℕ) → apply_verdict v t r room ≡ Ok tt → AcceptedCall t r room
  call_accepted t r room e =
      let a = then_accepted (table_verdict v t) _ (sym (apply_chain v t r room) ∙ e) in
      let b = then_accepted (record_verdict v r) _ a.1 in
      record {
        table = a.0;
        req = b.0;
        enough = leb-true (room_for v (request_of r).kind (cell_count t)) room (unless_accepted _ ShortBuffer b.1);
      }

  -- acceptance depends on the record, the buffer's length and N alone: legal tables of one size are alike to it
  pub acceptance_stays : (t u r : List ℕ) (room : ℕ) → table_verdict v t ≡ Ok tt → table_verdict v u ≡ Ok tt → cell_count t ≡ cell_count u
      → apply_verdict v t r room ≡ apply_verdict v u r room
  acceptance_stays t u r room a b n = rw (apply_chain v t r room, apply_chain v u r room, a, b, n)

  -- a record's fields fit, since they were read from bytes
  numbers_fit : (r : List ℕ) → Bytes r → AcceptedRecord v r → fits record_fields (request_numbers (request_of r) (item_count r)) ≡ true
  numbers_fit r b a =
      let long = a.long in
      let back = numbers-back (renewed r) (mark-renewed r long ∙ a.mark) (version-renewed r long) (zero-renewed r long ∙ a.zero) in
      let fit = Fit-fits record_fields _ (fit-numbers record_fields (renewed r) (bytes-renewed r long b) (rw (record-size, length-renewed r long) long)) in
      let renewed-fits : fits record_fields (request_numbers (request_of (renewed r)) (item_count (renewed r))) ≡ true = rw back fit in
      rw (request-renewed r long, count-renewed r long) at renewed-fits

without-count : (q : Request) (n : ℕ) → n < 65536 → fits record_fields (request_numbers q n) ≡ true → fit_request q ≡ true
unfolding fit_request fits request_numbers
without-count q n h e = rw (lt-ltb n 65536 h) at e

pub record-fits : (v : Version) → (r : List ℕ) → Bytes r → AcceptedRecord v r → fit_request (request_of r) ≡ true
record-fits v r b a = without-count (request_of r) (item_count r) (omega (arith, a.few)) (numbers_fit v r b a)

-- What the reader finds in a record's bytes is what the rules say of them: fields at their offsets, mark and version, and fields that are zero.
-- By the law of fields; several fields that are zero are one run of zeros.
use Rattle.std.specs.Prelude.{Ok}
use mathlib.Core.Path.{◌≡◌, refl, sym, ◌∙◌}
use mathlib.Core.Bool.{Bool, true, false, ◌&&◌, ◌||◌, and_assoc, and-true, and-false, and-or_distrib_left}
use mathlib.Core.List.{List, [], ◌∷◌, map}
use Prim.Native.Nat.{ℕ, zero, suc, ◌+◌, ◌*◌, ◌≤◌}
use native.Mathlib.Omega.{arith}
use lib.Dec.{eqb, leb}
use lib.ListN.{length, drop, get_or, length-map}
use Rattle.octets.proofs.PiecesLaws.{length-pieces}
use Rattle.octets.proofs.FieldsLaws.{field_at, field-within}
use Rattle.octets.proofs.MarkLaws.{mark_and_version}
use borrow.Author.Tests.{leb-true, le-leb, lt-leb, ne_eqb}
use Rattle.octets.specs.Runs.{Bytes, gets, pieces}
use Rattle.octets.specs.Numbers.{be}
use Rattle.octets.specs.Fields.{offset, field_of}
use Rattle.rules.specs.Layout.{current, mark_field, record_fields, record_size, item_size, record_mark}
use Rattle.rules.specs.Record.{takes_version, version_in, item_count, zero_byte, identifier_to_sib, cancel_zeros, notified, request_of, record_marked}
use Rattle.rules.specs.Refusals.{record_verdict}
use Rattle.rules.proofs.TestLaws.{both}
use Rattle.rules.proofs.AcceptedRecordLaws.{record-accepted}
use Rattle.rules.proofs.LayoutLaws.{record-size}
use Rattle.rules.proofs.ZerosLaws.{zeros-none, zeros-more, zeros_unless, be-zero, zeros-run}
use Rattle.rules.specs.Lists.{every, zeros}

-- ---- long enough

-- marked bytes are long enough for a record's fields
pub marked_long : (r : List ℕ) → record_marked current r ≡ true → record_size ≤ length r
unfolding record_marked
marked_long r e =
    let h = both (leb record_size (length r) && eqb (field_of record_fields mark_field r) record_mark) (takes_version current (version_in r)) e in
    leb-true record_size (length r) (both (leb record_size (length r)) (eqb (field_of record_fields mark_field r) record_mark) h.0).0

-- and so are those that are an accepted record
pub accepted_long : (r : List ℕ) → record_verdict current r ≡ Ok tt → record_size ≤ length r
accepted_long r e = (record-accepted current r e).long

-- ---- fields

pub record-field : (r : List ℕ) → record_size ≤ length r → (k : ℕ) → field_of record_fields k r ≡ be (gets r (offset record_fields k) (get_or record_fields k 0))
record-field r h k = field_at record_fields k r (omega (arith, h, record-size, field-within record_fields k))

pub version_read : (r : List ℕ) → record_size ≤ length r → version_in r ≡ be (gets r 3 2)
unfolding offset
version_read r h = record-field r h 1

pub count_read : (r : List ℕ) → record_size ≤ length r → item_count r ≡ be (gets r 24 2)
unfolding offset
count_read r h = record-field r h 12

pub zero_read : (r : List ℕ) → record_marked current r ≡ true → zero_byte r ≡ be (gets r 23 1)
unfolding offset
zero_read r e = record-field r (marked_long r e) 11

-- the fields of a request
pub request_read : (r : List ℕ) → record_size ≤ length r → {kind flags area identifier serial content period requested sib : ℕ}
    → kind ≡ be (gets r 5 1) → flags ≡ be (gets r 6 1) → area ≡ be (gets r 7 1) → identifier ≡ be (gets r 8 2) → serial ≡ be (gets r 10 2)
    → content ≡ be (gets r 12 4) → period ≡ be (gets r 16 4) → requested ≡ be (gets r 20 2) → sib ≡ be (gets r 22 1)
    → record {
      kind = kind;
      flags = flags;
      area = area;
      identifier = identifier;
      serial = serial;
      content = content;
      period = record { 0 = period };
      requested = record { 0 = requested };
      sib = sib;
    }
    ≡ request_of r
unfolding request_of offset
request_read r h k f a i s c p n b =
    let at = record-field r h in
    rw (k, at 2, f, at 3, a, at 4, i, at 5, s, at 6, c, at 7, p, at 8, n, at 9, b, at 10)

-- ---- mark and version

-- the versions that are taken today are 1 and 2
either_taken : (n : ℕ) → takes_version current n ≡ (eqb n 1 || eqb n 2)
either_taken zero = refl
either_taken (suc zero) = refl
either_taken (suc (suc zero)) = refl
either_taken (suc (suc (suc n))) =
    let x : ℕ = suc (suc (suc n)) in
    rw (lt-leb x 2 (omega arith), ne_eqb x 1 (λ e. omega (arith, e)), ne_eqb x 2 (λ e. omega (arith, e)), and-false)

-- the mark with the version's upper byte, then its lower byte: 1 or 2
pub mark_taken : (r : List ℕ) → Bytes r → record_size ≤ length r
    → eqb (be (gets r 0 4)) (record_mark * 256) && (eqb (be (gets r 4 1)) 1 || eqb (be (gets r 4 1)) 2) ≡ record_marked current r
unfolding record_marked offset
mark_taken r b h =
    let mark = eqb (be (gets r 0 3)) record_mark in
    let version : ℕ = be (gets r 3 2) in
    and-or_distrib_left (eqb (be (gets r 0 4)) (record_mark * 256)) (eqb (be (gets r 4 1)) 1) (eqb (be (gets r 4 1)) 2)
    ∙ rw (mark_and_version r b record_mark 1 (omega arith), mark_and_version r b record_mark 2 (omega arith), le-leb _ _ h, record-field r h 0, record-field r h 1, either_taken (be (gets r 3 2)))
    (sym (and-or_distrib_left mark (eqb version 1) (eqb version 2)))

-- ---- items

-- the first n items
abbrev pub read-items : List ℕ → ℕ → List ℕ
read-items r n = map be (pieces (item_size current) n (drop record_size r))

pub read_length : (r : List ℕ) (n : ℕ) → length (read-items r n) ≡ n
read_length r n = length-map (pieces (item_size current) n (drop record_size r)) be ∙ length-pieces (item_size current) n (drop record_size r)

-- ---- fields that are zero, several in one read

-- a run is zero where both its parts are
two-zero : (m n : ℕ) (l : List ℕ) (i j : ℕ) → j ≡ i + m → eqb (be (gets l i (m + n))) 0 ≡ eqb (be (gets l i m)) 0 && eqb (be (gets l j n)) 0
two-zero m n l i j e = simp be-zero (sym (zeros-run m n l i j e))

-- two runs that share a part
shared_zero : (a b c : Bool) → (a && b) && (b && c) ≡ (a && b) && c
shared_zero true true c = refl
shared_zero true false c = refl
shared_zero false b c = refl

six_zero : (a b c d e f : ℕ) → eqb a 0 && eqb b 0 && eqb c 0 && eqb d 0 && eqb e 0 && eqb f 0 ≡ zeros (a ∷ b ∷ c ∷ d ∷ e ∷ f ∷ [])
unfolding zeros every
six_zero a b c d e f = simp (and_assoc, and-true)

wide-zero : (r : List ℕ) → eqb (be (gets r 8 8)) 0 && eqb (be (gets r 15 8)) 0
    ≡ eqb (be (gets r 8 2)) 0 && eqb (be (gets r 10 2)) 0 && eqb (be (gets r 12 4)) 0 && eqb (be (gets r 16 4)) 0 && eqb (be (gets r 20 2)) 0 && eqb (be (gets r 22 1)) 0
wide-zero r =
    let parts : zeros (gets r 8 8) && zeros (gets r 15 8) ≡ zeros (gets r 8 15) =
    rw (← zeros-run 7 1 r 8 15 refl, ← zeros-run 1 7 r 15 16 refl)
    (shared_zero (zeros (gets r 8 7)) (zeros (gets r 15 1)) (zeros (gets r 16 7)) ∙ rw (zeros-run 7 1 r 8 15 refl, zeros-run 8 7 r 8 16 refl)) in
    simp be-zero (parts ∙ sym (rw (zeros-run 2 2 r 8 10 refl, zeros-run 4 4 r 8 12 refl, zeros-run 8 4 r 8 16 refl, zeros-run 12 2 r 8 20 refl, zeros-run 14 1 r 8 22 refl)))

module _ (r : List ℕ) (h : record_size ≤ length r) where
  -- from the identifier to the SIB kind
  pub text_zeros : eqb (be (gets r 8 8)) 0 && eqb (be (gets r 15 8)) 0 ≡ zeros (identifier_to_sib (request_of r))
  unfolding request_of offset
  text_zeros =
      let f = record-field r h in
      wide-zero r ∙ six_zero (be (gets r 8 2)) (be (gets r 10 2)) (be (gets r 12 4)) (be (gets r 16 4)) (be (gets r 20 2)) (be (gets r 22 1)) ∙ rw (f 5, f 6, f 7, f 8, f 9, f 10)

  -- those of a cancel; `named` says that flag 4 is there
  pub cancelled_zeros : {named : Bool} → named ≡ notified (request_of r) → eqb (be (gets r 12 8)) 0 && eqb (be (gets r 22 1)) 0 && (named || eqb (be (gets r 8 4)) 0)
      ≡ zeros (cancel_zeros (request_of r))
  unfolding request_of offset
  cancelled_zeros e =
      let f = record-field r h in
      rw (← e, f 5, f 6, f 7, f 8, f 10, two-zero 4 4 r 12 16 refl, two-zero 2 2 r 8 10 refl) (simp (zeros-more, zeros_unless, zeros-none, and_assoc, and-true))

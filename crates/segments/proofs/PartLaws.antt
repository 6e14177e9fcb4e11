-- From where segment k lies to the bytes that are handed back, and where in memory they begin.
-- An accepted list is the packing of its segments, in which the k-th stands behind those before it.
use Rattle.std.specs.Prelude.{Ok, Err}
use mathlib.Core.Path.{◌≡◌, refl, sym, ap, subst, ◌∙◌}
use mathlib.Core.Bool.{true, cond}
use mathlib.Core.List.{List, []}
use Prim.Native.Nat.{ℕ, zero, suc, ◌+◌, ◌-◌, ◌≤◌}
use native.Mathlib.Nat.{zero-add, add-sub_cancel_left}
use native.Mathlib.Omega.{arith}
use lib.Dec.{eqb, leb}
use lib.ListN.{length, get_or, take, drop}
use lib.Seq.{take-length}
use borrow.Author.Tests.{le-leb, leb-true}
use Rattle.octets.specs.Runs.{Bytes}
use Rattle.rules.specs.Refusals.{refuse_unless, ◌then◌, Verdict}
use Rattle.rules.specs.declared.Refusal.TheVariants.{ListDamaged, TooManySegments, NoSuchSegment}
use Rattle.rules.specs.declared.Refusal.{Refusal}
use Rattle.rules.proofs.OutcomeLaws.{number_positive}
use Rattle.rules.proofs.VerdictLaws.{then_accepted, unless_accepted}
use Rattle.segments.specs.Segments.{most_segments, list_bytes, segments_of, whole_list, segment_verdict, segment_of, Lies, start_in, lying, lies_at, bytes_at, lies_by, lent_from}
use Rattle.segments.specs.declared.read.Part.TheVariants.{First, Listed}
use Rattle.segments.proofs.ListCodec.{packed_segments}
use Rattle.segments.proofs.PlaceLaws.{lies_within, lies-there}

-- ---- handed back

-- what an accepted list and k say
pub record AcceptedList (more : List ℕ) (k : ℕ) : Type 0 where
  pub whole : whole_list more ≡ true
  pub few : length (segments_of more) ≤ most_segments
  pub among : k ≤ length (segments_of more)

pub list-accepted : (more : List ℕ) (k : ℕ) → segment_verdict more k ≡ Ok tt → AcceptedList more k
unfolding segment_verdict
list-accepted more k e =
    let few = refuse_unless (leb (length (segments_of more)) most_segments) TooManySegments in
    let among = refuse_unless (leb k (length (segments_of more))) NoSuchSegment in
    let a = then_accepted (refuse_unless (whole_list more) ListDamaged) (few then among) e in
    let b = then_accepted few among a.1 in
    record {
      whole = unless_accepted (whole_list more) ListDamaged a.0;
      few = leb-true (length (segments_of more)) most_segments (unless_accepted (leb (length (segments_of more)) most_segments) TooManySegments b.0);
      among = leb-true k (length (segments_of more)) (unless_accepted (leb k (length (segments_of more))) NoSuchSegment b.1);
    }

pub accepted-list : (more : List ℕ) (k : ℕ) → AcceptedList more k → segment_verdict more k ≡ Ok tt
unfolding segment_verdict
accepted-list more k a = rw (a.whole, le-leb (length (segments_of more)) most_segments a.few, le-leb k (length (segments_of more)) a.among)

-- what is told of a segment leads to its bytes, within their buffer
module _ (first more : List ℕ) (bytes : Bytes more) where
  in_buffer : Lies → Type 0
  in_buffer p = p.start + p.length ≤ length (cond (eqb p.buffer 0) first more)

  packing : (k : ℕ) → segment_verdict more k ≡ Ok tt → list_bytes (segments_of more) ≡ more
  packing k v = packed_segments more bytes (list-accepted more k v).whole

  told-bytes : (v : Verdict) (k : ℕ) → segment_verdict more k ≡ v → bytes_at first more (lying v first more k) ≡ segment_of first more k
  unfolding lying segment_of
  told-bytes (Err x) k e = rw e
  told-bytes (Ok tt) zero e = take-length first ∙ rw e
  told-bytes (Ok tt) (suc j) e =
      ap (λ (b : List ℕ). take (length (get_or (segments_of more) j [])) (drop (start_in (segments_of more) j) b)) (sym (packing (suc j) e))
      ∙ lies-there (segments_of more) j (omega (arith, (list-accepted more (suc j) e).among)) ∙ rw e

  told-within : (v : Verdict) (k : ℕ) → segment_verdict more k ≡ v → in_buffer (lying v first more k)
  unfolding lying in_buffer
  told-within (Err x) k e = omega arith
  told-within (Ok tt) zero e = omega arith
  told-within (Ok tt) (suc j) e = rw (packing (suc j) e) at (lies_within (segments_of more) j (omega (arith, (list-accepted more (suc j) e).among)))

  pub lies-bytes : (k : ℕ) → bytes_at first more (lies_at first more k) ≡ segment_of first more k
  unfolding lies_at
  lies-bytes k = told-bytes (segment_verdict more k) k refl

  -- of a place in the list
  pub listed-within : (k a n : ℕ) → lies_by (Ok (Listed a n)) ≡ lies_at first more k → a + n ≤ length more
  unfolding lies_at in_buffer
  listed-within k a n e = subst in_buffer (sym e) (told-within (segment_verdict more k) k refl)

  pub hand_listed : (k a n : ℕ) → lies_by (Ok (Listed a n)) ≡ lies_at first more k → take (a + n - a) (drop a more) ≡ segment_of first more k
  hand_listed k a n e = ap (λ (m : ℕ). take m (drop a more)) (add-sub_cancel_left a n) ∙ ap (bytes_at first more) e ∙ lies-bytes k

  pub hand_nothing : (k : ℕ) (x : Refusal) → lies_by (Err x) ≡ lies_at first more k → [] ≡ segment_of first more k
  hand_nothing k x e = ap (bytes_at first more) e ∙ lies-bytes k

-- what was answered says whether the list and k were accepted
module _ (first more : List ℕ) where
  accepted_by : (k : ℕ) (v : Verdict) → segment_verdict more k ≡ v → (lying v first more k).number ≡ 0 → segment_verdict more k ≡ Ok tt
  unfolding lying
  accepted_by k (Ok tt) e n = e
  accepted_by k (Err x) e n = absurd (omega (arith, number_positive x))

  pub lies-accepted : (k : ℕ) → (lies_at first more k).number ≡ 0 → segment_verdict more k ≡ Ok tt
  unfolding lies_at
  lies-accepted k n = accepted_by k (segment_verdict more k) refl n

  -- the first buffer, whole, for k = 0
  pub hand_first : (k n : ℕ) → lies_by (Ok (First n)) ≡ lies_at first more k → first ≡ segment_of first more k
  unfolding segment_of lies_at lying
  hand_first zero n e = rw (lies-accepted zero (sym (ap (λ (y : Lies). y.number) e)))
  hand_first (suc j) n e =
      let b : ◌≡◌ {A = ℕ} 0 1 = rw (lies-accepted (suc j) (sym (ap (λ (y : Lies). y.number) e))) at (ap (λ (y : Lies). y.buffer) e) in
      absurd (omega arith)

-- ---- where in memory

module _ (p q : ℕ × ℕ) where
  pub lent-first : (m n : ℕ) → p ≡ lent_from p q (record { number = m; buffer = 0; start = 0; length = n })
  unfolding lent_from
  lent-first m n = ap (λ (o : ℕ). (p.0, o)) (sym (zero-add p.1))

  pub lent-listed : (a n : ℕ) → (q.0, a + q.1) ≡ lent_from p q (lies_by (Ok (Listed a n)))
  unfolding lent_from
  lent-listed a n = refl

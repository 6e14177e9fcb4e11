-- A record renewed does what it did, if its own version knows its period; and what a unit accepts says a version that it takes, and a period that this version knows.
-- A renewed record has the same fields and items, and only the limit of its period is another.
use Rattle.std.specs.Prelude.{Ok, Err}
use mathlib.Core.Path.{◌≡◌, refl}
use mathlib.Core.Bool.{true, false, false≢true, ◌&&◌}
use mathlib.Core.List.{List}
use Prim.Native.Nat.{ℕ, ◌+◌, ◌≤◌, ◌<◌}
use native.Mathlib.Omega.{arith}
use lib.Dec.{eqb, leb}
use lib.ListN.{length, take, drop, get_or, length-append, length-take, length-drop}
use borrow.Author.Tests.{leb-true, leb-false, le-leb, lt-leb, eqb-true}
use Rattle.octets.proofs.NumbersLaws.{length-to_be}
use Rattle.rules.specs.Lists.{zeros, one_of}
use Rattle.rules.specs.Layout.{Version, version_number, version_of, current, longest_period, record_size, record_version}
use Rattle.rules.specs.Record.{Kind, request_of, items_of, version_in, takes_version, record_marked, renewed, longest_asked, allowed, allowed_by, kind_allows, within_limits}
use Rattle.rules.specs.Refusals.{◌then◌, table_verdict, request_verdict, record_verdict, Verdict}
use Rattle.rules.specs.Applied.{outcome, applied}
use Rattle.rules.specs.declared.Request.{Request}
use Rattle.rules.specs.declared.Seconds.{Seconds}
use Rattle.rules.specs.declared.Refusal.{Refusal}
use Rattle.rules.specs.declared.Refusal.TheVariants.{RecordMark}
use Rattle.rules.proofs.TestLaws.{both, and-true, by_test}
use Rattle.rules.proofs.AllLaws.{all_every, all_at}
use Rattle.rules.proofs.StartLaws.{write_limits}
use Rattle.rules.proofs.KindAreaLaws.{kind_by}
use Rattle.rules.proofs.VerdictLaws.{request-accepted, apply_chain}
use Rattle.rules.proofs.AcceptedRecordLaws.{record-accepted}
use Rattle.rules.proofs.LayoutLaws.{number-most, longest-most}
use Rattle.rules.proofs.RenewedLaws.{request-renewed, mark-renewed, version-renewed, zero-renewed, count-renewed, items-renewed, length-renewed}

-- ---- a record and its renewed form

-- a period within both limits is judged alike by both
limits_alike : (a b : Seconds) (q : Request) (items : List ℕ) → q.period.0 ≤ a.0 → q.period.0 ≤ b.0 → within_limits a q items ≡ within_limits b q items
unfolding within_limits
limits_alike a b q items h k = rw (le-leb q.period.0 a.0 h, le-leb q.period.0 b.0 k)

-- bytes too few for a record are still too few
short-renewed : (r : List ℕ) → leb record_size (length r) ≡ false → leb record_size (length (renewed r)) ≡ false
unfolding renewed
short-renewed r s =
    let n : length (renewed r) ≡ length (take 3 r) + 2 + length (drop 5 r) = rw (length-append, length-append, length-to_be 2 record_version) (omega arith) in
    lt-leb record_size (length (renewed r)) (rw (n, length-take, length-drop) (omega (arith, leb-false record_size (length r) s)))

-- and refused, whatever else they say
short-refused : (v : Version) (r : List ℕ) → leb record_size (length r) ≡ false → record_verdict v r ≡ Err RecordMark
unfolding record_verdict record_marked
short-refused v r s = rw s

refused_alike : (w : Verdict) (x : Refusal) (q p : Request) (items others t a : List ℕ) → outcome current (w then Err x) q items t a ≡ outcome current (w then Err x) p others t a
unfolding outcome
refused_alike (Ok tt) x q p items others t a = refl
refused_alike (Err y) x q p items others t a = refl

module _ (r : List ℕ) (taken : takes_version current (version_in r) ≡ true) (known : (request_of r).period.0 ≤ (longest_asked r).0) where
  long-verdict : record_size ≤ length r → record_verdict current (renewed r) ≡ record_verdict current r
  unfolding record_verdict record_marked
  long-verdict long =
      let wide : (longest_asked r).0 ≤ (longest_period current).0 = longest-most (version_of (version_in r)) in
      rw (
        length-renewed r long,
        mark-renewed r long,
        version-renewed r long,
        taken,
        count-renewed r long,
        zero-renewed r long,
        request-renewed r long,
        items-renewed r long,
        limits_alike (longest_period current) (longest_asked r) (request_of r) (items_of r) (omega arith) known,
      )

  pub applied-renewed : (t a : List ℕ) → applied current t (renewed r) a ≡ applied current t r a
  unfolding applied
  applied-renewed t a =
      by_test (leb record_size (length r))
      (λ e. let long = leb-true record_size (length r) e in rw (apply_chain current t (renewed r) (length a), apply_chain current t r (length a), long-verdict long, request-renewed r long, items-renewed r long))
      (λ s. rw (apply_chain current t (renewed r) (length a), apply_chain current t r (length a), short-refused current r s, short-refused current (renewed r) (short-renewed r s)) (refused_alike (table_verdict current t) RecordMark _ _ _ _ t a))

-- ---- what a unit accepts

-- the k-th of the fields that a row of the table of kinds has as zero
zero_field : (q : Request) (flags areas zero : List ℕ) → allowed q flags areas zero ≡ true → (k : ℕ) → k < length zero → get_or zero k 0 ≡ 0
unfolding allowed zeros
zero_field q flags areas zero e k h =
    eqb-true (get_or zero k 0) 0 (all_at (all_every (λ x. eqb x 0) zero (both (one_of q.flags flags && one_of q.area areas) (zeros zero) e).1) k 0 h)

-- a start has a period within the limit, and any other kind none
short-period : (v : Version) (q : Request) (items : List ℕ) → request_verdict (longest_period v) q items ≡ Ok tt → q.period.0 ≤ (longest_period v).0
unfolding kind_allows
short-period v q items e =
    let a = request-accepted (longest_period v) q items e in
    kind_by (λ (k : Kind). allowed_by k q ≡ true → q.period.0 ≤ (longest_period v).0) q.kind
    (λ k h. (write_limits v q items a.limits k).period)
    (λ k h. let z : q.period.0 ≡ 0 = zero_field _ _ _ _ h 1 (omega arith) in omega arith)
    (λ k h. let z : q.period.0 ≡ 0 = zero_field _ _ _ _ h 3 (omega arith) in omega arith)
    (λ k h. let z : q.period.0 ≡ 0 = zero_field _ _ _ _ h 3 (omega arith) in omega arith)
    (λ k h. let z : q.period.0 ≡ 0 = zero_field _ _ _ _ h 3 (omega arith) in omega arith)
    (λ h. absurd (false≢true h))
    a.kind

-- what a unit accepts says a version that it takes, and has a period that this version knows: 0 if it is no start
module _ (v : Version) (r : List ℕ) (e : record_verdict v r ≡ Ok tt) where
  pub taken-version : takes_version v (version_in r) ≡ true
  taken-version = (record-accepted v r e).version

  pub asked-period : (request_of r).period.0 ≤ (longest_asked r).0
  asked-period = short-period (version_of (version_in r)) (request_of r) (items_of r) (record-accepted v r e).request

-- today's unit takes it too
pub still_taken : (v : Version) (n : ℕ) → takes_version v n ≡ true → takes_version current n ≡ true
still_taken v n e =
    let h = both (leb 1 n) (leb n (version_number v)) e in
    and-true (leb 1 n) (leb n (version_number current)) h.0 (le-leb n (version_number current) (omega (arith, leb-true n (version_number v) h.1, number-most v)))

-- What an accepted verdict gives, and what gives one: tests in order, then the tests of a request.
-- By the cases of the first verdict or test; each refusal would be a second value of the same verdict.
use Rattle.std.specs.Prelude.{Ok, Err}
use mathlib.Core.Path.{◌≡◌, refl, sym, ap, ◌∙◌}
use mathlib.Core.Bool.{Bool, true, false, not, ◌&&◌, ◌||◌}
use mathlib.Core.List.{List, [], ◌∷◌, ◌++◌}
use Prim.Native.Nat.{ℕ, ◌+◌, ◌*◌, ◌≤◌}
use native.Mathlib.Omega.{arith}
use lib.Dec.{eqb, ltb, leb}
use lib.ListN.{length}
use borrow.Author.Tests.{not-true, leb-true, le-leb}
use Rattle.rules.specs.Lists.{every}
use Rattle.rules.specs.Layout.{Version, current, longest_period, header_size, cell_size, record_size, item_size, first_sib, last_sib}
use Rattle.rules.specs.Table.{cell_count}
use Rattle.rules.specs.Record.{request_of, item_end, write_replace, kind_allows, area_fits, within_limits, cancels_nothing}
use Rattle.rules.specs.Answer.{room_for}
use Rattle.rules.specs.Refusals.{refuse_unless, ◌then◌, Test, test, first_of, Held, few_items, fits_in, head_count, legal_heads, table_tests, older_tests, request_tests, record_tests, table_verdict, older_verdict, request_verdict, record_verdict, write_verdict, apply_verdict, build_verdict, convert_verdict, Verdict}
use Rattle.rules.specs.declared.Seconds.{Seconds}
use Rattle.rules.specs.declared.Request.{Request}
use Rattle.rules.specs.declared.Refusal.{Refusal}
use Rattle.rules.specs.declared.Refusal.TheVariants.{RecordLength, ShortBuffer, BadHeads}
use Rattle.rules.proofs.TestLaws.{both, or_else, else_or}

-- ---- tests in order

pub then_accepted : (a b : Verdict) → a then b ≡ Ok tt → (a ≡ Ok tt) × (b ≡ Ok tt)
then_accepted (Ok tt) b e = (refl, e)
then_accepted (Err x) b e = let z : ◌≡◌ {A = ℕ} 0 1 = cc in absurd (omega arith)

pub unless_accepted : (b : Bool) (x : Refusal) → refuse_unless b x ≡ Ok tt → b ≡ true
unless_accepted true x e = refl
unless_accepted false x e = let z : ◌≡◌ {A = ℕ} 0 1 = cc in absurd (omega arith)

then_assoc : (a b c : Verdict) → (a then b) then c ≡ a then b then c
then_assoc (Ok tt) b c = refl
then_assoc (Err x) b c = refl

pub then_end : (a : Verdict) → a then (Ok tt) ≡ a
then_end (Ok tt) = refl
then_end (Err x) = refl

-- tests behind tests
pub first_append : (xs ys : List Test) → first_of (xs ++ ys) ≡ first_of xs then first_of ys
first_append [] ys = refl
first_append (t ∷ ts) ys = rw (first_append ts ys) (sym (then_assoc (refuse_unless t.holds t.refusal) (first_of ts) (first_of ys)))

-- and a last one
first-last : (xs : List Test) (b : Bool) (x : Refusal) → first_of (xs ++ (test b x ∷ [])) ≡ first_of xs then refuse_unless b x
first-last xs b x = rw (first_append xs (test b x ∷ []), then_end (refuse_unless b x))

-- what is accepted has passed every test
pub all_held : (ts : List Test) → first_of ts ≡ Ok tt → Held ts
all_held [] e = tt
all_held (t ∷ ts) e =
    let h = then_accepted (refuse_unless t.holds t.refusal) (first_of ts) e in
    (unless_accepted t.holds t.refusal h.0, all_held ts h.1)

-- ---- verdicts that others are part of

pub write_chain : (q : Request) (items : List ℕ) (room : ℕ)
    → write_verdict q items room ≡ refuse_unless (few_items (length items)) RecordLength then request_verdict (longest_period current) q items then refuse_unless (fits_in (record_size + item_size current * length items) room) ShortBuffer
unfolding write_verdict request_verdict
write_chain q items room =
    let few = test (few_items (length items)) RecordLength in
    let asked = request_tests true (longest_period current) q items in
    first-last (few ∷ asked) (fits_in (record_size + item_size current * length items) room) ShortBuffer
    ∙ then_assoc (refuse_unless (few_items (length items)) RecordLength) (first_of asked) _

pub apply_chain : (v : Version) (t r : List ℕ) (room : ℕ)
    → apply_verdict v t r room ≡ table_verdict v t then record_verdict v r then refuse_unless (fits_in (room_for v (request_of r).kind (cell_count t)) room) ShortBuffer
unfolding apply_verdict table_verdict record_verdict
apply_chain v t r room =
    first_append (table_tests v t) (record_tests v r ++ (test (fits_in (room_for v (request_of r).kind (cell_count t)) room) ShortBuffer ∷ []))
    ∙ ap (λ w. first_of (table_tests v t) then w) (first-last (record_tests v r) (fits_in (room_for v (request_of r).kind (cell_count t)) room) ShortBuffer)

pub convert_chain : (old : List ℕ) (room : ℕ)
    → convert_verdict old room ≡ older_verdict old then refuse_unless (fits_in (header_size + cell_size current * cell_count old) room) ShortBuffer
unfolding convert_verdict older_verdict
convert_chain old room = first-last (older_tests old) (fits_in (header_size + cell_size current * cell_count old) room) ShortBuffer

pub build_chain : (heads : List ℕ) (room : ℕ)
    → build_verdict heads room ≡ refuse_unless (legal_heads heads) BadHeads then refuse_unless (fits_in (header_size + cell_size current * head_count heads) room) ShortBuffer
unfolding build_verdict
build_chain heads room = ap (λ w. refuse_unless (legal_heads heads) BadHeads then w) (then_end _)

-- ---- a request

-- under a longest period
pub record AllowedRequest (longest : Seconds) (q : Request) (items : List ℕ) : Type 0 where
  pub kind : kind_allows q ≡ true
  pub area : area_fits q (length items) ≡ true
  pub limits : within_limits longest q items ≡ true
  pub some : cancels_nothing q ≡ false

pub request-accepted : (longest : Seconds) (q : Request) (items : List ℕ) → request_verdict longest q items ≡ Ok tt → AllowedRequest longest q items
unfolding request_verdict
request-accepted longest q items e =
    let h = all_held (request_tests true longest q items) e in
    let fields = both (kind_allows q) (area_fits q (length items)) h.0 in
    record {
      kind = fields.0;
      area = fields.1;
      limits = h.1.0;
      some = not-true (cancels_nothing q) h.1.1.0;
    }

pub accepted-request : (longest : Seconds) (q : Request) (items : List ℕ) → AllowedRequest longest q items → request_verdict longest q items ≡ Ok tt
unfolding request_verdict
accepted-request longest q items a = rw (a.kind, a.area, a.limits, a.some)

-- what is within a limit is within a longer one
within_longer : (a b : Seconds) (q : Request) (items : List ℕ) → a.0 ≤ b.0 → within_limits a q items ≡ true → within_limits b q items ≡ true
unfolding within_limits
within_longer a b q items h e =
    let w = both _ (every (λ x. ltb x (item_end q.area)) items) e in
    let start : not (eqb q.kind write_replace) || leb q.period.0 b.0 && leb first_sib q.sib && leb q.sib last_sib ≡ true =
    else_or (not (eqb q.kind write_replace)) _ λ n.
    let s = both _ (leb q.sib last_sib) (or_else (not (eqb q.kind write_replace)) _ w.0 n) in
    let p = both (leb q.period.0 a.0) (leb first_sib q.sib) s.0 in
    rw (le-leb q.period.0 b.0 (omega (arith, leb-true q.period.0 a.0 p.0)), p.1, s.1) in
    rw (start, w.1)

pub allowed_longer : (a b : Seconds) (q : Request) (items : List ℕ) → a.0 ≤ b.0 → request_verdict a q items ≡ Ok tt → request_verdict b q items ≡ Ok tt
allowed_longer a b q items h e =
    let r = request-accepted a q items e in
    accepted-request b q items
    (record {
      kind = r.kind;
      area = r.area;
      limits = within_longer a b q items h r.limits;
      some = r.some;
    })

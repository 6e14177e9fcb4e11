-- The first stage that refuses decides a call's number, and gives no other numbers than its own.
-- A verdict is a chain of stages; each is taken off its front, by its two cases.
use Rattle.std.specs.Prelude.{Ok, Err}
use mathlib.Core.Path.{◌≡◌, refl, sym, ap, ◌∙◌, subst}
use mathlib.Core.Bool.{Bool, true, false, ◌&&◌}
use mathlib.Core.List.{List, [], ◌∷◌}
use Prim.Native.Nat.{ℕ, ◌≤◌}
use native.Mathlib.Omega.{arith}
use lib.Dec.{leb}
use lib.ListN.{length}
use borrow.Author.Tests.{leb-true}
use Rattle.rules.specs.Lists.{every, ascending}
use Rattle.rules.specs.Layout.{current, longest_period}
use Rattle.rules.specs.Reply.{Row, identities}
use Rattle.rules.specs.Refusals.{number_of, verdict_number, refuse_unless, ◌then◌, Test, first_of, few_items, cancels_some, fits_in, legal_heads, table_tests, older_tests, request_tests, record_tests, table_verdict, older_verdict, request_verdict, record_verdict, Verdict}
use Rattle.rules.specs.declared.Request.{Request}
use Rattle.rules.specs.declared.Refusal.{Refusal}
use Rattle.rules.specs.declared.Refusal.TheVariants.{RecordLength, CancelsNothing, ShortBuffer, BadHeads, ListDamaged, TooManySegments, NoSuchSegment, AnswerWrong}
use Rattle.rules.proofs.TestLaws.{both}
use Rattle.rules.proofs.OutcomeLaws.{number_positive}
use Rattle.answer_judge.specs.Answerable.{answerable}
use Rattle.segments.specs.Segments.{most_segments, lengths_fit, segments_of, whole_list, segment_verdict}
use Rattle.wire.specs.MessageRefusals.{message_tests, message_verdict}
use Rattle.wire.specs.declared.Message.{Message}
use Rattle.demands.specs.Demand1.{Stage, Given, Numbered}

-- ---- the numbers of a verdict

abbrev pub Within : (lowest highest : ℕ) → Verdict → Type 0
Within lowest highest (Ok tt) = Unit
Within lowest highest (Err x) = (lowest ≤ number_of x) × (number_of x ≤ highest)

-- one test more in front
within-next : {lowest highest : ℕ} (b : Bool) (x : Refusal) (w : Verdict) → (lowest ≤ number_of x) × (number_of x ≤ highest) → Within lowest highest w → Within lowest highest (refuse_unless b x then w)
within-next true x w p q = q
within-next false x w p q = p

within-last : {lowest highest : ℕ} (b : Bool) (x : Refusal) → (lowest ≤ number_of x) × (number_of x ≤ highest) → Within lowest highest (refuse_unless b x)
within-last true x p = tt
within-last false x p = p

-- tests whose numbers all lie between two
abbrev between : (lowest highest : ℕ) → Test → Bool
between lowest highest t = leb lowest (number_of t.refusal) && leb (number_of t.refusal) highest

within_first : (lowest highest : ℕ) (ts : List Test) → every (between lowest highest) ts ≡ true → Within lowest highest (first_of ts)
unfolding every
within_first lowest highest [] e = tt
within_first lowest highest (t ∷ ts) e =
    let n = number_of t.refusal in
    let first = both (leb lowest n && leb n highest) (every (between lowest highest) ts) e in
    let ends = both (leb lowest n) (leb n highest) first.0 in
    within-next t.holds t.refusal (first_of ts) (leb-true lowest n ends.0, leb-true n highest ends.1) (within_first lowest highest ts first.1)

pub within-table : (t : List ℕ) → Within 1 2 (table_verdict current t)
unfolding table_verdict every
within-table t = within_first 1 2 (table_tests current t) refl

pub within-older : (old : List ℕ) → Within 1 2 (older_verdict old)
unfolding older_verdict every
within-older old = within_first 1 2 (older_tests old) refl

pub within-room : (need room : ℕ) → Within 8 8 (refuse_unless (fits_in need room) ShortBuffer)
within-room need room = within-last (fits_in need room) ShortBuffer (omega arith, omega arith)

pub within-heads : (heads : List ℕ) → Within 9 9 (refuse_unless (legal_heads heads) BadHeads)
within-heads heads = within-last (legal_heads heads) BadHeads (omega arith, omega arith)

pub within-items : (items : List ℕ) → Within 4 4 (refuse_unless (few_items (length items)) RecordLength)
within-items items = within-last (few_items (length items)) RecordLength (omega arith, omega arith)

pub within-lengths : (lengths : List ℕ) (bytes : ℕ) → Within 10 10 (refuse_unless (lengths_fit lengths bytes) ListDamaged)
within-lengths lengths bytes = within-last (lengths_fit lengths bytes) ListDamaged (omega arith, omega arith)

pub within_count : (lengths : List ℕ) → Within 11 11 (refuse_unless (leb (length lengths) most_segments) TooManySegments)
within_count lengths = within-last (leb (length lengths) most_segments) TooManySegments (omega arith, omega arith)

pub within-asked : (q : Request) (items : List ℕ) → Within 5 7 (request_verdict (longest_period current) q items)
unfolding request_verdict every
within-asked q items = within_first 5 7 (request_tests true (longest_period current) q items) refl

pub within-record : (r : List ℕ) → Within 3 7 (record_verdict current r)
unfolding record_verdict every
within-record r = within_first 3 7 (record_tests current r) refl

pub within-segment : (more : List ℕ) (k : ℕ) → Within 10 12 (segment_verdict more k)
unfolding segment_verdict
within-segment more k =
    within-next (whole_list more) ListDamaged _ (omega arith, omega arith)
    (within-next (leb (length (segments_of more)) most_segments) TooManySegments _ (omega arith, omega arith)
    (within-last (leb k (length (segments_of more))) NoSuchSegment (omega arith, omega arith)))

pub within-message : (m : Message) (message : List ℕ) → Within 13 16 (message_verdict m message)
unfolding message_verdict every
within-message m message = within_first 13 16 (message_tests m message) refl

pub within-rows : (rows : List Row) → Within 17 17 (refuse_unless (ascending (identities rows)) AnswerWrong)
within-rows rows = within-last (ascending (identities rows)) AnswerWrong (omega arith, omega arith)

pub within-answer : (answer : List ℕ) → Within 17 17 (refuse_unless (answerable answer) AnswerWrong)
within-answer answer = within-last (answerable answer) AnswerWrong (omega arith, omega arith)

pub within-cancels : (request : Request) → Within 7 7 (refuse_unless (cancels_some request) CancelsNothing)
within-cancels request = within-last (cancels_some request) CancelsNothing (omega arith, omega arith)

-- ---- stages, one behind the other

abbrev pub chain : List Stage → Verdict
chain [] = Ok tt
chain (s ∷ []) = s.verdict
chain (s ∷ next ∷ later) = s.verdict then chain (next ∷ later)

abbrev pub EachWithin : List Stage → Type 0
EachWithin [] = Unit
EachWithin (s ∷ later) = Within s.lowest s.highest s.verdict × EachWithin later

-- no refusal is acceptance
apart : (x : Refusal) → ◌≡◌ {A = Verdict} (Ok tt) (Err x) → ⊥
apart x e = let z : 0 ≡ number_of x = ap verdict_number e in omega (arith, number_positive x)

module _ (lowest highest : ℕ) where
  stage_last : (v : Verdict) → Within lowest highest v → Given (verdict_number v) (record { lowest = lowest; highest = highest; verdict = v } ∷ [])
  stage_last (Ok tt) p = (λ x e. absurd (apart x e), λ e. refl)
  stage_last (Err y) p = (λ x e. (ap verdict_number e, p.0, p.1), ap verdict_number)

  stage_next : (v w : Verdict) → Within lowest highest v → (later : List Stage) → Given (verdict_number w) later
      → Given (verdict_number (v then w)) (record { lowest = lowest; highest = highest; verdict = v } ∷ later)
  stage_next (Ok tt) w p later g = (λ x e. absurd (apart x e), λ e. g)
  stage_next (Err y) w p later g = (λ x e. (ap verdict_number e, p.0, p.1), λ e. absurd (apart y (sym e)))

by_stages : (stages : List Stage) → EachWithin stages → Given (verdict_number (chain stages)) stages
by_stages [] w = refl
by_stages (s ∷ []) w = stage_last s.lowest s.highest s.verdict w.0
by_stages (s ∷ next ∷ later) w = stage_next s.lowest s.highest s.verdict (chain (next ∷ later)) w.0 (next ∷ later) (by_stages (next ∷ later) w.1)

pub numbered : (stages : List Stage) → EachWithin stages → (v : Verdict) → v ≡ chain stages → (n : ℕ) → n ≡ verdict_number v → Numbered n v stages
numbered stages w v c n e =
    record { its_verdict = e; by_stages = subst (λ k. Given k stages) (sym (e ∙ ap verdict_number c)) (by_stages stages w) }

-- Laws of one request: an accepted one leaves an answer that lies in its buffer, and what is told of either is what `said_of` says.
-- By the two cases of the verdict, and of what the library returned.
use Rattle.std.specs.Prelude.{Ok, Err}
use mathlib.Core.Path.{◌≡◌, refl, sym, ap, subst, ◌∙◌}
use mathlib.Core.Bool.{false}
use mathlib.Core.List.{List}
use Prim.Native.Nat.{ℕ, ◌+◌, ◌*◌, ◌≤◌}
use native.Mathlib.Omega.{arith}
use lib.Dec.{eqb}
use lib.ListN.{length, take}
use lib.Seq.{length-sets, length-take-le}
use borrow.Author.Tests.{ne_eqb}
use Rattle.octets.specs.Runs.{Bytes}
use Rattle.rules.specs.Layout.{current, answer_size, row_size, places_per_cell, most_cells}
use Rattle.rules.specs.Answer.{row_count, answer_of, answer_bytes}
use Rattle.rules.specs.Refusals.{number_of, apply_verdict, Verdict, Writing}
use Rattle.rules.specs.Applied.{Outcome, answered, outcome, outcome_by, applied}
use Rattle.rules.specs.declared.Refusal.{Refusal}
use Rattle.rules.proofs.AppliedLaws.{answer-fits, applied-answer, applied-written}
use Rattle.rules.proofs.LegalAnswerLaws.{legal-answer}
use Rattle.rules.proofs.AnsweredLaws.{applied-answer-legal}
use Rattle.rules.proofs.OutcomeLaws.{number_positive}
use Rattle.report_lines.specs.Text.{answer_text, no_text, said_of}
use Rattle.report_lines.specs.Framing.{stops_at}
use Rattle.report_turns.specs.Report.{answer_room}
use Rattle.report_lines.specs.Told.{Tells}
use Rattle.report_lines.specs.declared.text.Text.{Text}
use Rattle.report_turns.specs.Next.{next_behind}
use Rattle.report_turns.specs.declared.Next.{Next}
use Rattle.report_turns.specs.declared.Next.TheVariants.{Go}
use Rattle.report_turns.specs.Serve.{Served}
use Rattle.report_turns.proofs.RoomLaws.{room_of}

-- ---- an answer lies in its buffer

-- the first n bytes are a whole answer
pub record Lies (n : ℕ) (told : List ℕ) : Type 0 where
  pub most : n ≤ length told
  pub size : length (take n told) ≡ n
  pub whole : n ≡ answer_size current + row_size current * row_count current (take n told)

module _ (t r a : List ℕ) (bt : Bytes t) (br : Bytes r) where
  accepted-lies : apply_verdict current t r (length a) ≡ Ok tt → Lies (applied current t r a).length (applied current t r a).answer
  accepted-lies v =
      let n = applied-written current t r a bt br v in
      let b : length (applied current t r a).answer ≡ length a = rw (applied-answer current t r a bt br v) (length-sets a 0 (answer_bytes current (answered current t r))) in
      let most : (applied current t r a).length ≤ length (applied current t r a).answer = omega (arith, n, b, answer-fits current t r a bt br v) in
      let size = length-take-le (applied current t r a).length (applied current t r a).answer most in
      record { most = most; size = size; whole = sym size ∙ (legal-answer current _ (applied-answer-legal current t r a bt br v)).size }

  by_verdict : (v : Verdict) → apply_verdict current t r (length a) ≡ v → (n : ℕ) (t' a' : List ℕ) → outcome_by (Ok n) t' a' ≡ applied current t r a → Lies n a'
  unfolding applied outcome
  by_verdict (Ok tt) v n t' a' e = subst (λ (o : Outcome). Lies o.length o.answer) (sym e) (accepted-lies v)
  by_verdict (Err x) v n t' a' e =
      let z : 0 ≡ number_of x = ap (λ (o : Outcome). o.number) e ∙ rw v in
      absurd (omega (arith, number_positive x))

  pub written-lies : (x : Writing) (n : ℕ) (t' a' : List ℕ) → outcome_by x t' a' ≡ applied current t r a → x ≡ Ok n → Lies n a'
  written-lies x n t' a' e w = by_verdict (apply_verdict current t r (length a)) refl n t' a' (rw w at e)

-- so its rows have room in the text
pub rows_fit : {n : ℕ} {told : List ℕ} → Lies n told → length told ≤ answer_room most_cells → row_count current (take n told) ≤ places_per_cell * most_cells
rows_fit l k = omega (arith, l.most, l.whole, k, room_of most_cells)

-- ---- what is told

module _ (t r a t' a' : List ℕ) (s s' : Text) (x : Writing) (e : outcome_by x t' a' ≡ applied current t r a) where
  pub served-ok : (n : ℕ) → x ≡ Ok n → Tells s (answer_text (answer_of current (take n a'))) s' → Served t r a s t' a' s' Go
  unfolding said_of stops_at
  served-ok n w told =
      let o : outcome_by (Ok n) t' a' ≡ applied current t r a = rw w at e in
      record {
        table = ap (λ (y : Outcome). y.table) o;
        answer = ap (λ (y : Outcome). y.answer) o;
        text = rw (← o) told;
        comes = rw (← o);
      }

  pub served-no : (y : Refusal) (number : ℕ) (next : Next) → x ≡ Err y → number ≡ number_of y → next ≡ next_behind number
      → Tells s (no_text number) s' → Served t r a s t' a' s' next
  unfolding said_of
  served-no y number next w k p told =
      let o : outcome_by (Err y) t' a' ≡ applied current t r a = rw w at e in
      let z : eqb (number_of y) 0 ≡ false = ne_eqb (number_of y) 0 (λ (h : number_of y ≡ 0). omega (arith, number_positive y)) in
      record {
        table = ap (λ (y : Outcome). y.table) o;
        answer = ap (λ (y : Outcome). y.answer) o;
        text = rw (← o, z, ← k) told;
        comes = rw (← o, ← k) p;
      }

-- What `open_table` and its parts find at the front of the bytes at hand, and what they do with it, is the turn that the definition has.
use Rattle.std.specs.Prelude.{Option, Some, None, is_none, Ok, Err}
use mathlib.Core.Path.{◌≡◌, refl, sym, ap, ◌∙◌}
use mathlib.Core.Bool.{Bool, false, cond, ◌||◌}
use mathlib.Core.List.{List, [], ◌++◌}
use Prim.Native.Nat.{ℕ, ◌+◌, ◌*◌, ◌≤◌, ◌<◌}
use native.Mathlib.Omega.{arith}
use lib.ListN.{length, take, drop, take-append-drop}
use lib.Seq.{length-take-le}
use borrow.Author.Tests.{le-leb, lt-leb, ne_eqb}
use Rattle.rules.specs.Layout.{current, head_size}
use Rattle.rules.specs.Refusals.{number_of, Writing}
use Rattle.rules.specs.Applied.{Filled, filled_by, built}
use Rattle.rules.specs.declared.Refusal.{Refusal}
use Rattle.rules.proofs.OutcomeLaws.{number_positive, built-refused}
use Rattle.report_lines.specs.Text.{no_text}
use Rattle.report_lines.specs.Told.{Tells}
use Rattle.report_lines.specs.Framing.{count_size, cells_named, heads_end}
use Rattle.report_lines.specs.declared.text.Text.{Text}
use Rattle.report_lines.proofs.TextLaws.{tells_none}
use Rattle.report_turns.specs.Report.{answer_room, table_size, heads_there}
use Rattle.report_turns.specs.Serve.{most_text}
use Rattle.report_turns.specs.Turns.{Program, no_cells, waiting, stopping, opened, opens}
use Rattle.report_turns.specs.Buffers.{Stepped, program_in}
use Rattle.report_turns.specs.declared.Took.{Took}
use Rattle.report_turns.specs.declared.Next.{Next}
use Rattle.report_turns.specs.declared.Next.TheVariants.{Go, Wait, Stop}
use Rattle.report_turns.proofs.OpeningLaws.{within}
use Rattle.report_turns.proofs.StoredLaws.{sets_all, sets-take, part-stored}

-- what was not left unwritten was written
pub written-if : (w : Writing) → ((x : Refusal) → w ≡ Err x → ⊥) → (n : ℕ) × (w ≡ Ok n)
written-if (Ok n) not = (n, refl)
written-if (Err x) not = absurd (not x refl)

-- ---- N and the heads

pub there-short : (l : List ℕ) → length l < count_size → None ≡ heads_there l
there-short l h = rw (lt-leb count_size (length l) h)

module _ (l : List ℕ) (n : ℕ) (e : Some n ≡ cells_named l) (long : count_size ≤ length l) where
  pub there-cut : length l < count_size + head_size current * n → None ≡ heads_there l
  there-cut h = rw (le-leb count_size (length l) long, ← e, lt-leb (heads_end n) (length l) h)

  pub there_all : count_size + head_size current * n ≤ length l → Some n ≡ heads_there l
  there_all h = rw (le-leb count_size (length l) long, ← e, le-leb (heads_end n) (length l) h)

pub there-within : (l : List ℕ) (n : ℕ) → Some n ≡ heads_there l → heads_end n ≤ length l
there-within l n e = within l n (sym e)

pub none-short : (l : List ℕ) → length l < count_size → false ≡ no_cells l
none-short l h = rw (lt-leb count_size (length l) h)

pub none_named : (l : List ℕ) {n : Option ℕ} → n ≡ cells_named l → count_size ≤ length l → (b : Bool) → b ≡ is_none n → b ≡ no_cells l
none_named l e long b t = rw (le-leb count_size (length l) long, ← e) t

-- ---- no table

-- nothing is taken, and the buffers are as they were
none_stepped : (p : Program) → p.cells ≡ None → (s s' : Text) (text : List ℕ) (next : Next) → Tells s text s' → s'.at ≤ s.at + most_text
    → Stepped (record { said = text; program = p; taken = 0; next = next }) p.table p.answer s (record { cells = None; bytes = 0; next = next }) p.table p.answer s'
none_stepped p none s s' text next e m =
    record {
      cells = sym none;
      bytes = refl;
      next = refl;
      text = e;
      table = sym (sets_all p.table);
      answer = sym (sets_all p.answer);
      sized = λ n k. let no : None ≡ Some n = sym none ∙ k in cc;
      most = m;
    }

pub stopping_stepped : (p : Program) → p.cells ≡ None → (s s' : Text) (number : ℕ) → Tells s (no_text number) s' → s'.at ≤ s.at + most_text
    → Stepped (stopping (no_text number) p) p.table p.answer s (record { cells = None; bytes = 0; next = Stop }) p.table p.answer s'
stopping_stepped p none s s' number = none_stepped p none s s' (no_text number) Stop

pub waiting_stepped : (p : Program) → p.cells ≡ None → (s : Text)
    → Stepped (waiting p) p.table p.answer s (record { cells = None; bytes = 0; next = Wait }) p.table p.answer s
waiting_stepped p none s = none_stepped p none s s [] Wait (tells_none s) (omega arith)

-- ---- the builder's answer

module _ (n : ℕ) (heads t a buffer' : List ℕ) (s : Text) (x : Writing) (e : filled_by x buffer' ≡ built heads (take (table_size n) t)) where
  abbrev asked : Program
  asked = record { cells = None; table = t; answer = a }

  pub refused_stepped : (y : Refusal) (m : ℕ) (r : Took) (s' : Text) → x ≡ Err y → m ≡ number_of y → Stepped (stopping (no_text m) asked) t a s r t a s'
      → Stepped (opened n (program_in None t a) (built heads (take (table_size n) t))) t a s r (buffer' ++ drop (table_size n) t) a s'
  unfolding opened program_in
  refused_stepped y m r s' w k told =
      let o : filled_by (Err y) buffer' ≡ built heads (take (table_size n) t) = rw w at e in
      let number : number_of y ≡ (built heads (take (table_size n) t)).number = ap (λ (f : Filled). f.number) o in
      let some : (built heads (take (table_size n) t)).number ≡ 0 → ⊥ = λ (z : (built heads (take (table_size n) t)).number ≡ 0). omega (arith, number_positive y, number) in
      let same : buffer' ≡ take (table_size n) t = ap (λ (f : Filled). f.buffer) o ∙ (built-refused heads (take (table_size n) t) some).1 in
      rw (same, take-append-drop (table_size n) t, ne_eqb (built heads (take (table_size n) t)).number 0 some, ← number, ← k) told

  pub made_stepped : (m : ℕ) → x ≡ Ok m → length buffer' ≡ table_size n → table_size n ≤ length t → answer_room n ≤ length a
      → Stepped (opened n (program_in None t a) (built heads (take (table_size n) t))) t a s
      (record { cells = Some n; bytes = heads_end n; next = Go }) (buffer' ++ drop (table_size n) t) a s
  unfolding opened program_in
  made_stepped m w long h room =
      let o : filled_by (Ok m) buffer' ≡ built heads (take (table_size n) t) = rw w at e in
      rw (← o)
      record {
        cells = refl;
        bytes = refl;
        next = refl;
        text = tells_none s;
        table = part-stored t buffer' (table_size n) long h;
        answer = sym (sets-take a (answer_room n));
        sized = λ k e. let same : n ≡ k = cc in rw (← same) (long, length-take-le (answer_room n) a room);
        most = omega arith;
      }

-- ---- which of the two

module _ (l : List ℕ) (ended : Bool) (t a : List ℕ) (s : Text) (r : Took) (s' : Text) where
  pub unopened_stepped : None ≡ heads_there l → (none : Bool) → none ≡ no_cells l
      → Stepped (cond (ended || none) (stopping (no_text 9) (record { cells = None; table = t; answer = a })) (waiting (record { cells = None; table = t; answer = a }))) t a s r t a s'
      → Stepped (opens ended (program_in None t a) l) t a s r t a s'
  unfolding opens program_in
  unopened_stepped e none k told = rw (← e, ← k) told

  pub opened_stepped : (n : ℕ) → Some n ≡ heads_there l → (size : ℕ) → size ≡ head_size current * n → (t' : List ℕ)
      → Stepped (opened n (program_in None t a) (built (take size (drop count_size l)) (take (table_size n) t))) t a s r t' a s'
      → Stepped (opens ended (program_in None t a) l) t a s r t' a s'
  unfolding opens program_in
  opened_stepped n e size h t' told = rw (← e) (rw h at told)

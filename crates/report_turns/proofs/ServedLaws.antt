-- What `serve_next` does is the turn that the definition has once there is a table: a request served in the front parts of its buffers, or
-- nothing yet.
use Rattle.std.specs.Prelude.{Some, None}
use mathlib.Core.Path.{◌≡◌, refl, sym, ◌∙◌}
use mathlib.Core.Bool.{Bool, true, false}
use mathlib.Core.List.{List, [], ◌++◌}
use Prim.Native.Nat.{ℕ, ◌+◌, ◌≤◌}
use native.Mathlib.Omega.{arith}
use lib.ListN.{length, take, drop}
use lib.Seq.{length-take-le}
use Rattle.report_lines.specs.Framing.{frame_of}
use Rattle.report_lines.specs.declared.text.Text.{Text}
use Rattle.report_lines.proofs.TextLaws.{tells_none}
use Rattle.report_turns.specs.Report.{answer_room, table_size}
use Rattle.report_turns.specs.Serve.{most_text, Served}
use Rattle.report_turns.specs.Turns.{Program, served, serves}
use Rattle.report_turns.specs.Buffers.{Stepped, program_in}
use Rattle.report_turns.specs.declared.Next.{Next}
use Rattle.report_turns.specs.declared.Next.TheVariants.{Wait, Stop}
use Rattle.report_turns.proofs.StoredLaws.{sets-take, part-stored}

module _ (n : ℕ) (t a : List ℕ) (s : Text) (th : table_size n ≤ length t) (ah : answer_room n ≤ length a) where
  abbrev program : Program
  program = record { cells = Some n; table = take (table_size n) t; answer = take (answer_room n) a }

  -- nothing is taken: it waits, or stops at the end of the input
  idle : (next : Next)
      → Stepped (record { said = []; program = program; taken = 0; next = next }) t a s (record { cells = Some n; bytes = 0; next = next }) t a s
  idle next =
      record {
        cells = refl;
        bytes = refl;
        next = refl;
        text = tells_none s;
        table = sym (sets-take t (table_size n));
        answer = sym (sets-take a (answer_room n));
        sized = λ k e. let same : n ≡ k = cc in rw (← same) (length-take-le (table_size n) t th, length-take-le (answer_room n) a ah);
        most = omega arith;
      }

  module _ (l : List ℕ) (ended : Bool) where
    pub stops_stepped : None ≡ frame_of l ended → ended ≡ true
        → Stepped (serves ended (program_in (Some n) t a) l) t a s (record { cells = Some n; bytes = 0; next = Stop }) t a s
    unfolding serves program_in
    stops_stepped e z = rw (← e, z) (idle Stop)

    pub waits_stepped : None ≡ frame_of l ended → ended ≡ false
        → Stepped (serves ended (program_in (Some n) t a) l) t a s (record { cells = Some n; bytes = 0; next = Wait }) t a s
    unfolding serves program_in
    waits_stepped e z = rw (← e, z) (idle Wait)

    pub request_stepped : (size : ℕ) → Some size ≡ frame_of l ended → (room : ℕ) → room ≡ answer_room n → (t' a' : List ℕ) (s' : Text) (x : Next)
        → Served (take (table_size n) t) (take size l) (take room a) s t' a' s' x
        → s'.at ≤ s.at + most_text → length t' ≡ table_size n → length a' ≡ room
        → Stepped (serves ended (program_in (Some n) t a) l) t a s (record { cells = Some n; bytes = size; next = x })
        (t' ++ drop (table_size n) t) (a' ++ drop room a) s'
    unfolding serves served program_in
    request_stepped size e room k t' a' s' x told m tl al =
        let told : Served (take (table_size n) t) (take size l) (take (answer_room n) a) s t' a' s' x = rw k at told in
        let al : length a' ≡ answer_room n = al ∙ k in
        rw (k, ← e)
        record {
          cells = refl;
          bytes = refl;
          next = told.comes;
          text = told.text;
          table = rw (← told.table) (part-stored t t' (table_size n) tl th);
          answer = rw (← told.answer) (part-stored a a' (answer_room n) al ah);
          sized = λ j e. let same : n ≡ j = cc in rw (← same) (rw (← told.table) tl, rw (← told.answer) al);
          most = m;
        }

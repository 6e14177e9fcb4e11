-- Whatever `turn` returns and leaves under its promise, call after call, is what the definition says turn after turn.
-- Along the calls, with what each leaves (CalledLaws): what was written, and what is to be said behind the text that is there.
use Rattle.std.specs.Prelude.{Option}
use mathlib.Core.Path.{◌≡◌, refl, sym, ap, ◌∙◌}
use mathlib.Core.Bool.{Bool, true, false, true≢false}
use mathlib.Core.List.{List, [], ◌∷◌, ◌++◌, append_assoc, append-nil}
use Prim.Native.Nat.{ℕ}
use lib.ListN.{take, drop}
use Rattle.report_turns.specs.Turns.{Program, Step, step, Spoken, stops as spoken_stops, goes as spoken_goes, reads as spoken_reads, finds_the_end as spoken_end}
use Rattle.report_turns.specs.Buffers.{program_in, held_in}
use Rattle.report_turns.specs.Talk.{Called, Fed, Talk, stops, goes, writes, reads, finds_the_end, TalkReports}
use Rattle.report_turns.specs.declared.Next.TheVariants.{Go, Wait, Stop}
use Rattle.report_turns.specs.declared.Stand.{Stand}
use Rattle.report_turns.proofs.StepLaws.{Does, stopped, waited, went, step_does}
use Rattle.report_turns.proofs.CalledLaws.{turn_of, program_of, held_after, text-after, program-after}
use Rattle.report_turns.proofs.CutAnywhere.{cut_anywhere}

-- ---- call after call

respoken : {e f : Bool} {p q : Program} {l m : List ℕ} {pieces : List (List ℕ)} {rest : List ℕ} → e ≡ f → p ≡ q → l ≡ m → Spoken e p l pieces rest → Spoken f q m pieces rest
respoken d e f s = rw (← d, ← e, ← f) s

reads_spoken : (e : Bool) (p : Program) (l piece : List ℕ) (pieces : List (List ℕ)) (rest : List ℕ) → e ≡ false → (step e p l).next ≡ Wait
    → Spoken false p (l ++ piece) pieces rest → Spoken e p l (piece ∷ pieces) rest
reads_spoken true p l piece pieces rest f w s = absurd (true≢false f)
reads_spoken false p l piece pieces rest f w s = spoken_reads w s

ends_spoken : (e : Bool) (p : Program) (l rest : List ℕ) → e ≡ false → (step e p l).next ≡ Wait → Spoken true p l [] rest → Spoken e p l [] rest
ends_spoken true p l rest f w s = absurd (true≢false f)
ends_spoken false p l rest f w s = spoken_end w s

-- what is written, and what the definition has to say behind the text that was there
abbrev SaidBehind : Stand → (input t a out : List ℕ) → List (List ℕ) → List ℕ → Type 0
SaidBehind s input t a out pieces text =
    (rest : List ℕ) × Spoken s.ended (program_in s.cells t a) (held_in s input) pieces rest × (text ≡ take s.at out ++ rest)

module _ {s : Stand} {input t a out : List ℕ} {s' : Stand} {t' a' out' : List ℕ} (c : Called s input t a out s' t' a' out') where
  abbrev l : List ℕ
  l = held_in s input

  stops-behind : (pieces : List (List ℕ)) → s'.next ≡ Stop → SaidBehind s input t a out pieces (take s'.at out')
  stops-behind pieces e = by (step_does (program_of c) l s.ended)
    where
      by : Does s.ended (program_of c) (turn_of c) → SaidBehind s input t a out pieces (take s'.at out')
      by (stopped f) = ((turn_of c).said, spoken_stops f, text-after c)
      by (waited f w) = let z : Stop ≡ Wait = sym e ∙ c.did.next ∙ ap (λ (y : Step). y.next) w in cc
      by (went f k) = let z : Stop ≡ Go = sym e ∙ c.did.next ∙ f in cc

  -- the turn went on: its text stands behind what was there, and what is said behind both follows
  goes_spoken : (pieces : List (List ℕ)) (rest : List ℕ) → s'.next ≡ Go → Spoken s'.ended (program_in s'.cells t' a') (held_in s' input) pieces rest
      → Spoken s.ended (program_of c) l pieces ((turn_of c).said ++ rest)
  goes_spoken pieces rest e r = spoken_goes (sym c.did.next ∙ e) (respoken c.did.ended (program-after c) (held_after c) r)

  behind : (rest : List ℕ) → take s'.at out' ++ rest ≡ take s.at out ++ ((turn_of c).said ++ rest)
  behind rest = ap (λ (y : List ℕ). y ++ rest) (text-after c) ∙ append_assoc (take s.at out) (turn_of c).said rest

  -- the turn waited: nothing was said or done
  record Waited : Type 0 where
    open_still : s.ended ≡ false
    waits_there : (turn_of c).next ≡ Wait
    same-program : program_in s'.cells t' a' ≡ program_of c
    same-held : held_in s' input ≡ l
    no-text : take s'.at out' ≡ take s.at out

  did-wait : s'.next ≡ Wait → Waited
  did-wait e = by (step_does (program_of c) l s.ended)
    where
      by : Does s.ended (program_of c) (turn_of c) → Waited
      by (stopped f) = let z : Wait ≡ Stop = sym e ∙ c.did.next ∙ f in cc
      by (went f k) = let z : Wait ≡ Go = sym e ∙ c.did.next ∙ f in cc
      by (waited f w) =
          record {
            open_still = f;
            waits_there = ap (λ (y : Step). y.next) w;
            same-program = program-after c ∙ ap (λ (y : Step). y.program) w;
            same-held = held_after c ∙ ap (λ (y : Step). drop y.taken l) w;
            no-text = text-after c ∙ ap (λ (y : Step). take s.at out ++ y.said) w ∙ append-nil (take s.at out);
          }

  fed_spoken : (w : Waited) (piece input' : List ℕ) (over : Bool) (s'' : Stand) (pieces : List (List ℕ)) (rest : List ℕ) → Fed s' input piece over s'' input'
      → Spoken s''.ended (program_in s''.cells t' a') (held_in s'' input') pieces rest → Spoken over (program_of c) (l ++ piece) pieces rest
  fed_spoken w piece input' over s'' pieces rest f r =
      respoken f.ended (ap (λ (n : Option ℕ). program_in n t' a') f.cells ∙ w.same-program) (f.held ∙ ap (λ (y : List ℕ). y ++ piece) w.same-held) r

  fed_text : (w : Waited) (piece input' : List ℕ) (over : Bool) (s'' : Stand) (text rest : List ℕ) → Fed s' input piece over s'' input' → text ≡ take s''.at out' ++ rest
      → take s'.at out' ++ text ≡ take s.at out ++ rest
  fed_text w piece input' over s'' text rest f e =
      ap (λ (y : List ℕ). take s'.at out' ++ y) (e ∙ ap (λ (n : ℕ). take n out' ++ rest) f.at) ∙ ap (λ (y : List ℕ). y ++ rest) w.no-text

talk_said : {s : Stand} {input t a out : List ℕ} {pieces : List (List ℕ)} {text : List ℕ} → Talk s input t a out pieces text → SaidBehind s input t a out pieces text
talk_said {pieces} (stops c e) = stops-behind c pieces e
talk_said {pieces} (goes c e next) =
    let r = talk_said next in
    ((turn_of c).said ++ r.0, goes_spoken c pieces r.0 e r.1, r.2 ∙ behind c r.0)
talk_said {pieces} (writes {s'} {out'} c e next) =
    let r = talk_said next in
    ((turn_of c).said ++ r.0, goes_spoken c pieces r.0 e r.1, ap (λ (y : List ℕ). take s'.at out' ++ y) r.2 ∙ behind c r.0)
talk_said {s} {input} (reads {s'} {s''} {out'} {piece} {input'} {pieces} {text} c e f next) =
    let r = talk_said next in
    let w = did-wait c e in
    let rest = fed_spoken c w piece input' false s'' pieces r.0 f r.1 in
    (r.0, reads_spoken s.ended (program_of c) (held_in s input) piece pieces r.0 w.open_still w.waits_there rest, fed_text c w piece input' false s'' text r.0 f r.2)
talk_said {s} {input} (finds_the_end {s'} {s''} {out'} {input'} {text} c e f next) =
    let r = talk_said next in
    let w = did-wait c e in
    let rest = respoken refl refl (append-nil (held_in s input)) (fed_spoken c w [] input' true s'' [] r.0 f r.1) in
    (r.0, ends_spoken s.ended (program_of c) (held_in s input) r.0 w.open_still w.waits_there rest, fed_text c w [] input' true s'' text r.0 f r.2)

pub talk_reports : TalkReports
unfolding program_in
talk_reports input out pieces text talk =
    let r = talk_said talk in
    r.2 ∙ cut_anywhere pieces r.0 r.1

-- What one call of `turn` leaves is what the definition's turn does: the program in the buffers is the step's, the bytes at hand are those
-- behind what it took, and its text stands behind the text that was there.
use Rattle.std.specs.Prelude.{Option, Some, None}
use mathlib.Core.Path.{◌≡◌, refl, sym, ap, ◌∙◌}
use mathlib.Core.List.{List, ◌++◌}
use Prim.Native.Nat.{ℕ, ◌+◌, ◌-◌, ◌≤◌}
use native.Mathlib.Omega.{arith}
use lib.ListN.{length, take, drop, length-append}
use lib.Seq.{sets, drop-drop, sets-eq, take_at, length-take-le}
use Rattle.std.proofs.lemmas.Slice.{between_is}
use Rattle.octets.proofs.RunsLaws.{take-sets_front}
use Rattle.rules.specs.Layout.{most_cells}
use Rattle.report_turns.specs.Turns.{Program, Sized, Step}
use Rattle.report_turns.specs.Buffers.{program_in, held_in, step_of}
use Rattle.report_turns.specs.Talk.{Called}
use Rattle.report_turns.specs.declared.Stand.{Stand}
use Rattle.report_turns.proofs.RequestLaws.{by_some}
use Rattle.report_turns.proofs.RoomLaws.{room_within}
use Rattle.report_turns.proofs.StoredLaws.{sets_all}
use Rattle.report_turns.proofs.StepLaws.{still_none}

-- ---- lists

further : (from to k : ℕ) (l : List ℕ) → take (to - (from + k)) (drop (from + k) l) ≡ drop k (take (to - from) (drop from l))
further from to k l =
    let e : to - (from + k) ≡ to - from - k = omega arith in
    rw (e, ← drop-drop k from l) (between_is (drop from l) k (to - from))

stored-text : (out said : List ℕ) (at : ℕ) → at + length said ≤ length out → take (at + length said) (sets out at said) ≡ take at out ++ said
stored-text out said at h =
    let n : length (take at out ++ said) ≡ at + length said = length-append (take at out) said ∙ ap (λ (k : ℕ). k + length said) (length-take-le at out (omega arith)) in
    rw (sets-eq said out at h) (take_at (take at out ++ said) (drop (at + length said) out) (at + length said) n)

-- ---- the program in its buffers

none_in : (cells : Option ℕ) (t a : List ℕ) → (program_in cells t a).cells ≡ None → program_in cells t a ≡ record { cells = None; table = t; answer = a }
unfolding program_in
none_in None t a z = refl
none_in (Some n) t a z = cc

some_in : (t a : List ℕ) (p : Program) (n : ℕ) → p.cells ≡ Some n → Sized p → length p.table ≤ length t → length p.answer ≤ length a
    → program_in p.cells (sets t 0 p.table) (sets a 0 p.answer) ≡ p
unfolding program_in
some_in t a p n some sized h g =
    let z = sized n some in
    rw (some, ← z.0, ← z.1, take-sets_front t p.table h, take-sets_front a p.answer g)

-- stored in the buffers, a program stands in them
module _ (cells : Option ℕ) (t a t' a' : List ℕ) (q : Program) (e : cells ≡ q.cells) (h : t' ≡ sets t 0 q.table) (g : a' ≡ sets a 0 q.answer) where
  none_after : q ≡ record { cells = None; table = t; answer = a } → program_in cells t' a' ≡ q
  unfolding program_in
  none_after k = rw (e, h, g, k, sets_all t, sets_all a)

  some_after : (n : ℕ) → q.cells ≡ Some n → Sized q → length q.table ≤ length t → length q.answer ≤ length a → program_in cells t' a' ≡ q
  some_after n some sized k m = rw (e, h, g) (some_in t a q n some sized k m)

-- ---- one call

module _ {s : Stand} {input t a out : List ℕ} {s' : Stand} {t' a' out' : List ℕ} (c : Called s input t a out s' t' a' out') where
  abbrev pub turn_of : Step
  turn_of = step_of s input t a

  abbrev pub program_of : Program
  program_of = program_in s.cells t a

  pub held_after : held_in s' input ≡ drop turn_of.taken (held_in s input)
  held_after = rw (c.did.to, c.did.from) (further s.from s.to turn_of.taken input)

  pub text-after : take s'.at out' ≡ take s.at out ++ turn_of.said
  text-after =
      rw (c.did.text.stored, c.did.text.ends)
      (stored-text out turn_of.said s.at (omega (arith, c.did.text.ends, c.did.most, c.may.to_take.text-room)))

  pub program-after : program_in s'.cells t' a' ≡ turn_of.program
  program-after = by_some turn_of.program.cells none some
    where
      none : turn_of.program.cells ≡ None → program_in s'.cells t' a' ≡ turn_of.program
      none z =
          let same : turn_of.program ≡ program_of = still_none s.ended program_of (held_in s input) z in
          let zero : program_of.cells ≡ None = sym (ap (λ (q : Program). q.cells) same) ∙ z in
          none_after s'.cells t a t' a' turn_of.program c.did.cells c.did.table c.did.answer (same ∙ none_in s.cells t a zero)

      some : (n : ℕ) → turn_of.program.cells ≡ Some n → program_in s'.cells t' a' ≡ turn_of.program
      some n e =
          let z = c.did.sized n e in
          let b = c.may.to_take in
          let few : n ≤ most_cells = rw (c.did.cells, e) at c.did.few in
          let room = room_within n (length a) few b.answer-room in
          some_after s'.cells t a t' a' turn_of.program c.did.cells c.did.table c.did.answer n e c.did.sized
          (omega (arith, z.0, few, b.table-room)) (omega (arith, z.1, room))

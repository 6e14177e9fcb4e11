-- What is said of the requests to come does not depend on the bound on their number, and the first of them is what one turn serves.
-- Each takes a byte at least, so as many as there are bytes are enough.
use Rattle.std.specs.Prelude.{Option, Some, None}
use Rattle.std.specs.Bool.{then_some}
use mathlib.Core.Path.{◌≡◌, refl, ap, ◌∙◌}
use mathlib.Core.Bool.{Bool, true, false, cond, not, ◌&&◌}
use mathlib.Core.List.{List, [], ◌++◌}
use Prim.Native.Nat.{ℕ, zero, suc, ◌-◌, ◌≤◌, ◌<◌}
use native.Mathlib.Omega.{arith}
use lib.Dec.{eqb, leb}
use lib.ListN.{length, take, drop, length-drop}
use borrow.Author.Tests.{eq-eqb, eqb-true, eqb-false, leb-true, lt-leb}
use Rattle.rules.specs.Layout.{current}
use Rattle.rules.specs.Applied.{Outcome, applied}
use Rattle.rules.proofs.TestLaws.{by_test}
use Rattle.report_lines.specs.Text.{said_of}
use Rattle.report_lines.specs.Framing.{own_size, frame_of, stops_at}
use Rattle.report_lines.proofs.Framed.{own-least}
use Rattle.report_turns.specs.Report.{requests_said}

-- by the two cases of an option
pub by_some : {P : Type 0} (o : Option ℕ) → (o ≡ None → P) → ((n : ℕ) → o ≡ Some n → P) → P
by_some None f g = f refl
by_some (Some n) f g = g n refl

-- ---- a record at hand

pub record Framed (l : List ℕ) (size : ℕ) : Type 0 where
  pub some : 0 < size
  pub within : size ≤ length l

framed-left : (l : List ℕ) (ended : Bool) (size : ℕ) → then_some (ended && not (eqb (length l) 0)) (length l) ≡ Some size → Framed l size
framed-left l true size e =
    by_test (eqb (length l) 0) (λ (t : eqb (length l) 0 ≡ true). let none : None ≡ Some size = rw t at e in cc)
    (λ (t : eqb (length l) 0 ≡ false).
    let some : Some (length l) ≡ Some size = rw t at e in
    let same : length l ≡ size = cc in
    let more : length l ≡ 0 → ⊥ = eqb-false (length l) 0 t in
    record { some = omega arith; within = omega arith })
framed-left l false size e = let none : None ≡ Some size = e in cc

pub framed : (l : List ℕ) (ended : Bool) (size : ℕ) → frame_of l ended ≡ Some size → Framed l size
unfolding frame_of
framed l ended size e =
    by_test (leb (own_size l) (length l))
    (λ (t : leb (own_size l) (length l) ≡ true).
    let some : Some (own_size l) ≡ Some size = rw t at e in
    let same : own_size l ≡ size = cc in
    let within : own_size l ≤ length l = leb-true (own_size l) (length l) t in
    record { some = omega (arith, own-least l); within = omega arith })
    (λ (t : leb (own_size l) (length l) ≡ false). framed-left l ended size (rw t at e))

-- at the end of the input there is none only where nothing is left
pub none-left : (l : List ℕ) → frame_of l true ≡ None → length l ≡ 0
unfolding frame_of
none-left l e =
    by_test (leb (own_size l) (length l)) (λ (t : leb (own_size l) (length l) ≡ true). let some : Some (own_size l) ≡ None = rw t at e in cc)
    (λ (t : leb (own_size l) (length l) ≡ false). by_test (eqb (length l) 0) (λ (z : eqb (length l) 0 ≡ true). eqb-true (length l) 0 z)
    (λ (z : eqb (length l) 0 ≡ false). let some : Some (length l) ≡ None = rw (t, z) at e in cc))

left-none : (l : List ℕ) → length l ≡ 0 → frame_of l true ≡ None
unfolding frame_of
left-none l e = rw (lt-leb (own_size l) (length l) (omega (arith, own-least l)), eq-eqb (length l) 0 e)

-- ---- the bound

less_left : (l : List ℕ) (k size : ℕ) → frame_of l true ≡ Some size → length l ≤ suc k → length (drop size l) ≤ k
less_left l k size e g = let f = framed l true size e in omega (arith, length-drop size l, f.some, f.within)

enough : (k m : ℕ) (t a l : List ℕ) → length l ≤ k → length l ≤ m → requests_said k t a l ≡ requests_said m t a l
unfolding requests_said
enough zero zero t a l h g = refl
enough zero (suc m) t a l h g = rw (left-none l (omega arith))
enough (suc k) zero t a l h g = rw (left-none l (omega arith))
enough (suc k) (suc m) t a l h g =
    by_some (frame_of l true) (λ (e : frame_of l true ≡ None). rw e)
    (λ (size : ℕ) (e : frame_of l true ≡ Some size).
    let o : Outcome = applied current t (take size l) a in
    rw e (ap (λ (x : List ℕ). said_of o ++ cond (stops_at o.number) [] x) (enough k m _ _ _ (less_left l k size e h) (less_left l m size e g))))

-- ---- the first request

pub said-none : (k : ℕ) (t a l : List ℕ) → length l ≡ 0 → requests_said k t a l ≡ []
unfolding requests_said
said-none zero t a l e = refl
said-none (suc k) t a l e = rw (left-none l e)

said_more : (t a l : List ℕ) (size : ℕ) → frame_of l true ≡ Some size → (k : ℕ)
    → let o = applied current t (take size l) a in
    requests_said (suc k) t a l ≡ said_of o ++ cond (stops_at o.number) [] (requests_said k o.table o.answer (drop size l))
unfolding requests_said
said_more t a l size e k = rw e

-- with all that is left behind it
pub said-first : (t a l : List ℕ) (size : ℕ) → frame_of l true ≡ Some size
    → let o = applied current t (take size l) a in
    let rest = drop size l in
    requests_said (length l) t a l ≡ said_of o ++ cond (stops_at o.number) [] (requests_said (length rest) o.table o.answer rest)
said-first t a l size e =
    let o : Outcome = applied current t (take size l) a in
    let rest : List ℕ = drop size l in
    let k : ℕ = length l - 1 in
    let f = framed l true size e in
    let long : length l ≤ suc k = omega (arith, f.some, f.within) in
    enough (length l) (suc k) t a l (omega arith) long
    ∙ said_more t a l size e k
    ∙ ap (λ (x : List ℕ). said_of o ++ cond (stops_at o.number) [] x) (enough k (length rest) o.table o.answer rest (less_left l k size e long) (omega arith))

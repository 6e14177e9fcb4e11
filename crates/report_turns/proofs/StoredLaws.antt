-- Storing what is there already changes nothing; and a part at the front of a buffer that was lent and came back is stored there.
use mathlib.Core.Path.{◌≡◌, sym, ap, ◌∙◌}
use mathlib.Core.Bool.{true, false}
use mathlib.Core.List.{List, ◌++◌, append-nil}
use Prim.Native.Nat.{ℕ, ◌≤◌}
use native.Mathlib.Omega.{arith}
use lib.Dec.{leb}
use lib.ListN.{length, take, drop, take-append-drop}
use lib.Seq.{sets, drop-length, length-take-le, take_all}
use borrow.Author.Tests.{leb-true, leb-false}
use Rattle.octets.proofs.RunsLaws.{sets_front}
use Rattle.rules.proofs.TestLaws.{by_test}

pub sets_all : (l : List ℕ) → sets l 0 l ≡ l
sets_all l = sets_front l l (omega arith) ∙ ap (λ (x : List ℕ). l ++ x) (drop-length l) ∙ append-nil l

pub part-stored : (l part : List ℕ) (n : ℕ) → length part ≡ n → n ≤ length l → part ++ drop n l ≡ sets l 0 part
part-stored l part n e h = rw (← e) (sym (sets_front l part (omega arith)))

pub sets-take : (l : List ℕ) (n : ℕ) → sets l 0 (take n l) ≡ l
sets-take l n =
    by_test (leb n (length l))
    (λ (t : leb n (length l) ≡ true).
    let h : n ≤ length l = leb-true n (length l) t in
    sym (part-stored l (take n l) n (length-take-le n l h) h) ∙ take-append-drop n l)
    (λ (t : leb n (length l) ≡ false). rw (take_all n l (omega (arith, leb-false n (length l) t))) (sets_all l))

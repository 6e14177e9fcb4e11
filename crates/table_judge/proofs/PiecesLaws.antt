-- The last places of a cell written out, and what is lent of a table.
-- By `drop-drop`: where code writes places out, their pieces are written out too.
use mathlib.Core.Path.{◌≡◌}
use mathlib.Core.Bool.{Bool, ◌&&◌, and_assoc, and-true}
use mathlib.Core.List.{List}
use Prim.Native.Nat.{ℕ, ◌+◌, ◌*◌, ◌-◌, ◌≤◌}
use native.Mathlib.Omega.{arith}
use lib.ListN.{length, take, drop, length-drop}
use lib.Seq.{take_all, drop-drop}
use Rattle.octets.specs.Runs.{gets, pieces}
use Rattle.octets.proofs.RunsLaws.{gets_eq}
use Rattle.rules.specs.Lists.{every}

-- ---- one to four places, written out

module _ (f : List ℕ → Bool) (l : List ℕ) (i left : ℕ) (fits : i + 24 * left ≤ length l) where
  pub every_1 : left ≡ 1 → f (gets l i 24) ≡ every f (pieces 24 left (drop i l))
  unfolding every pieces
  every_1 e = rw (e, gets_eq 24 l i (omega arith), and-true)

  pub every_2 : left ≡ 2 → f (gets l i 24) && f (gets l (i + 24) 24) ≡ every f (pieces 24 left (drop i l))
  unfolding every pieces
  every_2 e =
      rw (e, gets_eq 24 l i (omega arith), gets_eq 24 l (i + 24) (omega arith)) (simp (drop-drop, and-true))

  pub every_3 : left ≡ 3 → f (gets l i 24) && f (gets l (i + 24) 24) && f (gets l (i + 48) 24) ≡ every f (pieces 24 left (drop i l))
  unfolding every pieces
  every_3 e =
      let third : i + 24 + 24 ≡ i + 48 = omega arith in
      rw (e, gets_eq 24 l i (omega arith), gets_eq 24 l (i + 24) (omega arith), gets_eq 24 l (i + 48) (omega arith))
      (simp (drop-drop, third, and-true, and_assoc))

  pub every_4 : left ≡ 4 → f (gets l i 24) && f (gets l (i + 24) 24) && f (gets l (i + 48) 24) && f (gets l (i + 72) 24) ≡ every f (pieces 24 left (drop i l))
  unfolding every pieces
  every_4 e =
      let third : i + 24 + 24 ≡ i + 48 = omega arith in
      let fourth : i + 48 + 24 ≡ i + 72 = omega arith in
      rw (e, gets_eq 24 l i (omega arith), gets_eq 24 l (i + 24) (omega arith), gets_eq 24 l (i + 48) (omega arith), gets_eq 24 l (i + 72) (omega arith))
      (simp (drop-drop, third, fourth, and-true, and_assoc))

-- ---- what is lent

-- all from index n on
pub take_rest : (n : ℕ) (l : List ℕ) → take (length l - n) (drop n l) ≡ drop n l
take_rest n l = take_all (length l - n) (drop n l) (rw length-drop (omega arith))

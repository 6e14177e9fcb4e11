-- The test that numbers fit a layout's fields, and the evidence that they do: each gives the other.
-- By the layout, one field at a time; so what a test of decoded numbers found serves every law of layouts.
use mathlib.Core.Path.{◌≡◌, refl, ◌∙◌}
use mathlib.Core.Bool.{true, false≢true}
use mathlib.Core.List.{List, [], ◌∷◌, append-nil}
use Prim.Native.Nat.{ℕ, ◌^◌}
use native.Mathlib.Omega.{arith}
use borrow.Author.Tests.{ltb-true, lt-ltb}
use lib.Dec.{ltb}
use lib.ListN.{length, length-append}
use lib.Seq.{take_all}
use Rattle.octets.specs.Runs.{Bytes}
use Rattle.octets.specs.Fields.{size, numbers, bytes_of, Fit, none, field}
use Rattle.octets.proofs.NumbersLaws.{length-to_be}
use Rattle.octets.proofs.FieldsLaws.{numbers_bytes_of, bytes_of_numbers}
use Rattle.rules.specs.Sound.{fits}
use Rattle.rules.proofs.TestLaws.{both, and-true}

pub fits-Fit : (ws vs : List ℕ) → fits ws vs ≡ true → Fit ws vs
unfolding fits
fits-Fit [] [] e = none
fits-Fit [] (v ∷ vs) e = absurd (false≢true e)
fits-Fit (w ∷ ws) [] e = absurd (false≢true e)
fits-Fit (w ∷ ws) (v ∷ vs) e =
    let h = both (ltb v (256 ^ w)) (fits ws vs) e in
    field (ltb-true v (256 ^ w) h.0) (fits-Fit ws vs h.1)

pub Fit-fits : (ws vs : List ℕ) → Fit ws vs → fits ws vs ≡ true
unfolding fits
Fit-fits [] [] none = refl
Fit-fits (w ∷ ws) (v ∷ vs) (field h f) =
    and-true (ltb v (256 ^ w)) (fits ws vs) (lt-ltb v (256 ^ w) h) (Fit-fits ws vs f)
Fit-fits [] (v ∷ vs) x'' = elim x'' [ ]
Fit-fits (w ∷ ws) [] x3 = elim x3 [ ]

-- ---- what a layout's user needs beside the laws of layouts

pub numbers-written : (ws vs : List ℕ) → Fit ws vs → numbers ws (bytes_of ws vs) ≡ vs
numbers-written ws vs f = rw append-nil at (numbers_bytes_of ws vs [] f)

pub numbers-again : (ws l : List ℕ) → Bytes l → length l ≡ size ws → bytes_of ws (numbers ws l) ≡ l
numbers-again ws l b e = bytes_of_numbers ws l b (omega arith) ∙ take_all (size ws) l (omega arith)

-- as many bytes as the layout has, whether the numbers fit or not
pub length-written : (ws vs : List ℕ) → length vs ≡ length ws → length (bytes_of ws vs) ≡ size ws
unfolding bytes_of size
length-written [] vs e = refl
length-written (w ∷ ws) [] e = absurd (omega arith)
length-written (w ∷ ws) (v ∷ vs) e = rw (length-append, length-to_be, length-written ws vs (omega arith))

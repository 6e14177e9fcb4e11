-- Bytes copied one by one, or sixteen at a time, of which the last sixteen may be stored over some of those before them.
-- Stores one behind the other are one store (`sets-run`), and one over another is the later of both (`sets-sets`).
use mathlib.Core.Path.{◌≡◌, refl, sym, ap, ◌∙◌}
use mathlib.Core.List.{List, ◌++◌}
use Prim.Native.Nat.{ℕ, ◌+◌, ◌-◌, ◌<◌, ◌≤◌}
use native.Mathlib.Omega.{arith}
use lib.ListN.{length, take, drop, set, get_or, length-set, length-drop}
use lib.Seq.{sets, length-sets, length-take-le, take_all, take-add}
use Rattle.octets.specs.Runs.{gets, Bytes}
use Rattle.octets.specs.Numbers.{be, to_be}
use Rattle.octets.proofs.RunsLaws.{gets_eq, gets_run, length-gets, sets-run, sets-sets, sets_more}
use Rattle.octets.proofs.NumbersLaws.{to_be-gets}

-- ---- sixteen bytes

pub copied_16 : (to from : List ℕ) {mid to' : List ℕ} {front back : ℕ} (at i : ℕ) → Bytes from → front ≡ be (gets from i 8) → back ≡ be (gets from (i + 8) 8)
    → mid ≡ sets to at (to_be 8 front) → to' ≡ sets mid (at + 8) (to_be 8 back) → to' ≡ sets to at (gets from i 16)
copied_16 to from at i bytes f b e e' =
    rw (e', e, f, b, to_be-gets 8 from i bytes, to_be-gets 8 from (i + 8) bytes)
    (sets-run (gets from i 8) (gets from (i + 8) 8) to at (at + 8) (rw length-gets) ∙ ap (sets to at) (gets_run 8 from i (i + 8) 8 refl))

-- ---- the loop

-- the first i bytes of `from` are stored, and all else is as it was
pub record Copying (to₀ : List ℕ) (at : ℕ) (from to : List ℕ) (i : ℕ) : Type 0 where
  pub within : i ≤ length from
  pub long : length to ≡ length to₀
  pub stored : to ≡ sets to₀ at (take i from)

pub copying_starts : (to : List ℕ) (at : ℕ) (from : List ℕ) → Copying to at from to 0
copying_starts to at from = record { within = omega arith; long = refl; stored = refl }

module _ {to₀ : List ℕ} {at : ℕ} {from to : List ℕ} {i : ℕ} (g : Copying to₀ at from to i) where
  -- a turn stores the next sixteen where the first i end: by equations, so that an index may be spelled in another way
  pub copying_goes : i + 16 ≤ length from → (to' : List ℕ) → {a j : ℕ} → to' ≡ sets to a (gets from j 16) → a ≡ at + i → j ≡ i → Copying to₀ at from to' (i + 16)
  copying_goes more to' {a} {j} e where_to where_from =
      let seam : at + i ≡ at + length (take i from) = ap (λ (n : ℕ). at + n) (sym (length-take-le i from g.within)) in
      let next : to' ≡ sets to (at + i) (gets from i 16) = rw (e, where_to, where_from) in
      record {
        within = more;
        long = ap length next ∙ length-sets to (at + i) (gets from i 16) ∙ g.long;
        stored = next ∙ ap (λ (l : List ℕ). sets l (at + i) (gets from i 16)) g.stored ∙ sets-run (take i from) (gets from i 16) to₀ at (at + i) seam
            ∙ ap (λ (b : List ℕ). sets to₀ at (take i from ++ b)) (gets_eq 16 from i more) ∙ ap (sets to₀ at) (sym (take-add i 16 from));
      }

  pub copying_one : i < length from → Copying to₀ at from (set to (at + i) (get_or from i 0)) (i + 1)
  copying_one more =
      record {
        within = omega arith;
        long = length-set to (at + i) (get_or from i 0) ∙ g.long;
        stored = rw g.stored (sets_more to₀ from at i more);
      }

  pub copying_all : length from ≤ i → to ≡ sets to₀ at from
  copying_all all = g.stored ∙ rw (take_all i from all)

  -- the last sixteen, from j on, are stored over what stands there of them
  module _ (j : ℕ) (last : j + 16 ≡ length from) (reached : j ≤ i) where
    front : List ℕ
    front = sets to₀ at (take j from)

    up_to-j : length (take j from) ≡ j
    up_to-j = length-take-le j from (omega arith)

    seam : at + j ≡ at + length (take j from)
    seam = ap (λ (n : ℕ). at + n) (sym up_to-j)

    parted : to ≡ sets front (at + j) (take (i - j) (drop j from))
    unfolding front
    parted =
        let sum : i ≡ j + (i - j) = omega arith in
        g.stored ∙ ap (λ (n : ℕ). sets to₀ at (take n from)) sum ∙ ap (sets to₀ at) (take-add j (i - j) from)
        ∙ sym (sets-run (take j from) (take (i - j) (drop j from)) to₀ at (at + j) seam)

    pub copying_ends : (to' : List ℕ) → to' ≡ sets to (at + j) (gets from j 16) → to' ≡ sets to₀ at from
    unfolding front
    copying_ends to' e =
        let sixteen : length (gets from j 16) ≡ 16 = length-gets 16 from j in
        let rest : length (take (i - j) (drop j from)) ≡ i - j = length-take-le (i - j) (drop j from) (rw (length-drop j from) (omega (arith, g.within))) in
        e ∙ ap (λ (l : List ℕ). sets l (at + j) (gets from j 16)) parted
        ∙ sets-sets (take (i - j) (drop j from)) (gets from j 16) front (at + j) (omega (arith, g.within))
        ∙ sets-run (take j from) (gets from j 16) to₀ at (at + j) seam ∙ ap (λ (b : List ℕ). sets to₀ at (take j from ++ b)) (gets_eq 16 from j (omega arith))
        ∙ ap (sets to₀ at) (sym (take-add j 16 from) ∙ take_all (j + 16) from (omega arith))

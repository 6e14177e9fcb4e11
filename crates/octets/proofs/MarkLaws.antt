-- A mark of three bytes and a version of two, tested by one wider read and a byte: what the four bytes and the fifth say decides both.
-- The fourth byte is the version's upper one; it is zero on either side.
use mathlib.Core.Path.{◌≡◌, refl, sym}
use mathlib.Core.Bool.{Bool, true, false, ◌&&◌}
use mathlib.Core.List.{List}
use Prim.Native.Nat.{ℕ, ◌+◌, ◌*◌, ◌<◌}
use native.Mathlib.Omega.{arith}
use lib.Dec.{eqb}
use borrow.Author.Tests.{eqb-true, eq-eqb}
use Rattle.std.proofs.lemmas.Bool.{and_parts}
use Rattle.octets.specs.Runs.{gets, Bytes}
use Rattle.octets.specs.Numbers.{be}
use Rattle.octets.proofs.NumbersLaws.{be-gets_lt, be-run}

-- two tests that hold together or not at all
same_test : (a b : Bool) → (a ≡ true → b ≡ true) → (b ≡ true → a ≡ true) → a ≡ b
same_test true b f g = sym (f refl)
same_test false true f g = g refl
same_test false false f g = refl

module _ (l : List ℕ) (b : Bytes l) (mark version : ℕ) (small : version < 256) where
  abbrev wide : Bool
  wide = eqb (be (gets l 0 4)) (mark * 256) && eqb (be (gets l 4 1)) version

  abbrev fields : Bool
  fields = eqb (be (gets l 0 3)) mark && eqb (be (gets l 3 2)) version

  -- the fourth byte, in both readings
  first : be (gets l 0 3) * 256 + be (gets l 3 1) ≡ be (gets l 0 4)
  first = be-run 3 1 l 0 3 refl

  second : be (gets l 3 1) * 256 + be (gets l 4 1) ≡ be (gets l 3 2)
  second = be-run 1 1 l 3 4 refl

  by_wide : wide ≡ true → fields ≡ true
  by_wide e =
      let t = and_parts (eqb (be (gets l 0 4)) (mark * 256)) (eqb (be (gets l 4 1)) version) e in
      let x = eqb-true (be (gets l 0 4)) (mark * 256) t.0 in
      let y = eqb-true (be (gets l 4 1)) version t.1 in
      let h = be-gets_lt 1 3 l b in
      rw (
        eq-eqb (be (gets l 0 3)) mark (omega (arith, x, first, h)),
        eq-eqb (be (gets l 3 2)) version (omega (arith, x, y, first, second, h)),
      )

  by_fields : fields ≡ true → wide ≡ true
  by_fields e =
      let t = and_parts (eqb (be (gets l 0 3)) mark) (eqb (be (gets l 3 2)) version) e in
      let x = eqb-true (be (gets l 0 3)) mark t.0 in
      let y = eqb-true (be (gets l 3 2)) version t.1 in
      rw (
        eq-eqb (be (gets l 0 4)) (mark * 256) (omega (arith, x, y, first, second, small)),
        eq-eqb (be (gets l 4 1)) version (omega (arith, y, second, small)),
      )

  pub mark_and_version : eqb (be (gets l 0 4)) (mark * 256) && eqb (be (gets l 4 1)) version ≡ eqb (be (gets l 0 3)) mark && eqb (be (gets l 3 2)) version
  mark_and_version = same_test wide fields by_wide by_fields

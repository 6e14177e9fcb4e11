-- The element at an index, case by case, by what its readers find.
use mathlib.Core.Path.{◌≡◌, refl, sym, ap, ◌∙◌}
use mathlib.Core.List.{List}
use Rattle.std.specs.Prelude.{Some, None}
use Prim.Native.Nat.{ℕ, ◌+◌, ◌-◌, ◌/◌, ◌%◌, ◌<◌, ◌≤◌}
use native.Mathlib.Omega.{arith}
use lib.Dec.{eqb, ltb}
use lib.ListN.{length, take, drop, length-drop}
use lib.Seq.{length-take-le}
use borrow.Author.Tests.{lt-ltb, ltb-true, ltb-false, eq-eqb, ne_eqb, eqb-true, eqb-false}
use Rattle.octets.specs.Runs.{gets}
use Rattle.octets.specs.Numbers.{be}
use Rattle.formats.specs.Format.{nothing, found, number, opaque, pair, behind, only, as_if, inside}
use Rattle.aper.specs.Elements.{determinant, open_type, Element, two_bits, head, under, holding, plain}
use Rattle.aper.specs.Readers.{LengthAt, ElementAt}
use Rattle.aper.specs.declared.Length.{Length}
use Rattle.rules.proofs.TestLaws.{by_test}
use Rattle.formats.proofs.ReadLaws.{number_cut, number-found, run-cut, run-found}

module _ (l : List ℕ) (at : ℕ) where
  absent : plain.parse (drop at l) ≡ nothing → ElementAt l at None
  absent e = record { says = sym e; lies = tt }

  no-id : at ≤ length l → length l < at + 2 → plain.parse (drop at l) ≡ nothing
  unfolding holding under head only behind as_if pair
  no-id k h = rw (number_cut l at 2 (at + 2) refl k h)

  no_bits : at + 2 ≤ length l → length l < at + 3 → plain.parse (drop at l) ≡ nothing
  unfolding holding under head only behind as_if pair two_bits
  no_bits k h = rw (number-found l at 2 (at + 2) refl k, number_cut l (at + 2) 1 (at + 3) (omega arith) k h)

  pub head-cut : at ≤ length l → length l - at < 3 → ElementAt l at None
  head-cut k h =
      by_test (ltb (length l) (at + 2))
      (λ t. absent (no-id k (omega (arith, ltb-true (length l) (at + 2) t))))
      (λ t. absent (no_bits (omega (arith, ltb-false (length l) (at + 2) t)) (omega arith)))

  module _ (id b : ℕ) (long : at + 3 ≤ length l) (id_here : id ≡ be (gets l at 2)) (bits_here : b ≡ be (gets l (at + 2) 1)) where
    id-found : (number 2).parse (drop at l) ≡ found id (drop (at + 2) l)
    id-found = number-found l at 2 (at + 2) refl (omega arith) ∙ ap (λ (n : ℕ). found n (drop (at + 2) l)) (sym id_here)

    byte_found : (number 1).parse (drop (at + 2) l) ≡ found b (drop (at + 3) l)
    byte_found = number-found l (at + 2) 1 (at + 3) (omega arith) long ∙ ap (λ (n : ℕ). found n (drop (at + 3) l)) (sym bits_here)

    pub padding-set : (b % 64 ≡ 0 → ⊥) → ElementAt l at None
    padding-set h = absent (refused h)
      where
        refused : (b % 64 ≡ 0 → ⊥) → plain.parse (drop at l) ≡ nothing
        refused h = unfold holding under head only behind as_if pair two_bits in rw (id-found, byte_found, ne_eqb (b % 64) 0 h)

    module _ (padded : b % 64 ≡ 0) where
      bits-found : two_bits.parse (drop (at + 2) l) ≡ found (b / 64) (drop (at + 3) l)
      unfolding two_bits only as_if
      bits-found = rw (byte_found, eq-eqb (b % 64) 0 padded)

      no-contents : open_type.parse (drop (at + 3) l) ≡ nothing → plain.parse (drop at l) ≡ nothing
      unfolding holding under head only behind as_if pair inside
      no-contents e = rw (id-found, bits-found, e)

      pub length_bad : LengthAt l (at + 3) None → ElementAt l at None
      length_bad read = absent (no-contents (bad (sym read.says)))
        where
          bad : determinant.parse (drop (at + 3) l) ≡ nothing → open_type.parse (drop (at + 3) l) ≡ nothing
          bad e = unfold open_type only behind in rw e

      module _ (it : Length) (read : LengthAt l (at + 3) (Some it)) where
        later : at + 3 < it.start
        later = read.lies.0

        behind-it : it.start ≤ length l
        behind-it = read.lies.1

        said : determinant.parse (drop (at + 3) l) ≡ found it.of (drop it.start l)
        said = sym read.says

        pub nothing-inside : it.of ≡ 0 → ElementAt l at None
        nothing-inside e = absent (no-contents empty)
          where
            empty : open_type.parse (drop (at + 3) l) ≡ nothing
            empty = unfold open_type only behind in rw (said, e, run-found l it.start 0 it.start (omega arith) behind-it)

        pub contents-cut : length l - it.start < it.of → ElementAt l at None
        contents-cut h = absent (no-contents short)
          where
            short : open_type.parse (drop (at + 3) l) ≡ nothing
            short = unfold open_type only behind in rw (said, run-cut l it.start it.of (it.start + it.of) refl behind-it (omega (arith, behind-it)))

        module _ (some : it.of ≡ 0 → ⊥) (fits : it.of ≤ length l - it.start) where
          contents-found : open_type.parse (drop (at + 3) l) ≡ found (take it.of (drop it.start l)) (drop (it.start + it.of) l)
          unfolding open_type only behind
          contents-found =
              let whole : it.of ≤ length (drop it.start l) = rw length-drop (omega (arith, behind-it)) in
              let long : length (take it.of (drop it.start l)) ≡ it.of = length-take-le it.of (drop it.start l) whole in
              rw (said, run-found l it.start it.of (it.start + it.of) refl (omega (arith, behind-it)), long, lt-ltb 0 it.of (omega (arith, some)))

          this : Element (List ℕ)
          this = record { id = id; criticality = b / 64; contents = take it.of (drop it.start l) }

          this_found : plain.parse (drop at l) ≡ found this (drop (it.start + it.of) l)
          unfolding holding under head behind as_if pair inside opaque this
          this_found = rw (id-found, bits-found, contents-found)

          told : found (record { id = id; criticality = b / 64; contents = take (it.start + it.of - it.start) (drop it.start l) }) (drop (it.start + it.of) l) ≡ found this (drop (it.start + it.of) l)
          unfolding this
          told = let same : it.start + it.of - it.start ≡ it.of = omega arith in rw same

          pub one-there : ElementAt l at (Some (record { id = id; criticality = b / 64; start = it.start; end = it.start + it.of }))
          one-there = record { says = told ∙ sym this_found; lies = (omega (arith, later), omega (arith, behind-it), omega arith) }

-- ---- where an element is known to be, its length tells where it ends

module _ (l : List ℕ) (at : ℕ) (k : at ≤ length l) (is : ElementAt l at None → ⊥) where
  pub head-there : at + 3 ≤ length l
  head-there = by_test (ltb (length l) (at + 3)) (λ t. absurd (is (head-cut l at k (omega (arith, ltb-true (length l) (at + 3) t))))) (λ t. ltb-false (length l) (at + 3) t)

  padding_unset : be (gets l (at + 2) 1) % 64 ≡ 0
  padding_unset =
      by_test (eqb (be (gets l (at + 2) 1) % 64) 0)
      (λ t. eqb-true (be (gets l (at + 2) 1) % 64) 0 t)
      (λ t. absurd (is (padding-set l at (be (gets l at 2)) (be (gets l (at + 2) 1)) head-there refl refl (eqb-false (be (gets l (at + 2) 1) % 64) 0 t))))

  pub length-there : LengthAt l (at + 3) None → ⊥
  length-there read = is (length_bad l at (be (gets l at 2)) (be (gets l (at + 2) 1)) head-there refl refl padding_unset read)

  pub by_length : (it : Length) → LengthAt l (at + 3) (Some it) → ElementAt l at (Some (record { id = be (gets l at 2); criticality = be (gets l (at + 2) 1) / 64; start = it.start; end = it.start + it.of }))
  by_length it read =
      by_test (eqb it.of 0)
      (λ t. absurd (is (nothing-inside l at (be (gets l at 2)) (be (gets l (at + 2) 1)) head-there refl refl padding_unset it read (eqb-true it.of 0 t))))
      (λ t.
      by_test (ltb (length l - it.start) it.of)
      (λ u. absurd (is (contents-cut l at (be (gets l at 2)) (be (gets l (at + 2) 1)) head-there refl refl padding_unset it read (ltb-true (length l - it.start) it.of u))))
      (λ u. one-there l at (be (gets l at 2)) (be (gets l (at + 2) 1)) head-there refl refl padding_unset it read (eqb-false it.of 0 t) (ltb-false (length l - it.start) it.of u)))

-- The length at an index, case by case, by the byte that stands there and the one behind it.
use mathlib.Core.Path.{◌≡◌, refl, sym, ◌∙◌}
use mathlib.Core.Bool.{cond, ◌&&◌}
use mathlib.Core.List.{List, [], ◌∷◌}
use Rattle.std.specs.Prelude.{Some, None}
use Prim.Native.Nat.{ℕ, ◌+◌, ◌-◌, ◌*◌, ◌<◌, ◌≤◌}
use native.Mathlib.Omega.{arith}
use native.Mathlib.Numerals.{add-one}
use lib.Dec.{leb, ltb}
use lib.ListN.{length, get_or, drop, drop_of_length-le}
use lib.Seq.{drop-cons}
use borrow.Author.Tests.{lt-ltb, le-ltb, le-leb, lt-leb}
use Rattle.formats.specs.Format.{nothing, found}
use Rattle.aper.specs.Elements.{long_in, length_in, determinant}
use Rattle.aper.specs.Readers.{LengthAt}

module _ (l : List ℕ) (at : ℕ) where
  absent : determinant.parse (drop at l) ≡ nothing → LengthAt l at None
  absent e = record { says = sym e; lies = tt }

  pub length_none : length l ≤ at → LengthAt l at None
  length_none h = absent (ends h)
    where
      ends : length l ≤ at → determinant.parse (drop at l) ≡ nothing
      ends h = unfold determinant length_in in rw (drop_of_length-le l h)

  module _ (b : ℕ) (inside : at < length l) (here : b ≡ get_or l at 0) where
    short-there : b < 128 → determinant.parse (drop at l) ≡ found b (drop (at + 1) l)
    unfolding determinant length_in
    short-there h = rw (drop-cons l at 0 inside, ← here, lt-ltb b 128 h, add-one at)

    pub length-short : b < 128 → LengthAt l at (Some (record { of = b; start = at + 1 }))
    length-short h = record { says = sym (short-there h); lies = (omega arith, omega arith) }

    long-there : 128 ≤ b → determinant.parse (drop at l) ≡ long_in b (drop (at + 1) l)
    unfolding determinant length_in
    long-there h = rw (drop-cons l at 0 inside, ← here, le-ltb b 128 h, add-one at)

    fragmented : 192 ≤ b → (r : List ℕ) → long_in b r ≡ nothing
    unfolding long_in
    fragmented h [] = refl
    fragmented h (c ∷ r) = rw (le-ltb b 192 h)

    pub length-fragmented : 192 ≤ b → LengthAt l at None
    length-fragmented h = absent (long-there (omega arith) ∙ fragmented h (drop (at + 1) l))

    cut : length l ≤ at + 1 → long_in b (drop (at + 1) l) ≡ nothing
    unfolding long_in
    cut h = rw (drop_of_length-le l h)

    pub length_cut : 128 ≤ b → length l ≤ at + 1 → LengthAt l at None
    length_cut h k = absent (long-there h ∙ cut k)

    module _ (c : ℕ) (both : at + 1 < length l) (behind : c ≡ get_or l (at + 1) 0) where
      second-there : long_in b (drop (at + 1) l) ≡ cond (ltb b 192 && leb 128 ((b - 128) * 256 + c)) (found ((b - 128) * 256 + c) (drop (at + 1 + 1) l)) nothing
      unfolding long_in
      second-there = rw (drop-cons l (at + 1) 0 both, ← behind, add-one (at + 1))

      pub length-not_shortest : 128 ≤ b → b < 192 → (b - 128) * 256 + c < 128 → LengthAt l at None
      length-not_shortest h k n = absent (long-there h ∙ second-there ∙ rw (lt-ltb b 192 k, lt-leb 128 ((b - 128) * 256 + c) n))

      pub length-long : 128 ≤ b → b < 192 → 128 ≤ (b - 128) * 256 + c → LengthAt l at (Some (record { of = (b - 128) * 256 + c; start = at + 1 + 1 }))
      length-long h k n =
          record {
            says = sym (long-there h ∙ second-there ∙ rw (lt-ltb b 192 k, le-leb 128 ((b - 128) * 256 + c) n));
            lies = (omega arith, omega arith);
          }

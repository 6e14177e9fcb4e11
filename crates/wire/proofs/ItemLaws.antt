-- Bytes that are to be an item and nothing else, case by case.
use Rattle.std.specs.Prelude.{Some, None}
use mathlib.Core.Path.{◌≡◌, refl, sym, ap, ◌∙◌}
use mathlib.Core.Bool.{Bool, true, false, ◌&&◌, ◌||◌}
use mathlib.Core.List.{List, [], ◌∷◌}
use Prim.Native.Nat.{ℕ, ◌+◌, ◌-◌, ◌*◌, ◌/◌, ◌%◌, ◌<◌, ◌≤◌}
use native.Mathlib.Omega.{arith}
use lib.Dec.{eqb}
use lib.ListN.{length, get_or, drop, drop_of_length-le}
use lib.Seq.{drop-cons}
use Rattle.octets.specs.Runs.{gets, Bytes}
use Rattle.octets.specs.Numbers.{be}
use Rattle.octets.proofs.NumbersLaws.{be-run}
use Rattle.rules.specs.Lists.{any}
use Rattle.rules.specs.Identity.{identity_of}
use Rattle.formats.specs.Summary.{summed}
use Rattle.formats.specs.Format as formats
use Rattle.formats.specs.Format.{Found, nothing, found, after, all_of, pair, behind, as_if}
use Rattle.formats.specs.Bits.{width, cut, padded}
use Rattle.rules.proofs.TestLaws.{both, by_test}
use Rattle.formats.proofs.ReadLaws.{number_cut, number-found, bits-set, bits-found}
use Rattle.aper.specs.Elements.{Extensions, given, marked}
use Rattle.aper.specs.Readers.{GivenAt}
use Rattle.aper.specs.declared.Extensions.{Extensions as Run}
use Rattle.wire.specs.Messages.{count_size}
use Rattle.wire.specs.Cells.{Item, flag_fields, cell_fields, ItemHead, item_head, item_under, item}
use Rattle.wire.specs.Readers.{graded, ItemGraded}
use Rattle.wire.specs.declared.Message.{Message}
use Rattle.wire.proofs.CellsFormat.{item-short}
use Rattle.formats.proofs.PairLaws.{behind_it, marks_either, pair_broken, pair_broken_later, pair-summed}

-- ---- too few bytes

no_item : (m : Message) (l : List ℕ) → (item m).parse l ≡ nothing → ItemGraded m l None
no_item m l e = ap (λ (x : Found Item). all_of (summed graded x) []) (sym e)

pub item-cut : (m : Message) (l : List ℕ) → Bytes l → length l < 9 → ItemGraded m l None
item-cut m l bytes h = no_item m l (item-short m l bytes h)

-- ---- the fixed bytes

and-true : (a b c : Bool) → ((a && b) && c) ≡ (a && (b && (c && true)))
and-true true true true = refl
and-true true true false = refl
and-true true false c = refl
and-true false b c = refl

flags-test : (f : ℕ) → ((eqb (f / 128) 0 && eqb (f % 64 / 32) 0) && eqb (f % 16) 0) ≡ padded flag_fields f
unfolding padded width
flags-test f =
    let a : f % 128 % 64 / 32 ≡ f % 64 / 32 = omega arith in
    let b : f % 128 % 64 % 32 % 16 / 1 ≡ f % 16 = omega arith in
    rw (a, b) (and-true (eqb (f / 128) 0) (eqb (f % 64 / 32) 0) (eqb (f % 16) 0))

and_one : (a : Bool) → a ≡ (a && true)
and_one true = refl
and_one false = refl

last-test : (m b : ℕ) → eqb (b % 16) 0 ≡ padded cell_fields (m * 256 + b)
unfolding padded width
last-test m b = let a : (m * 256 + b) % 16 / 1 ≡ b % 16 = omega arith in rw a (and_one (eqb (b % 16) 0))

module _ (m : Message) (l : List ℕ) (f b : ℕ) (long : 9 ≤ length l) (flags : f ≡ be (gets l 0 1)) (last : b ≡ be (gets l 8 1)) where
  cells : ℕ
  cells = be (gets l 4 4) * 256 + b

  cells_here : cells ≡ be (gets l 4 5)
  unfolding cells
  cells_here = let all : be (gets l 4 4) * 256 + be (gets l 8 1) ≡ be (gets l 4 5) = be-run 4 1 l 4 8 refl in omega arith

  abbrev pub test : Bool
  test = ((eqb (f / 128) 0 && eqb (f % 64 / 32) 0) && eqb (f % 16) 0) && eqb (b % 16) 0

  test-says : test ≡ (padded flag_fields f && padded cell_fields cells)
  unfolding cells
  test-says = rw (flags-test f, last-test (be (gets l 4 4)) b)

  flags_bad : padded flag_fields f ≡ false → item_head.parse l ≡ nothing
  unfolding item_head pair
  flags_bad t = rw (bits-set l 0 1 1 refl flag_fields f (omega arith) flags t)

  last_bad : padded flag_fields f ≡ true → padded cell_fields cells ≡ false → item_head.parse l ≡ nothing
  unfolding item_head pair
  last_bad t u = rw (bits-found l 0 1 1 refl flag_fields f (omega arith) flags t, number-found l 1 3 4 refl (omega arith), bits-set l 4 5 9 refl cell_fields cells long cells_here u)

  this : ItemHead
  this = (cut flag_fields f, (be (gets l 1 3), cut cell_fields cells))

  head-there : padded flag_fields f ≡ true → padded cell_fields cells ≡ true → item_head.parse l ≡ found this (drop 9 l)
  unfolding item_head pair this
  head-there t u = rw (bits-found l 0 1 1 refl flag_fields f (omega arith) flags t, number-found l 1 3 4 refl (omega arith), bits-found l 4 5 9 refl cell_fields cells long cells_here u)

  head-none : test ≡ false → item_head.parse l ≡ nothing
  head-none t =
      by_test (padded flag_fields f)
      (λ p. last_bad p (second (padded flag_fields f) (padded cell_fields cells) p (sym test-says ∙ t)))
      flags_bad
    where
      second : (a b : Bool) → a ≡ true → a && b ≡ false → b ≡ false
      second a b p q = rw p at q

  pub fixed_bad : test ≡ false → ItemGraded m l None
  unfolding item behind
  fixed_bad t = no_item m l (rw (head-none t))

  -- ---- the cell

  abbrev number : ℕ
  number = identity_of this.1.0 (get_or this.1.1 0 0)

  eight_bytes : number ≡ be (gets l 1 8) / 16
  unfolding this cut width
  eight_bytes =
      let all : be (gets l 1 3) * 1099511627776 + be (gets l 4 5) ≡ be (gets l 1 8) = be-run 3 5 l 1 4 refl in
      omega (arith, cells_here)

  -- ---- its extensions, and the count between them

  module _ (t : test ≡ true) where
    head-found : item_head.parse l ≡ found this (drop 9 l)
    head-found = let p = both (padded flag_fields f) (padded cell_fields cells) (sym test-says ∙ t) in head-there p.0 p.1

    abbrev Own : ℕ × Extensions → Bool
    Own p = any marked p.1

    abbrev Later : List ℕ → Found (ℕ × Extensions)
    Later r = (pair (formats.number (count_size m)) (given (f / 64 % 2))).parse r

    abbrev Marks : Extensions × (ℕ × Extensions) → Bool
    Marks = marks_either (any marked) Own Later

    abbrev Two : Found (Extensions × (ℕ × Extensions))
    Two = behind_it (any marked) Own Later ((given (f / 16 % 2)).parse (drop 9 l))

    made : Extensions × (ℕ × Extensions) → Item
    made p = record { plmn = this.1.0; cell = get_or this.1.1 0 0; cell_extensions = p.0; count = p.1.0; extensions = p.1.1 }

    under : (item m).parse l ≡ after Two (λ p s. found (made p) s)
    unfolding item behind item_under as_if pair this made cut width
    under =
        let p : f % 128 / 64 ≡ f / 64 % 2 = omega arith in
        let q : f % 128 % 64 % 32 / 16 ≡ f / 16 % 2 = omega arith in
        rw (head-found, p, q)

    abbrev with_number : Found Bool → Found (Bool × ℕ)
    with_number x = summed (λ b. (b, be (gets l 1 8) / 16)) (all_of x [])

    same : (y : Found (Extensions × (ℕ × Extensions))) → all_of (summed graded (after y (λ p s. found (made p) s))) [] ≡ with_number (summed Marks y)
    unfolding made
    same nothing = refl
    same (found p []) = ap (λ (n : ℕ). found (Marks p, n) []) eight_bytes
    same (found p (x ∷ xs)) = refl

    whole : (x : Found Bool) → summed Marks Two ≡ x → all_of (summed graded ((item m).parse l)) [] ≡ with_number x
    whole x e = ap (λ (y : Found Item). all_of (summed graded y) []) under ∙ same Two ∙ ap with_number e

    pub first-none : GivenAt l 9 (f / 16 % 2) None → ItemGraded m l None
    first-none read = sym (whole nothing (pair_broken (any marked) Own Later ((given (f / 16 % 2)).parse (drop 9 l)) (sym read.says)))

    module _ (one : Run) (first : GivenAt l 9 (f / 16 % 2) (Some one)) where
      broken_later : summed Own (Later (drop one.end l)) ≡ nothing → ItemGraded m l None
      broken_later e = sym (whole nothing (pair_broken_later (any marked) Own Later ((given (f / 16 % 2)).parse (drop 9 l)) one.rejected (drop one.end l) (sym first.says) e))

      pub count_cut : length l - one.end < count_size m → ItemGraded m l None
      count_cut h = broken_later (cut-there)
        where
          cut-there : summed Own (Later (drop one.end l)) ≡ nothing
          cut-there = unfold pair in rw (number_cut l one.end (count_size m) (one.end + count_size m) refl first.lies (omega (arith, h, first.lies)))

      module _ (fits : count_size m ≤ length l - one.end) where
        own : (x : Found Extensions) (n : ℕ) → summed Own (after x (λ es r. found (n, es) r)) ≡ summed (any marked) x
        own nothing n = refl
        own (found es r) n = refl

        counted : summed Own (Later (drop one.end l)) ≡ summed (any marked) ((given (f / 64 % 2)).parse (drop (one.end + count_size m) l))
        unfolding pair
        counted =
            let inside : one.end + count_size m ≤ length l = omega (arith, fits, first.lies) in
            rw (number-found l one.end (count_size m) (one.end + count_size m) refl inside) (own ((given (f / 64 % 2)).parse (drop (one.end + count_size m) l)) _)

        pub second_none : GivenAt l (one.end + count_size m) (f / 64 % 2) None → ItemGraded m l None
        second_none read = broken_later (counted ∙ sym read.says)

        module _ (two : Run) (second : GivenAt l (one.end + count_size m) (f / 64 % 2) (Some two)) where
          found_both : summed Marks Two ≡ found (one.rejected || two.rejected) (drop two.end l)
          found_both =
              pair-summed (any marked) Own Later ((given (f / 16 % 2)).parse (drop 9 l)) one.rejected two.rejected (drop one.end l) (drop two.end l) (sym first.says) (counted ∙ sym second.says)

          pub item_fine : two.end ≡ length l → (n : ℕ) → n ≡ be (gets l 1 8) / 16 → ItemGraded m l (Some (record { rejected = one.rejected || two.rejected; identity = n }))
          item_fine e n here =
              let all : length l ≤ two.end = omega arith in
              rw here (sym (whole (found (one.rejected || two.rejected) []) (found_both ∙ ap (found (one.rejected || two.rejected)) (drop_of_length-le l all))))

          pub item-behind : (two.end ≡ length l → ⊥) → ItemGraded m l None
          item-behind other =
              let more : two.end < length l = omega (arith, other, second.lies) in
              sym (whole (found (one.rejected || two.rejected) (drop two.end l)) found_both ∙ ap (λ (r : List ℕ). with_number (found (one.rejected || two.rejected) r)) (drop-cons l two.end 0 more))

-- The search among the items: those still to come decide, and where the search stands is how many it has looked at.
-- And what names a cell: its keys say of an item what document 01 says.
use mathlib.Core.Path.{◌≡◌, refl, sym, ap, ◌∙◌}
use mathlib.Core.Bool.{Bool, true, false, cond, ◌||◌, or-false}
use mathlib.Core.List.{List, [], ◌∷◌, map}
use Prim.Native.Nat.{ℕ, zero, suc, ◌+◌, ◌^◌, ◌<◌, ◌≤◌}
use native.Mathlib.Nat.{zero-add}
use native.Mathlib.Omega.{arith}
use borrow.Author.Tests.{ne_eqb}
use lib.Dec.{eqb}
use lib.ListN.{length, take, drop, get_or, drop_of_length-le}
use lib.Seq.{take-nil}
use Rattle.octets.specs.Turned.{turned}
use Rattle.octets.proofs.TurnedLaws.{turned-twice}
use Rattle.rules.specs.Lists.{any, one_of, up_to}
use Rattle.rules.specs.Table.{Head}
use Rattle.rules.specs.Record.{no_area, cell_area, tracking_area, emergency_area}
use Rattle.rules.specs.Reach.{names, reaches, looked_at}
use Rattle.rules.proofs.ListsLaws.{any_same, up_to_same}
use Rattle.rules.proofs.KindAreaLaws.{area_by_lem}
use Rattle.engine.specs.Reach.{keys_in, named_by, turned_keys, naming_in, naming_of}
use Rattle.engine.specs.declared.reach.Naming.{Naming}

-- ---- the search

-- between two items: the first k were looked at, and `by` tells of each whether it names the cell
pub record Searching (area : ℕ) (items : List ℕ) (h : Head) (by : ℕ → Bool) (hit : Bool) (k : ℕ) : Type 0 where
  pub reached : reaches area items h ≡ cond hit true (any by (drop k items))
  pub looked : looked_at area items h ≡ k + up_to by (drop k items)

-- where it has ended
pub record Searched (area : ℕ) (items : List ℕ) (h : Head) (hit : Bool) (k : ℕ) : Type 0 where
  pub reached : reaches area items h ≡ hit
  pub looked : looked_at area items h ≡ k

module _ (area : ℕ) (items : List ℕ) (h : Head) (by : ℕ → Bool) where
  -- without an area there are no items
  pub search_start : ((x : ℕ) → by x ≡ names area h x) → (eqb area no_area ≡ true → items ≡ []) → Searching area items h by (eqb area no_area) 0
  unfolding reaches looked_at up_to
  search_start meant none = go (eqb area no_area) refl
    where
      go : (b : Bool) → eqb area no_area ≡ b → Searching area items h by b 0
      go true e = record { reached = rw e; looked = rw (e, none e) }
      go false e =
          record {
            reached = rw e (any_same (names area h) by (λ x. sym (meant x)) items);
            looked = rw (e, zero-add) (up_to_same (names area h) by (λ x. sym (meant x)) items);
          }

  module _ (hit : Bool) (k : ℕ) (s : Searching area items h by hit k) where
    module _ (x : ℕ) (next : drop k items ≡ x ∷ drop (k + 1) items) where
      pub search_miss : by x ≡ false → Searching area items h by hit (k + 1)
      unfolding any up_to
      search_miss e =
          let n : up_to by (drop k items) ≡ 1 + up_to by (drop (k + 1) items) = rw (next, e) in
          record { reached = s.reached ∙ rw (next, e); looked = omega (arith, n, s.looked) }

      pub search_hit : by x ≡ true → Searched area items h true (k + 1)
      unfolding any up_to
      search_hit e = record { reached = s.reached ∙ rw (next, e) (either_way hit); looked = s.looked ∙ rw (next, e) }
        where
          either_way : (b : Bool) → cond b true true ≡ true
          either_way true = refl
          either_way false = refl

    pub search_end : length items ≤ k → Searched area items h hit k
    unfolding any up_to
    search_end e =
        let none : drop k items ≡ [] = drop_of_length-le items e in
        record { reached = s.reached ∙ rw none (as_it-is hit); looked = s.looked ∙ rw none (omega arith) }
      where
        as_it-is : (b : Bool) → cond b true false ≡ b
        as_it-is true = refl
        as_it-is false = refl

-- ---- what names a cell

-- the keys in use, compared one by one
pub by_keys : (n x a b c d : ℕ)
    → one_of x (take n (a ∷ b ∷ c ∷ d ∷ []))
    ≡ cond (eqb n 0) false (eqb x a || cond (eqb n 1) false (eqb x b || cond (eqb n 2) false (eqb x c || cond (eqb n 3) false (eqb x d))))
unfolding one_of any
by_keys zero x a b c d = refl
by_keys (suc zero) x a b c d = refl
by_keys (suc (suc zero)) x a b c d = refl
by_keys (suc (suc (suc zero))) x a b c d = refl
by_keys (suc (suc (suc (suc n)))) x a b c d =
    let not : (k : ℕ) → k < 4 → eqb (suc (suc (suc (suc n)))) k ≡ false = λ k h. ne_eqb _ k (λ e. omega (arith, e, h)) in
    rw (take-nil n, or-false (eqb x d), not 0 (omega arith), not 1 (omega arith), not 2 (omega arith), not 3 (omega arith))

-- four numbers are those that are read at the four places
pub four-read : (all : List ℕ) → length all ≡ 4 → get_or all 0 0 ∷ get_or all 1 0 ∷ get_or all 2 0 ∷ get_or all 3 0 ∷ [] ≡ all
four-read [] e = absurd (omega arith)
four-read (a ∷ []) e = absurd (omega arith)
four-read (a ∷ b ∷ []) e = absurd (omega arith)
four-read (a ∷ b ∷ c ∷ []) e = absurd (omega arith)
four-read (a ∷ b ∷ c ∷ d ∷ []) e = refl
four-read (a ∷ b ∷ c ∷ d ∷ x ∷ more) e = absurd (omega arith)

-- what names a cell, key by key
pub named_by_keys : (s : Naming) (x : ℕ) → length s.turned ≡ 4
    → named_by s x
    ≡ cond (eqb s.keys 0) false (eqb x (turned 8 (get_or s.turned 0 0)) || cond (eqb s.keys 1) false (eqb x (turned 8 (get_or s.turned 1 0)) || cond (eqb s.keys 2) false (eqb x (turned 8 (get_or s.turned 2 0)) || cond (eqb s.keys 3) false (eqb x (turned 8 (get_or s.turned 3 0))))))
unfolding named_by keys_in
named_by_keys s x long =
    ap (λ (l : List ℕ). one_of x (take s.keys (map (turned 8) l))) (sym (four-read s.turned long)) ∙ by_keys s.keys x _ _ _ _

-- a key that was turned is the number again where it is compared
pub keys-back : (s : Naming) (n a b c d : ℕ) → s ≡ turned_keys n (a ∷ b ∷ c ∷ d ∷ []) → a < 256 ^ 8 → b < 256 ^ 8 → c < 256 ^ 8 → d < 256 ^ 8
    → (x : ℕ) → named_by s x ≡ one_of x (take n (a ∷ b ∷ c ∷ d ∷ []))
unfolding named_by keys_in turned_keys
keys-back s n a b c d e ha hb hc hd x = rw (e, turned-twice 8 a ha, turned-twice 8 b hb, turned-twice 8 c hc, turned-twice 8 d hd)

-- without an area, and for an unknown one, there is none
pub no_keys : (area : ℕ) (b : List ℕ) → (area ≡ cell_area → ⊥) → (area ≡ tracking_area → ⊥) → (area ≡ emergency_area → ⊥) → naming_of area b ≡ turned_keys 0 []
unfolding naming_of
no_keys area b c t e =
    area_by_lem (λ a. naming_in a b ≡ turned_keys 0 []) area (λ _. refl) (λ x. absurd (c x)) (λ x. absurd (t x)) (λ x. absurd (e x)) refl

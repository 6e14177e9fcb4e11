-- The rows of an answer stand in the order of the cells: their identities ascend, and those of one cell are the ones that its rule gives, in that order.
-- Each cell's rows have its identity, and the identities of a table's cells ascend strictly.
use mathlib.Core.Path.{◌≡◌, refl, ap₂, ◌∙◌}
use mathlib.Core.Bool.{Bool, true, false}
use mathlib.Core.List.{List, [], ◌∷◌, ◌++◌, map, flat_map, append-nil}
use Prim.Native.Nat.{ℕ, zero, suc, ◌≤◌, ◌<◌}
use native.Mathlib.Omega.{arith}
use lib.Dec.{eqb, ltb, leb}
use lib.ListN.{length, get_or}
use borrow.Author.Tests.{ltb-true, lt-ltb, le-leb, eq-eqb, ne_eqb}
use Rattle.rules.specs.Lists.{those, above, ascending, rising}
use Rattle.rules.specs.Table.{Cell}
use Rattle.rules.specs.Reach.{reaches}
use Rattle.rules.specs.InCell.{in_cell}
use Rattle.rules.specs.Reply.{row_by, cell_rows, Row, identities}
use Rattle.rules.specs.Sound.{identity_of_cell}
use Rattle.rules.specs.declared.Request.{Request}
use Rattle.rules.proofs.TestLaws.{both, and-true, cond_either, by_test}
use Rattle.rules.proofs.AllLaws.{All, none, more, every_all, all_imply, all_of, all_map, all_append, all_at}

-- ---- ascending lists

above_lower : (x y : ℕ) (l : List ℕ) → x ≤ y → above y l ≡ true → above x l ≡ true
unfolding above
above_lower x y [] h e = refl
above_lower x y (z ∷ zs) h e =
    let p = both (ltb y z) (above z zs) e in
    and-true (ltb x z) (above z zs) (lt-ltb x z (omega (arith, h, ltb-true y z p.0))) p.1

pub above-ascending : (x : ℕ) (l : List ℕ) → above x l ≡ true → ascending l ≡ true
unfolding above ascending
above-ascending x [] e = refl
above-ascending x (y ∷ ys) e = (both (ltb x y) (above y ys) e).1

cells_over : (x : ℕ) (cs : List Cell) → above x (map identity_of_cell cs) ≡ true → All (λ c. x < identity_of_cell c) cs
unfolding above
cells_over x [] e = none
cells_over x (c ∷ cs) e =
    let p = both (ltb x (identity_of_cell c)) (above (identity_of_cell c) (map identity_of_cell cs)) e in
    let h = ltb-true x (identity_of_cell c) p.0 in
    more h (all_imply (λ d k. omega (arith, h, k)) (cells_over (identity_of_cell c) cs p.1))

-- ---- those that a test picks

those_all : {A : Type 0} (f : A → Bool) {xs : List A} → All (λ x. f x ≡ true) xs → those f xs ≡ xs
unfolding those flat_map
those_all f none = refl
those_all f (more p ps) = rw (p, those_all f ps)

those-none : {A : Type 0} (f : A → Bool) {xs : List A} → All (λ x. f x ≡ false) xs → those f xs ≡ []
unfolding those flat_map
those-none f none = refl
those-none f (more p ps) = rw (p, those-none f ps)

those_append : {A : Type 0} (f : A → Bool) (xs ys : List A) → those f (xs ++ ys) ≡ those f xs ++ those f ys
unfolding those flat_map
those_append f [] ys = refl
those_append f (x ∷ xs) ys = by_test (f x) (λ e. rw (e, those_append f xs ys)) (λ e. rw (e, those_append f xs ys))

-- ---- rows of cells

pub own-rows : (q : Request) (items : List ℕ) (c : Cell) → All (λ w. w.identity ≡ identity_of_cell c) (cell_rows q items c)
unfolding cell_rows
own-rows q items c =
    cond_either (All (λ w. w.identity ≡ identity_of_cell c)) (reaches q.area items c.head) _ _
    (λ _. all_map (λ w. w.identity ≡ identity_of_cell c) (row_by c) (all_of (λ x. refl) (in_cell q c.places).rows))
    (λ _. none)

-- rows of one identity, then rows of larger ones
rise_append : (k : ℕ) {ws vs : List Row} → All (λ w. w.identity ≡ k) ws → All (λ w. k < w.identity) vs → rising (identities vs) ≡ true → rising (identities (ws ++ vs)) ≡ true
unfolding rising
rise_append k none over e = e
rise_append k (more {x = w} {xs = ws} p ps) over e =
    let low = all_append (all_imply (λ v s. le-leb w.identity v.identity (omega (arith, p, s))) ps) (all_imply (λ v s. le-leb w.identity v.identity (omega (arith, p, s))) over) in
    and-true _ _ (every_all (leb w.identity) (all_map (λ x. leb w.identity x ≡ true) (λ v. v.identity) low)) (rise_append k ps over e)

module _ (f : Cell → List Row) (own : (c : Cell) → All (λ w. w.identity ≡ identity_of_cell c) (f c)) where
  -- the rows of later cells have larger identities
  rows-over : (x : ℕ) {cs : List Cell} → All (λ c. x < identity_of_cell c) cs → All (λ w. x < w.identity) (flat_map f cs)
  unfolding flat_map
  rows-over x none = none
  rows-over x (more {x = c} h hs) = all_append (all_imply (λ w s. rw s h) (own c)) (rows-over x hs)

  -- ---- at most one row for each cell: strictly

  rows_above : (x : ℕ) {cs : List Cell} → All (λ c. length (f c) ≤ 1) cs → above x (map identity_of_cell cs) ≡ true → above x (identities (flat_map f cs)) ≡ true
  unfolding above flat_map
  rows_above x none e = refl
  rows_above x (more {x = c} {xs = cs} l ls) e =
      let p = both (ltb x (identity_of_cell c)) (above (identity_of_cell c) (map identity_of_cell cs)) e in
      go (f c) (own c) l p.0 (rows_above (identity_of_cell c) ls p.1)
    where
      go : (ws : List Row) → All (λ w. w.identity ≡ identity_of_cell c) ws → length ws ≤ 1 → ltb x (identity_of_cell c) ≡ true → above (identity_of_cell c) (identities (flat_map f cs)) ≡ true
          → above x (identities (ws ++ flat_map f cs)) ≡ true
      go [] none n h k = above_lower x (identity_of_cell c) (identities (flat_map f cs)) (omega (arith, ltb-true x (identity_of_cell c) h)) k
      go (w ∷ []) (more s none) n h k = rw s (and-true (ltb x (identity_of_cell c)) (above (identity_of_cell c) (identities (flat_map f cs))) h k)
      go (w ∷ v ∷ ws) s n h k = absurd (omega arith)

  pub rows_ascend : {cs : List Cell} → All (λ c. length (f c) ≤ 1) cs → ascending (map identity_of_cell cs) ≡ true → ascending (identities (flat_map f cs)) ≡ true
  unfolding ascending flat_map
  rows_ascend none e = refl
  rows_ascend (more {x = c} {xs = cs} l ls) e = go (f c) (own c) l (rows_above (identity_of_cell c) ls e)
    where
      go : (ws : List Row) → All (λ w. w.identity ≡ identity_of_cell c) ws → length ws ≤ 1 → above (identity_of_cell c) (identities (flat_map f cs)) ≡ true
          → ascending (identities (ws ++ flat_map f cs)) ≡ true
      go [] none n k = above-ascending (identity_of_cell c) (identities (flat_map f cs)) k
      go (w ∷ []) (more s none) n k = rw s k
      go (w ∷ v ∷ ws) s n k = absurd (omega arith)

  -- ---- any number of rows for each cell

  pub rows_rise : (cs : List Cell) → ascending (map identity_of_cell cs) ≡ true → rising (identities (flat_map f cs)) ≡ true
  unfolding rising flat_map ascending
  rows_rise [] e = refl
  rows_rise (c ∷ cs) e = rise_append (identity_of_cell c) (own c) (rows-over (identity_of_cell c) (cells_over (identity_of_cell c) cs e)) (rows_rise cs (above-ascending (identity_of_cell c) (map identity_of_cell cs) e))

  -- those of one cell are all that it gives, in its order
  pub rows_of-cell : (cs : List Cell) → ascending (map identity_of_cell cs) ≡ true → (k : ℕ) (d : Cell) → k < length cs
      → those (λ w. eqb w.identity (identity_of_cell (get_or cs k d))) (flat_map f cs) ≡ f (get_or cs k d)
  unfolding flat_map ascending
  rows_of-cell [] e k d h = absurd (omega arith)
  rows_of-cell (c ∷ cs) e zero d h =
      let is : Row → Bool = λ w. eqb w.identity (identity_of_cell c) in
      those_append is (f c) (flat_map f cs)
      ∙ ap₂ ◌++◌ (those_all is (all_imply (λ w s. eq-eqb w.identity (identity_of_cell c) s) (own c))) (those-none is (all_imply (λ w s. ne_eqb w.identity (identity_of_cell c) (λ x. omega (arith, s, x))) (rows-over (identity_of_cell c) (cells_over (identity_of_cell c) cs e))))
      ∙ append-nil (f c)
  rows_of-cell (c ∷ cs) e (suc k) d h =
      let x = identity_of_cell (get_or cs k d) in
      let is : Row → Bool = λ w. eqb w.identity x in
      let larger : identity_of_cell c < x = all_at (cells_over (identity_of_cell c) cs e) k d (omega arith) in
      those_append is (f c) (flat_map f cs)
      ∙ ap₂ ◌++◌ (those-none is (all_imply (λ w s. ne_eqb w.identity x (λ y. omega (arith, s, y, larger))) (own c))) (rows_of-cell cs (above-ascending (identity_of_cell c) _ e) k d (omega arith))

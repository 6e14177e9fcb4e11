-- Item order and repeats change nothing: lists with the same members are judged alike and reach the same cells, so every cell becomes and reports the same.
-- Whether some item names a cell, whether one is too large and whether there is one at all depends on the members of the list alone.
use mathlib.Core.Path.{◌≡◌, refl, sym, ap, ◌∙◌}
use mathlib.Core.Bool.{Bool, true, not, false≢true}
use mathlib.Core.List.{List, [], ◌∷◌, map, flat_map}
use Prim.Native.Nat.{ℕ}
use native.Mathlib.Omega.{arith}
use lib.Dec.{eqb, ltb}
use lib.ListN.{length}
use borrow.Author.Tests.{eqb-true, eq-eqb, ne_eqb}
use Rattle.rules.specs.Lists.{every, any, one_of}
use Rattle.rules.specs.Table.{Head, Cell}
use Rattle.rules.specs.Record.{item_end, area_fits, within_limits}
use Rattle.rules.specs.Reach.{names, reaches}
use Rattle.rules.specs.Refusals.{first_of, request_tests}
use Rattle.rules.specs.Applied.{step_cell}
use Rattle.rules.specs.Reply.{cell_rows}
use Rattle.rules.specs.declared.Request.{Request}
use Rattle.rules.specs.declared.Seconds.{Seconds}
use Rattle.rules.proofs.TestLaws.{by_test, or_else, else_or}
use Rattle.rules.proofs.AllLaws.{all_of, map_all, flat_map_all}

-- ---- members

member_any : (f : ℕ → Bool) (xs : List ℕ) (x : ℕ) → one_of x xs ≡ true → f x ≡ true → any f xs ≡ true
unfolding any one_of
member_any f [] x m e = absurd (false≢true m)
member_any f (y ∷ ys) x m e =
    by_test (eqb x y)
    (λ s. else_or (f y) (any f ys) (λ n. absurd (false≢true (sym n ∙ rw (← eqb-true x y s) e))))
    (λ s. else_or (f y) (any f ys) (λ n. member_any f ys x (or_else (eqb x y) (one_of x ys) m s) e))

-- one of which f holds
record Found (f : ℕ → Bool) (xs : List ℕ) : Type 0 where
  item : ℕ
  member : one_of item xs ≡ true
  holds : f item ≡ true

any_member : (f : ℕ → Bool) (xs : List ℕ) → any f xs ≡ true → Found f xs
unfolding any one_of
any_member f [] e = absurd (false≢true e)
any_member f (y ∷ ys) e =
    by_test (f y)
    (λ h. record { item = y; member = rw (eq-eqb y y refl); holds = h })
    (λ h.
    let r = any_member f ys (or_else (f y) (any f ys) e h) in
    record { item = r.item; member = else_or (eqb r.item y) (one_of r.item ys) (λ n. r.member); holds = r.holds })

abbrev pub SameMembers : List ℕ → List ℕ → Type 0
SameMembers items others = (x : ℕ) → one_of x items ≡ one_of x others

any_alike : (f : ℕ → Bool) (items others : List ℕ) → SameMembers items others → any f items ≡ any f others
any_alike f items others same =
    by_test (any f others)
    (λ e. let r = any_member f others e in member_any f items r.item (same r.item ∙ r.member) r.holds ∙ sym e)
    (λ n.
    by_test (any f items)
    (λ e. let r = any_member f items e in absurd (false≢true (sym n ∙ member_any f others r.item (sym (same r.item) ∙ r.member) r.holds)))
    (λ m. m ∙ sym n))

-- ---- what is asked of a list of items

some-length : (xs : List ℕ) → eqb (length xs) 0 ≡ not (any (λ x. true) xs)
unfolding any
some-length [] = refl
some-length (x ∷ xs) = ne_eqb (length (x ∷ xs)) 0 (λ e. omega (arith, e))

every_any : (f : ℕ → Bool) (xs : List ℕ) → every f xs ≡ not (any (λ x. not (f x)) xs)
unfolding every any
every_any f [] = refl
every_any f (x ∷ xs) = by_test (f x) (λ e. rw (e, every_any f xs)) (λ e. rw e)

-- 5, 6 and 7
pub judged_alike : (items others : List ℕ) → SameMembers items others → (zero : Bool) (longest : Seconds) (q : Request)
    → first_of (request_tests zero longest q items) ≡ first_of (request_tests zero longest q others)
unfolding area_fits within_limits
judged_alike items others same zero longest q =
    let large : ℕ → Bool = λ x. not (ltb x (item_end q.area)) in
    let few : eqb (length items) 0 ≡ eqb (length others) 0 = some-length items ∙ ap not (any_alike (λ x. true) items others same) ∙ sym (some-length others) in
    let small : every (λ x. ltb x (item_end q.area)) items ≡ every (λ x. ltb x (item_end q.area)) others =
    every_any _ items ∙ ap not (any_alike large items others same) ∙ sym (every_any _ others) in
    rw (few, small)

-- ---- cells

module _ (items others : List ℕ) (same : SameMembers items others) where
  pub reach_alike : (area : ℕ) (h : Head) → reaches area items h ≡ reaches area others h
  unfolding reaches
  reach_alike area h = rw (any_alike (names area h) items others same)

  pub steps_alike : (q : Request) (cs : List Cell) → map (step_cell q items) cs ≡ map (step_cell q others) cs
  unfolding step_cell
  steps_alike q cs = map_all (step_cell q items) (step_cell q others) (all_of (λ c. rw (reach_alike q.area c.head)) cs)

  pub rows_alike : (q : Request) (cs : List Cell) → flat_map (cell_rows q items) cs ≡ flat_map (cell_rows q others) cs
  unfolding cell_rows
  rows_alike q cs = flat_map_all (cell_rows q items) (cell_rows q others) (all_of (λ c. rw (reach_alike q.area c.head)) cs)

-- What holds of every kind, and of every area, holds of the one that a number names; and what the table of kinds allows.
-- By the tests that `kind_of` and `area_of` make, in order; callers need not unfold them.
use mathlib.Core.Path.{◌≡◌, refl, sym, ◌∙◌}
use mathlib.Core.Bool.{true, false, ◌&&◌, false≢true}
use mathlib.Core.List.{List, [], ◌∷◌}
use Prim.Native.Nat.{ℕ, ◌≤◌}
use native.Mathlib.Omega.{arith}
use lib.Dec.{eqb, leb}
use borrow.Author.Tests.{eqb-true, leb-true}
use Rattle.rules.specs.Lists.{every, any, one_of, zeros}
use Rattle.rules.specs.Layout.{places_per_cell, emergency_end}
use Rattle.rules.specs.Identity.{cell_item, tracking_item}
use Rattle.rules.specs.Table.{Head}
use Rattle.rules.specs.Record.{write_replace, cancel_or_kill, restart_kind, failure_kind, one_second, Kind, a_write_replace, a_cancel, a_restart, a_failure, a_second, unknown_kind, kind_of, no_area, cell_area, tracking_area, emergency_area, Area, everywhere, in_cells, in_tracking_areas, in_emergency_areas, unknown_area, area_of, item_end_in, item_end, any_area, identifier_to_sib, allowed, allowed_by, kind_allows}
use Rattle.rules.specs.Reach.{names_in, names}
use Rattle.rules.specs.Answer.{is_known, rows_by, rows_per_cell}
use Rattle.rules.specs.declared.Request.{Request}
use Rattle.rules.proofs.TestLaws.{both, by_test, or_else, cond_either}

-- ---- of the kind, or the area, that a number names

pub kind_by : (P : Kind → Type 0) (n : ℕ) → (n ≡ write_replace → P a_write_replace) → (n ≡ cancel_or_kill → P a_cancel) → (n ≡ restart_kind → P a_restart) → (n ≡ failure_kind → P a_failure)
    → (n ≡ one_second → P a_second)
    → P unknown_kind
    → P (kind_of n)
kind_by P n begins stops empties drops ages rest =
    cond_either P (eqb n write_replace) _ _ (λ e. begins (eqb-true n write_replace e)) λ _.
    cond_either P (eqb n cancel_or_kill) _ _ (λ e. stops (eqb-true n cancel_or_kill e)) λ _.
    cond_either P (eqb n restart_kind) _ _ (λ e. empties (eqb-true n restart_kind e)) λ _.
    cond_either P (eqb n failure_kind) _ _ (λ e. drops (eqb-true n failure_kind e)) λ _.
    cond_either P (eqb n one_second) _ _ (λ e. ages (eqb-true n one_second e)) (λ _. rest)

pub area_by_lem : (P : Area → Type 0) (n : ℕ) → (n ≡ no_area → P everywhere) → (n ≡ cell_area → P in_cells) → (n ≡ tracking_area → P in_tracking_areas) → (n ≡ emergency_area → P in_emergency_areas) → P unknown_area
    → P (area_of n)
area_by_lem P n all cells tracking emergency rest =
    cond_either P (eqb n no_area) _ _ (λ e. all (eqb-true n no_area e)) λ _.
    cond_either P (eqb n cell_area) _ _ (λ e. cells (eqb-true n cell_area e)) λ _.
    cond_either P (eqb n tracking_area) _ _ (λ e. tracking (eqb-true n tracking_area e)) λ _.
    cond_either P (eqb n emergency_area) _ _ (λ e. emergency (eqb-true n emergency_area e)) (λ _. rest)

-- what an item of any other area than cells and tracking areas stays below
pub item_end-other : (area : ℕ) → (area ≡ cell_area → ⊥) → (area ≡ tracking_area → ⊥) → item_end area ≡ emergency_end
item_end-other area c t = area_by_lem (λ a. item_end_in a ≡ emergency_end) area (λ _. refl) (λ e. absurd (c e)) (λ e. absurd (t e)) (λ _. refl) refl

pub known-kind : (k : Kind) → (k ≡ unknown_kind → ⊥) → is_known k ≡ true
known-kind a_write_replace h = refl
known-kind a_cancel h = refl
known-kind a_restart h = refl
known-kind a_failure h = refl
known-kind a_second h = refl
known-kind unknown_kind h = absurd (h refl)

-- a known kind but a second has one row at most
pub rows_other : (kind : ℕ) → (kind_of kind ≡ unknown_kind → ⊥) → (kind ≡ one_second → ⊥) → rows_per_cell kind ≡ 1
rows_other kind known no_second =
    kind_by (λ k. (k ≡ unknown_kind → ⊥) → rows_by k ≡ 1) kind (λ _ _. refl) (λ _ _. refl) (λ _ _. refl) (λ _ _. refl) (λ e _. absurd (no_second e)) (λ h. absurd (h refl)) known

pub rows-most : (kind : ℕ) → rows_per_cell kind ≤ places_per_cell
rows-most kind = kind_by (λ k. rows_by k ≤ places_per_cell) kind (λ _. omega arith) (λ _. omega arith) (λ _. omega arith) (λ _. omega arith) (λ _. omega arith) (omega arith)

-- ---- the table of kinds

module _ (q : Request) where
  allowed-second : q.kind ≡ one_second → kind_allows q ≡ allowed q (0 ∷ []) (no_area ∷ []) (identifier_to_sib q)
  unfolding kind_allows
  allowed-second k = rw k

  not-allowed : kind_of q.kind ≡ unknown_kind → kind_allows q ≡ false
  unfolding kind_allows
  not-allowed k = rw k

-- ---- what an allowed request has

pub kind-known : (q : Request) → kind_allows q ≡ true → kind_of q.kind ≡ unknown_kind → ⊥
kind-known q e k = false≢true (sym (not-allowed q k) ∙ e)

allowed-area : (q : Request) (flags areas zero : List ℕ) → allowed q flags areas zero ≡ true → one_of q.area areas ≡ true
unfolding allowed
allowed-area q flags areas zero e =
    (both (one_of q.flags flags) (one_of q.area areas) (both (one_of q.flags flags && one_of q.area areas) (zeros zero) e).0).1

-- one of several numbers is at most as large as they are
one-most : (n most : ℕ) (xs : List ℕ) → every (λ x. leb x most) xs ≡ true → one_of n xs ≡ true → n ≤ most
unfolding every any one_of
one-most n most [] h e = absurd (false≢true e)
one-most n most (x ∷ xs) h e =
    let s = both (leb x most) (every (λ y. leb y most) xs) h in
    by_test (eqb n x) (λ t. omega (arith, eqb-true n x t, leb-true x most s.0)) λ t.
    one-most n most xs s.1 (or_else (eqb n x) _ e t)

-- no kind has an unknown area
pub area-most : (q : Request) → kind_allows q ≡ true → q.area ≤ emergency_area
unfolding kind_allows every
area-most q e =
    kind_by (λ k. allowed_by k q ≡ true → q.area ≤ emergency_area) q.kind
    (λ k a. one-most q.area emergency_area any_area refl (allowed-area q _ any_area _ a))
    (λ k a. one-most q.area emergency_area any_area refl (allowed-area q _ any_area _ a))
    (λ k a. one-most q.area emergency_area (no_area ∷ cell_area ∷ []) refl (allowed-area q _ _ _ a))
    (λ k a. one-most q.area emergency_area (no_area ∷ cell_area ∷ []) refl (allowed-area q _ _ _ a))
    (λ k a. one-most q.area emergency_area (no_area ∷ []) refl (allowed-area q _ _ _ a))
    (λ a. absurd (false≢true a))
    e

-- a second has none
pub second-area : (q : Request) → kind_allows q ≡ true → q.kind ≡ one_second → q.area ≡ no_area
unfolding every
second-area q e k =
    let most = one-most q.area no_area (no_area ∷ []) refl (allowed-area q _ _ _ (sym (allowed-second q k) ∙ e)) in
    omega (arith, most)

-- ---- what an item names, by its area

module _ (area : ℕ) (h : Head) (item : ℕ) where
  pub names-cell : area ≡ cell_area → names area h item ≡ eqb item (cell_item h.identity)
  unfolding names
  names-cell e = rw e

  pub names-tracking : area ≡ tracking_area → names area h item ≡ eqb item (tracking_item h.identity h.code)
  unfolding names
  names-tracking e = rw e

  pub names_emergency : area ≡ emergency_area → names area h item ≡ one_of item h.areas
  unfolding names
  names_emergency e = rw e

  -- nothing without an area, and of an unknown one
  pub names-other : (area ≡ cell_area → ⊥) → (area ≡ tracking_area → ⊥) → (area ≡ emergency_area → ⊥) → names area h item ≡ false
  unfolding names
  names-other c t e =
      area_by_lem (λ a. names_in a h item ≡ false) area (λ _. refl) (λ x. absurd (c x)) (λ x. absurd (t x)) (λ x. absurd (e x)) refl

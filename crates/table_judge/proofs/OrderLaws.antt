-- The walk over runs of bytes, cells or heads of any version, judges as `legal_runs` says: each is legal, and none has an NR CGI below the least that may follow those before.
-- The invariant speaks of the runs still to come; a turn peels one.
use mathlib.Core.Path.{◌≡◌, refl, sym, subst, ◌∙◌}
use mathlib.Core.Bool.{Bool, true, false, ◌&&◌, and-false}
use mathlib.Core.List.{List, [], ◌∷◌, map}
use Prim.Native.Nat.{ℕ, ◌+◌, ◌-◌, ◌*◌, ◌≤◌, ◌<◌}
use native.Mathlib.Nat.{mul-zero, mul-suc, sub-zero}
use native.Mathlib.Numerals.{add-one}
use native.Mathlib.Omega.{arith}
use borrow.Author.Tests.{le-leb, lt-leb}
use lib.Dec.{leb, leb-zero}
use lib.ListN.{take, drop}
use Rattle.octets.specs.Runs.{pieces}
use Rattle.octets.specs.Fields.{size, field_of}
use Rattle.octets.proofs.FieldsLaws.{numbers-take}
use Rattle.rules.specs.Lists.{every, above, ascending}
use Rattle.rules.specs.Layout.{Version, head_fields, head_size, cell_end}
use Rattle.rules.specs.Table.{Head, head_of, legal_head, legal_cell, identity_at}
use Rattle.rules.proofs.HeadCodec.{legal-head}
use Rattle.rules.proofs.CellCodec.{legal-cell}
use Rattle.rules.proofs.LayoutLaws.{head-size}
use Rattle.table_judge.specs.Judge.{legal_runs}
use Rattle.octets.proofs.PiecesLaws.{pieces_more, pieces_none}

-- strictly ascending, and none below a bound
unfoldable pub rising_from : ℕ → List ℕ → Bool
rising_from x [] = true
rising_from x (y ∷ ys) = leb x y && rising_from (y + 1) ys

above-rising : (x : ℕ) (ys : List ℕ) → above x ys ≡ rising_from (x + 1) ys
unfolding above rising_from
above-rising x [] = refl
above-rising x (y ∷ ys) = rw (add-one x, above-rising y ys)

ascending-rising : (xs : List ℕ) → ascending xs ≡ rising_from 0 xs
unfolding ascending rising_from
ascending-rising [] = refl
ascending-rising (x ∷ xs) = rw (leb-zero x) (above-rising x xs)

unfoldable pub legal_from : Version → (List ℕ → Bool) → ℕ → List (List ℕ) → Bool
legal_from v f least bs = every f bs && rising_from least (map (identity_at v) bs)

module _ (v : Version) where
  -- the first `count` runs of w bytes in l are judged as those from k on are, none below the least
  pub record RunsLeft (f : List ℕ → Bool) (w count : ℕ) (l : List ℕ) (k least : ℕ) : Type 0 where
    pub same : legal_runs v f (pieces w count l) ≡ legal_from v f least (pieces w (count - k) (drop (w * k) l))

  pub runs-start : (f : List ℕ → Bool) (w count : ℕ) (l : List ℕ) → RunsLeft f w count l 0 0
  unfolding legal_runs legal_from
  runs-start f w count l = record { same = rw (mul-zero, sub-zero, ascending-rising) }

  pub runs-end : {f : List ℕ → Bool} {w count : ℕ} {l : List ℕ} {k least : ℕ} → RunsLeft f w count l k least → count ≤ k → legal_runs v f (pieces w count l) ≡ true
  unfolding legal_from every rising_from
  runs-end {w} {count} {l} {k} p end = p.same ∙ rw (pieces_none w (count - k) (drop (w * k) l) (omega arith))

  -- a turn: i is the NR CGI of the run that it meets
  module _ {f : List ℕ → Bool} {w count : ℕ} {l : List ℕ} {k least : ℕ} (p : RunsLeft f w count l k least) (more : k < count) where
    -- the run
    abbrev met : List ℕ
    met = take (w * k + w - w * k) (drop (w * k) l)

    turn : legal_runs v f (pieces w count l)
        ≡ (f met && every f (pieces w (count - (k + 1)) (drop (w * (k + 1)) l))) && (leb least (identity_at v met) && rising_from (identity_at v met + 1) (map (identity_at v) (pieces w (count - (k + 1)) (drop (w * (k + 1)) l))))
    unfolding legal_from every rising_from
    turn =
        let whole : w * k + w - w * k ≡ w = omega arith in
        let next : w * (k + 1) ≡ w * k + w = rw (add-one k, mul-suc) in
        let fewer : count - (k + 1) ≡ count - k - 1 = omega arith in
        p.same ∙ rw (pieces_more w (count - k) (w * k) l (omega arith), whole, next, fewer)

    pub runs-below : (i : ℕ) → i ≡ identity_at v met → i < least → legal_runs v f (pieces w count l) ≡ false
    runs-below i e low = turn ∙ rw (← e, lt-leb least i low, and-false)

    pub runs-wrong : f met ≡ false → legal_runs v f (pieces w count l) ≡ false
    runs-wrong wrong = turn ∙ rw wrong

    pub runs_on : (i : ℕ) → i ≡ identity_at v met → least ≤ i → f met ≡ true → RunsLeft f w count l (k + 1) (i + 1)
    unfolding legal_from
    runs_on i e order right = record { same = turn ∙ rw (right, ← e, le-leb least i order) }

  -- ---- the two tests of a run

  -- a head's own bytes say its NR CGI
  same_head : (b : List ℕ) → head_of v (take (head_size v) b) ≡ head_of v b
  unfolding head_of field_of size
  same_head b = rw (numbers-take (head_fields v) b (head_size v) (omega (arith, head-size v)))

  pub head_small : (b : List ℕ) → legal_head v b ≡ true → identity_at v b < cell_end
  head_small b e = subst (λ (h : Head). h.identity < cell_end) (sym (same_head b)) (legal-head v b e).small

  pub cell-small : (c : List ℕ) → legal_cell v c ≡ true → identity_at v c < cell_end
  cell-small c e = (legal-head v (take (head_size v) c) (legal-cell v c e).0).small

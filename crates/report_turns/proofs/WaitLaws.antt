-- A turn that waits has less at hand than the heads of the largest table: a part of them, or a part of a record, which is shorter.
use Rattle.std.specs.Prelude.{Option, Some, None}
use mathlib.Core.Path.{◌≡◌}
use mathlib.Core.Bool.{Bool, true, false, ◌&&◌, ◌||◌}
use mathlib.Core.List.{List}
use Prim.Native.Nat.{ℕ, ◌+◌, ◌*◌, ◌≤◌, ◌<◌}
use native.Mathlib.Omega.{arith}
use lib.Dec.{eqb, leb}
use lib.ListN.{length}
use borrow.Author.Tests.{leb-true, leb-false}
use Rattle.rules.specs.Layout.{current, most_cells, record_size, item_size, most_items}
use Rattle.rules.specs.Record.{item_count}
use Rattle.rules.specs.Applied.{Filled, Outcome}
use Rattle.rules.proofs.TestLaws.{by_test, both, neither}
use Rattle.report_lines.specs.Framing.{count_size, cells_named, heads_end, own_size, frame_of, stops_at}
use Rattle.report_turns.specs.Report.{heads_there}
use Rattle.report_turns.specs.Turns.{Program, no_cells, opened, built_from, opens, served, serves, step_by, step}
use Rattle.report_turns.specs.declared.Next.TheVariants.{Go, Wait, Stop}
use Rattle.report_turns.proofs.RequestLaws.{by_some}
use Rattle.report_turns.proofs.OpeningLaws.{named-most}

-- ---- a record

own-most : (l : List ℕ) → own_size l ≤ record_size + item_size current * most_items
unfolding own_size
own-most l =
    by_test (leb record_size (length l) && leb (item_count l) most_items)
    (λ (e : (leb record_size (length l) && leb (item_count l) most_items) ≡ true).
    rw e (omega (arith, leb-true (item_count l) most_items (both (leb record_size (length l)) (leb (item_count l) most_items) e).1)))
    (λ (e : (leb record_size (length l) && leb (item_count l) most_items) ≡ false). rw e (omega arith))

none_framed : (l : List ℕ) → frame_of l false ≡ None → length l < own_size l
unfolding frame_of
none_framed l e =
    by_test (leb (own_size l) (length l)) (λ (t : leb (own_size l) (length l) ≡ true). let some : Some (own_size l) ≡ None = rw t at e in cc)
    (λ (t : leb (own_size l) (length l) ≡ false). leb-false (own_size l) (length l) t)

served-goes : (p : Program) (size : ℕ) (o : Outcome) → (served p size o).next ≡ Wait → ⊥
unfolding served
served-goes p size o w =
    by_test (stops_at o.number) (λ (t : stops_at o.number ≡ true). let z : Stop ≡ Wait = rw t at w in cc)
    (λ (t : stops_at o.number ≡ false). let z : Go ≡ Wait = rw t at w in cc)

serves-short : (ended : Bool) (p : Program) (l : List ℕ) → (serves ended p l).next ≡ Wait → length l < heads_end most_cells
unfolding serves
serves-short ended p l w =
    by_some (frame_of l ended) (none ended w)
    (λ (size : ℕ) (e : frame_of l ended ≡ Some size). absurd (served-goes p size _ (rw e at w)))
  where
    none : (b : Bool) → (serves b p l).next ≡ Wait → frame_of l b ≡ None → length l < heads_end most_cells
    none true v e = let z : Stop ≡ Wait = rw e at v in cc
    none false v e = omega (arith, none_framed l e, own-most l)

-- ---- the heads

part_of-heads : (l : List ℕ) → heads_there l ≡ None → no_cells l ≡ false → length l < heads_end most_cells
part_of-heads l e k =
    by_test (leb count_size (length l)) (λ (t : leb count_size (length l) ≡ true). by_some (cells_named l) (none t) (some t))
    (λ (t : leb count_size (length l) ≡ false). omega (arith, leb-false count_size (length l) t))
  where
    none : leb count_size (length l) ≡ true → cells_named l ≡ None → length l < heads_end most_cells
    none t z = let no : true ≡ false = rw (t, z) at k in cc

    some : leb count_size (length l) ≡ true → (n : ℕ) → cells_named l ≡ Some n → length l < heads_end most_cells
    some t n z =
        by_test (leb (heads_end n) (length l)) (λ (h : leb (heads_end n) (length l) ≡ true). let no : Some n ≡ None = rw (t, z, h) at e in cc)
        (λ (h : leb (heads_end n) (length l) ≡ false). omega (arith, leb-false (heads_end n) (length l) h, named-most l n z))

opened-goes : (n : ℕ) (p : Program) (f : Filled) → (opened n p f).next ≡ Wait → ⊥
unfolding opened
opened-goes n p f w =
    by_test (eqb f.number 0) (λ (e : eqb f.number 0 ≡ true). let z : Go ≡ Wait = rw e at w in cc)
    (λ (e : eqb f.number 0 ≡ false). let z : Stop ≡ Wait = rw e at w in cc)

opens-short : (ended : Bool) (p : Program) (l : List ℕ) → (opens ended p l).next ≡ Wait → length l < heads_end most_cells
unfolding opens
opens-short ended p l w =
    by_some (heads_there l)
    (λ (e : heads_there l ≡ None). by_test (ended || no_cells l)
    (λ (o : ended || no_cells l ≡ true). let z : Stop ≡ Wait = rw (e, o) at w in cc)
    (λ (o : ended || no_cells l ≡ false). part_of-heads l e (neither ended (no_cells l) o).1))
    (λ (n : ℕ) (e : heads_there l ≡ Some n). absurd (opened-goes n p (built_from n p l) (rw e at w)))

-- ---- a turn

pub waits-short : (ended : Bool) (p : Program) (l : List ℕ) → (step ended p l).next ≡ Wait → length l < heads_end most_cells
unfolding step
waits-short ended p l = go p.cells
  where
    go : (cells : Option ℕ) → (step_by ended p l cells).next ≡ Wait → length l < heads_end most_cells
    go None = opens-short ended p l
    go (Some n) = serves-short ended p l

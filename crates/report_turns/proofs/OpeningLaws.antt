-- N and the heads: what stands at the front of the bytes at hand stands at the front of the whole input, so the table that is built of
-- them, or the refusal, is that of the whole.
use Rattle.std.specs.Prelude.{Some, None, is_none}
use mathlib.Core.Path.{◌≡◌, refl, ap}
use mathlib.Core.Bool.{Bool, true, false, ◌&&◌, ◌||◌}
use mathlib.Core.List.{List, ◌∷◌, ◌++◌, append-nil}
use Prim.Native.Nat.{ℕ, zero, suc, ◌+◌, ◌-◌, ◌*◌, ◌≤◌}
use native.Mathlib.Omega.{arith}
use lib.Dec.{eqb, leb}
use lib.ListN.{length, take, drop, replicate, length-append, length-drop}
use lib.Seq.{take-append-le, drop-append-le}
use borrow.Author.Tests.{leb-true, le-leb}
use Rattle.octets.specs.Numbers.{be}
use Rattle.rules.specs.Layout.{current, head_size, most_cells}
use Rattle.rules.specs.Applied.{Filled, built}
use Rattle.rules.proofs.TestLaws.{by_test, both}
use Rattle.report_lines.specs.Text.{no_text}
use Rattle.report_lines.specs.Framing.{count_size, cells_named, heads_end}
use Rattle.report_turns.specs.Report.{answer_room, table_size, heads_there, opened_said, report}
use Rattle.report_turns.specs.Turns.{begun, no_cells, opened, opens}
use Rattle.report_turns.specs.declared.Next.TheVariants.{Wait}
use Rattle.report_turns.proofs.RoomLaws.{room_within}
use Rattle.report_turns.proofs.RequestLaws.{by_some}
use Rattle.report_turns.proofs.TurnLaws.{still, NoMore, in_all}

take-replicate : {A : Type 0} (n m : ℕ) (x : A) → n ≤ m → take n (replicate m x) ≡ replicate n x
take-replicate zero m x h = refl
take-replicate (suc n) zero x h = absurd (omega arith)
take-replicate (suc n) (suc m) x h = ap (λ xs. x ∷ xs) (take-replicate n m x (omega arith))

pub named-most : (l : List ℕ) (n : ℕ) → cells_named l ≡ Some n → n ≤ most_cells
unfolding cells_named
named-most l n e =
    let m : ℕ = be (take count_size l) in
    by_test (leb 1 m && leb m most_cells)
    (λ (t : (leb 1 m && leb m most_cells) ≡ true).
    let some : Some m ≡ Some n = rw t at e in
    let same : m ≡ n = cc in
    omega (arith, leb-true m most_cells (both (leb 1 m) (leb m most_cells) t).1))
    (λ (t : (leb 1 m && leb m most_cells) ≡ false). let none : None ≡ Some n = rw t at e in cc)

pub named-least : (l : List ℕ) (n : ℕ) → cells_named l ≡ Some n → 1 ≤ n
unfolding cells_named
named-least l n e =
    let m : ℕ = be (take count_size l) in
    by_test (leb 1 m && leb m most_cells)
    (λ (t : (leb 1 m && leb m most_cells) ≡ true).
    let some : Some m ≡ Some n = rw t at e in
    let same : m ≡ n = cc in
    omega (arith, leb-true 1 m (both (leb 1 m) (leb m most_cells) t).0))
    (λ (t : (leb 1 m && leb m most_cells) ≡ false). let none : None ≡ Some n = rw t at e in cc)

-- ---- the heads at hand

pub record There (l : List ℕ) (n : ℕ) : Type 0 where
  pub counted : count_size ≤ length l
  pub named : cells_named l ≡ Some n
  pub few : n ≤ most_cells
  pub within : heads_end n ≤ length l

pub there : (l : List ℕ) (n : ℕ) → heads_there l ≡ Some n → There l n
there l n e =
    by_test (leb count_size (length l)) (λ (t : leb count_size (length l) ≡ true). by_some (cells_named l) (none t) (some t))
    (λ (t : leb count_size (length l) ≡ false). let z : None ≡ Some n = rw t at e in cc)
  where
    none : leb count_size (length l) ≡ true → cells_named l ≡ None → There l n
    none t k = let z : None ≡ Some n = rw (t, k) at e in cc

    some : leb count_size (length l) ≡ true → (m : ℕ) → cells_named l ≡ Some m → There l n
    some t m k =
        by_test (leb (heads_end m) (length l))
        (λ (h : leb (heads_end m) (length l) ≡ true).
        let z : Some m ≡ Some n = rw (t, k, h) at e in
        let same : m ≡ n = cc in
        record {
          counted = leb-true count_size (length l) t;
          named = rw (← same) k;
          few = omega (arith, named-most l m k);
          within = omega (arith, leb-true (heads_end m) (length l) h);
        })
        (λ (h : leb (heads_end m) (length l) ≡ false). let z : None ≡ Some n = rw (t, k, h) at e in cc)

-- ---- the front stays

module _ (l more : List ℕ) where
  cells_stay : count_size ≤ length l → cells_named (l ++ more) ≡ cells_named l
  unfolding cells_named
  cells_stay h = rw (take-append-le count_size l more h)

  there_stays : (n : ℕ) → There l n → heads_there (l ++ more) ≡ Some n
  there_stays n t =
      let k : length (l ++ more) ≡ length l + length more = length-append l more in
      rw (cells_stay t.counted, t.named, le-leb count_size (length (l ++ more)) (omega (arith, t.counted)), le-leb (heads_end n) (length (l ++ more)) (omega (arith, t.within)))

  heads_stay : (n : ℕ) → There l n → take (head_size current * n) (drop count_size (l ++ more)) ≡ take (head_size current * n) (drop count_size l)
  heads_stay n t =
      let d : length (drop count_size l) ≡ length l - count_size = length-drop count_size l in
      rw (drop-append-le count_size l more t.counted) (take-append-le (head_size current * n) (drop count_size l) more (omega (arith, t.within)))

  -- ---- a table, or the builder's refusal

  opened-said : (n : ℕ) → There l n → (f : Filled)
      → in_all (opened n begun f) l more ≡ opened_said n f (drop (heads_end n) (l ++ more))
  unfolding opened in_all still opened_said
  opened-said n t f =
      let room = room_within n (answer_room most_cells) t.few (omega arith) in
      by_test (eqb f.number 0)
      (λ (e : eqb f.number 0 ≡ true).
      rw (e, take-replicate {A = ℕ} (answer_room n) (answer_room most_cells) 0 room, drop-append-le (heads_end n) l more t.within))
      (λ (e : eqb f.number 0 ≡ false). rw (e, append-nil (no_text f.number)))

  heads-said : (ended : Bool) (n : ℕ) → heads_there l ≡ Some n → in_all (opens ended begun l) l more ≡ report (l ++ more)
  unfolding opens report
  heads-said ended n e =
      let t = there l n e in
      rw (e, there_stays n t, heads_stay n t, take-replicate {A = ℕ} (table_size n) (table_size most_cells) 0 (omega (arith, t.few)))
      (opened-said n t (built (take (head_size current * n) (drop count_size l)) (replicate (table_size n) 0)))

  -- ---- no table

  not_there : (ended : Bool) → NoMore ended more → heads_there l ≡ None → ended || no_cells l ≡ true → heads_there (l ++ more) ≡ None
  not_there true none e o = rw (none refl, append-nil l) e
  not_there false none e o =
      let b = both (leb count_size (length l)) (is_none (cells_named l)) o in
      let k : length (l ++ more) ≡ length l + length more = length-append l more in
      let c : count_size ≤ length l = leb-true count_size (length l) b.0 in
      by_some (cells_named l)
      (λ (z : cells_named l ≡ None). rw (cells_stay c, z, le-leb count_size (length (l ++ more)) (omega arith)))
      (λ (n : ℕ) (z : cells_named l ≡ Some n). let no : false ≡ true = rw z at b.1 in cc)

  refused-said : (ended : Bool) → NoMore ended more → heads_there l ≡ None → ((opens ended begun l).next ≡ Wait → ⊥) → in_all (opens ended begun l) l more ≡ report (l ++ more)
  unfolding opens report in_all
  refused-said ended none e goes =
      by_test (ended || no_cells l)
      (λ (o : ended || no_cells l ≡ true). rw (e, o, not_there ended none e o) (append-nil (no_text 9)))
      (λ (o : ended || no_cells l ≡ false). absurd (goes (rw (e, o))))

  pub opens-said : (ended : Bool) → NoMore ended more → ((opens ended begun l).next ≡ Wait → ⊥) → in_all (opens ended begun l) l more ≡ report (l ++ more)
  opens-said ended none goes =
      by_some (heads_there l) (λ (e : heads_there l ≡ None). refused-said ended none e goes) (λ (n : ℕ) (e : heads_there l ≡ Some n). heads-said ended n e)

pub at_least : (l : List ℕ) (n : ℕ) → heads_there l ≡ Some n → 1 ≤ n
at_least l n e = named-least l n (there l n e).named

pub within : (l : List ℕ) (n : ℕ) → heads_there l ≡ Some n → heads_end n ≤ length l
within l n e = (there l n e).within

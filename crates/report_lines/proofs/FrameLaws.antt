-- Laws of framing: each case of N, of a record's own size and of the next frame; and what moving bytes to the front leaves.
use Rattle.std.specs.Prelude.{Some, None, ◌⊎◌}
use Rattle.std.specs.Bool.{then_some}
use Rattle.std.specs.List.{copy_within}
use mathlib.Core.Path.{◌≡◌, sym, ap}
use mathlib.Core.Bool.{Bool, true, false, not, ◌&&◌}
use mathlib.Core.List.{List, ◌++◌}
use Prim.Native.Nat.{ℕ, ◌+◌, ◌-◌, ◌*◌, ◌≤◌, ◌<◌}
use native.Mathlib.Omega.{arith}
use lib.Dec.{eqb, leb}
use lib.ListN.{length, take, drop, length-drop}
use lib.Seq.{sets, length-take-le}
use borrow.Author.Tests.{le-leb, lt-leb, leb-true, ne_eqb}
use Rattle.octets.specs.Runs.{gets}
use Rattle.octets.specs.Numbers.{be}
use Rattle.octets.proofs.RunsLaws.{gets_eq, sets_front}
use Rattle.rules.proofs.TestLaws.{by_test}
use Rattle.rules.specs.Layout.{current, most_cells, record_size, item_size, most_items}
use Rattle.rules.specs.Record.{item_count}
use Rattle.report_lines.specs.Framing.{count_size, cells_named, own_size, frame_of}

-- ---- N

module _ (l : List ℕ) (n : ℕ) (e : n ≡ be (gets l 0 count_size)) (long : count_size ≤ length l) where
  pub cells_some : 1 ≤ n → n ≤ most_cells → Some n ≡ cells_named l
  unfolding cells_named
  cells_some some few = rw (← gets_eq count_size l 0 long, ← e, le-leb 1 n some, le-leb n most_cells few)

  pub cells_none : (n ≡ 0) ⊎ (most_cells < n) → None ≡ cells_named l
  unfolding cells_named
  cells_none out =
      rw (← gets_eq count_size l 0 long, ← e)
      (by_test (leb 1 n) (λ (t : leb 1 n ≡ true). rw (t, lt-leb n most_cells (omega (arith, out, leb-true 1 n t)))) (λ (t : leb 1 n ≡ false). rw t))

-- ---- a record's own size

pub own-cut : (l : List ℕ) → length l < record_size → record_size ≡ own_size l
unfolding own_size
own-cut l h = rw (lt-leb record_size (length l) h)

pub own-many : (l : List ℕ) (n : ℕ) → record_size ≤ length l → n ≡ item_count l → most_items < n → record_size ≡ own_size l
unfolding own_size
own-many l n h e k = rw (le-leb record_size (length l) h, ← e, lt-leb n most_items k)

pub own-whole : (l : List ℕ) (n : ℕ) → record_size ≤ length l → n ≡ item_count l → n ≤ most_items → record_size + item_size current * n ≡ own_size l
unfolding own_size
own-whole l n h e k = rw (le-leb record_size (length l) h, ← e, le-leb n most_items k)

-- ---- the next frame

module _ (l : List ℕ) (size : ℕ) (e : size ≡ own_size l) where
  pub frame-whole : (ended : Bool) → size ≤ length l → Some size ≡ frame_of l ended
  unfolding frame_of
  frame-whole ended h = rw (← e, le-leb size (length l) h)

  pub frame-left : (ended : Bool) → length l < size → then_some (ended && not (eqb (length l) 0)) (length l) ≡ frame_of l ended
  unfolding frame_of
  frame-left ended h = rw (← e, lt-leb size (length l) h)

  pub frame-cut : 0 < length l → length l < size → Some (length l) ≡ frame_of l true
  frame-cut some h = rw (ne_eqb (length l) 0 (omega arith)) at (frame-left true h)

-- ---- bytes moved to the front

-- what `copy_within` leaves
pub moved : (b : List ℕ) (from to : ℕ) → from ≤ to → to ≤ length b → copy_within b from to 0 ≡ sets b 0 (gets b from (to - from))
moved b from to h k =
    let part : List ℕ = take (to - from) (drop from b) in
    let run : gets b from (to - from) ≡ part = gets_eq (to - from) b from (omega arith) in
    let long : length part ≡ to - from = length-take-le (to - from) (drop from b) (omega (arith, length-drop from b)) in
    sym (rw (run, sets_front b part (omega arith), long) (ap (λ (k : ℕ). part ++ drop k b) (omega arith)))

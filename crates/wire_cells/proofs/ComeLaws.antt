-- The cells of a list, written one behind the other, each in the same number of bytes: storing all of them into the buffer as it was is storing those that
-- are still to come into it as it is. A turn takes the first entry of those to come; the list is whole, so that there is one, and a cell's.
use mathlib.Core.Path.{◌≡◌, refl, sym, ap, ◌∙◌}
use mathlib.Core.Bool.{false}
use mathlib.Core.List.{List, [], ◌∷◌, ◌++◌, flat_map}
use Prim.Native.Nat.{ℕ, suc, ◌+◌, ◌-◌, ◌*◌, ◌<◌, ◌≤◌}
use native.Mathlib.Omega.{arith}
use lib.Dec.{eqb}
use lib.ListN.{length, drop}
use lib.Seq.{sets, length-sets}
use borrow.Author.Tests.{eqb-true, eqb-false}
use Rattle.octets.specs.Runs.{gets}
use Rattle.octets.specs.Numbers.{be}
use Rattle.octets.proofs.PiecesLaws.{one_less_lem}
use Rattle.octets.proofs.RunsLaws.{sets-run}
use Rattle.rules.specs.Lists.{any}
use Rattle.rules.specs.Reply.{Row}
use Rattle.rules.proofs.TestLaws.{by_test, neither}
use Rattle.formats.specs.Format.{found, several}
use Rattle.formats.specs.Summary.{summed}
use Rattle.formats.proofs.SummaryLaws.{found-value, found-rest}
use Rattle.formats.proofs.FoundLaws.{Several, several-more, several-none}
use Rattle.aper.specs.Elements.{Element}
use Rattle.wire.specs.Cells.{Entry, entry_element}
use Rattle.wire.specs.MessageRefusals.{foreign_entry}
use Rattle.wire.specs.MessageSaid.{row_in, rows_in}
use Rattle.wire.specs.declared.Message.{Message}
use Rattle.wire_cells.specs.Listed.{JudgedList, rows_listed, OwnEntry, row_said, CellAt}
use Rattle.wire_cells.specs.declared.Cell.{Cell}
use Rattle.wire_cells.proofs.WholeListLaws.{Entries, entries, no_cells_lem, none-counted, some-counted}

-- a row as it is stored, and where the first of them stands
module _ (m : Message) (stored : Row → List ℕ) (size from : ℕ) (sized : (w : Row) → length (stored w) ≡ size) where
  pub record ToCome (before l buffer : List ℕ) (left at out : ℕ) : Type 0 where
    pub entries : List (Element Entry)
    pub within : at ≤ length l
    pub come : several (entry_element m) left (drop at l) ≡ found entries []
    pub own : any foreign_entry entries ≡ false
    pub long : length buffer ≡ length before
    pub room : out + size * left ≤ length buffer
    pub same : sets before from (flat_map stored (rows_listed m l)) ≡ sets buffer out (flat_map stored (rows_in entries))

  -- ---- its start

  module _ (before l : List ℕ) where
    -- where there is no list, nothing is stored
    pub none_come : length l ≡ 0 → before ≡ sets before from (flat_map stored (rows_listed m l))
    unfolding flat_map
    none_come e = rw (no_cells_lem m l e)

    pub come_start : (a : Entries m l) {k : ℕ} → k ≡ be (gets l 0 2) → from + size * length (rows_listed m l) ≤ length before → ToCome before l before (k + 1) 2 from
    come_start a {k} e fits =
        let many : k + 1 ≡ length (rows_listed m l) = (some-counted m l a e).counts in
        record {
          entries = a.all;
          within = a.long;
          come = rw e a.come;
          own = a.own;
          long = refl;
          room = rw many fits;
          same = rw a.rows;
        }

  -- ---- a turn

  module _ {before l buffer : List ℕ} {left at out : ℕ} (w : ToCome before l buffer left at out) where
    pub come_done : left ≤ 0 → buffer ≡ sets before from (flat_map stored (rows_listed m l))
    unfolding rows_in flat_map
    come_done none =
        let e : left ≡ 0 = omega arith in
        let empty : w.entries ≡ [] = several-none (entry_element m) (drop at l) w.entries [] (ap (λ (n : ℕ). several (entry_element m) n (drop at l)) (sym e) ∙ w.come) in
        sym (w.same ∙ ap (λ (es : List (Element Entry)). sets buffer out (flat_map stored (rows_in es))) empty)

    module _ (some : 0 < left) where
      next : Several (entry_element m) (left - 1) (drop at l) w.entries []
      next =
          let e : suc (left - 1) ≡ left = omega arith in
          several-more (entry_element m) (left - 1) (drop at l) w.entries [] (ap (λ (n : ℕ). several (entry_element m) n (drop at l)) e ∙ w.come)

      each_own : (foreign_entry next.value ≡ false) × (any foreign_entry next.others ≡ false)
      unfolding any
      each_own = neither (foreign_entry next.value) (any foreign_entry next.others) (sym (ap (any foreign_entry) next.all) ∙ w.own)

      pub come_entry : OwnEntry m l at
      come_entry = record { within = w.within; entry = next.value; rest = next.rest; there = next.first; own = each_own.0 }

      pub come_room : out + size ≤ length buffer
      come_room = omega (arith, one_less_lem size some, w.room)

      module _ (c : Cell) (cell : CellAt m l at c) (after : List ℕ) (put : after ≡ sets buffer out (stored (row_said c))) where
        told : found (row_in next.value.contents) next.rest ≡ found (row_said c ∷ []) (drop c.end l)
        told = ap (summed (λ (e : Element Entry). row_in e.contents)) (sym next.first) ∙ cell.says

        row : row_in next.value.contents ≡ row_said c ∷ []
        row = found-value (row_in next.value.contents) (row_said c ∷ []) next.rest (drop c.end l) told

        rows_left : rows_in w.entries ≡ row_said c ∷ rows_in next.others
        unfolding rows_in flat_map
        rows_left = ap rows_in next.all ∙ ap (λ (ws : List Row). ws ++ rows_in next.others) row

        stored-left : sets buffer out (flat_map stored (row_said c ∷ rows_in next.others)) ≡ sets after (out + size) (flat_map stored (rows_in next.others))
        unfolding flat_map
        stored-left = rw put (sym (sets-run (stored (row_said c)) (flat_map stored (rows_in next.others)) buffer out (out + size) (rw (sized (row_said c)))))

        pub come_next : ToCome before l after (left - 1) c.end (out + size)
        come_next =
            let kept : length after ≡ length buffer = ap length put ∙ length-sets buffer out (stored (row_said c)) in
            record {
              entries = next.others;
              within = cell.ends;
              come = ap (several (entry_element m) (left - 1)) (sym (found-rest (row_in next.value.contents) (row_said c ∷ []) next.rest (drop c.end l) told)) ∙ next.later;
              own = each_own.1;
              long = kept ∙ w.long;
              room = omega (arith, one_less_lem size some, w.room, kept);
              same = w.same ∙ ap (λ (ws : List Row). sets buffer out (flat_map stored ws)) rows_left ∙ stored-left;
            }

  -- ---- between two turns, where there may be no list

  pub record Coming (before l buffer : List ℕ) (left at out : ℕ) : Type 0 where
    pub to_come : 0 < left → ToCome before l buffer left at out
    pub done : left ≤ 0 → buffer ≡ sets before from (flat_map stored (rows_listed m l))

  module _ (before l : List ℕ) where
    come_whole : {buffer : List ℕ} {left at out : ℕ} → ToCome before l buffer left at out → Coming before l buffer left at out
    come_whole w = record { to_come = λ some. w; done = come_done w }

    pub coming_start : JudgedList m l → {n : ℕ} → n ≡ length (rows_listed m l) → from + size * length (rows_listed m l) ≤ length before → Coming before l before n 2 from
    coming_start judged {n} many fits =
        by_test (eqb (length l) 0)
        (λ t.
        let e = eqb-true (length l) 0 t in
        let none : n ≡ 0 = many ∙ sym (none-counted m l e).counts in
        record { to_come = λ some. absurd (omega (arith, none)); done = λ nothing. none_come before l e })
        (λ t.
        let a = entries m l (eqb-false (length l) 0 t) judged in
        rw (many, ← (some-counted m l a refl).counts) (come_whole (come_start before l a refl fits)))

    module _ {buffer : List ℕ} {left at out : ℕ} (w : Coming before l buffer left at out) (some : 0 < left) where
      pub coming_entry : OwnEntry m l at
      coming_entry = come_entry (w.to_come some) some

      -- stored where the rows so far end: an equation, so that the index may be spelled in another way
      pub coming_next : (c : Cell) → CellAt m l at c → (after : List ℕ) → {i : ℕ} → after ≡ sets buffer i (stored (row_said c)) → i ≡ out
          → {later : ℕ} → later ≡ left - 1 → Coming before l after later c.end (out + size)
      coming_next c cell after put where_to less = rw less (come_whole (come_next (w.to_come some) some c cell after (rw where_to at put)))

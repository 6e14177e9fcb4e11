-- A list of cells that is whole and has no foreign item: its entries, and that they are as many as the list says.
use mathlib.Core.Path.{◌≡◌, refl, sym, ap, ◌∙◌}
use mathlib.Core.Bool.{Bool, false, ◌||◌, false≢true}
use mathlib.Core.List.{List, [], ◌∷◌, ◌++◌, flat_map}
use Prim.Native.Nat.{ℕ, suc, ◌+◌, ◌-◌, ◌<◌, ◌≤◌}
use native.Mathlib.Omega.{arith}
use lib.Dec.{ltb}
use lib.ListN.{length, take, drop, length-drop}
use lib.Seq.{length-take-le}
use borrow.Author.Tests.{lt-ltb, le-ltb, ltb-true, ltb-false}
use Rattle.octets.specs.Runs.{gets}
use Rattle.octets.specs.Numbers.{be}
use Rattle.rules.specs.Lists.{any}
use Rattle.rules.proofs.TestLaws.{by_test}
use Rattle.formats.specs.Format.{Found, nothing, found, behind, only, as_if, several, times}
use Rattle.formats.proofs.ReadLaws.{number_cut, number-found}
use Rattle.formats.proofs.SummaryLaws.{nothing-found}
use Rattle.aper.specs.Elements.{Element, from_one}
use Rattle.wire.specs.Cells.{Entry, listed, foreign, entry_element, list}
use Rattle.wire.specs.MessageRefusals.{is_foreign, foreign_entry}
use Rattle.wire.specs.MessageSaid.{row_in, rows_in}
use Rattle.wire_judge.specs.Account.{entries_in, list_at, account_by, WholeList, Lies}
use Rattle.wire_judge.specs.declared.Seen.{Seen}
use Rattle.wire.specs.declared.Message.{Message}
use Rattle.wire_cells.specs.Listed.{JudgedList, rows_listed, CellsCounted}
use Rattle.formats.proofs.FoundLaws.{several-length}

-- ---- the cells of entries, one for each

pub rows-many : (es : List (Element Entry)) → any foreign_entry es ≡ false → length (rows_in es) ≡ length es
unfolding rows_in any flat_map
rows-many [] own = refl
rows-many (e ∷ es) own = one e.contents own (rows-many es)
  where
    one : (x : Entry) → (is_foreign x || any foreign_entry es) ≡ false → (any foreign_entry es ≡ false → length (rows_in es) ≡ length es)
        → length (row_in x ++ rows_in es) ≡ suc (length es)
    one (listed i) q many = ap suc (many q)
    one (foreign s) q many = absurd (false≢true (sym q))

-- ---- the list

-- its entries, those that are still to come where the first begins
pub record Entries (m : Message) (l : List ℕ) : Type 0 where
  pub all : List (Element Entry)
  pub long : 2 ≤ length l
  pub few : be (gets l 0 2) < 512
  pub come : several (entry_element m) (be (gets l 0 2) + 1) (drop 2 l) ≡ found all []
  pub own : any foreign_entry all ≡ false
  pub rows : rows_listed m l ≡ rows_in all

module _ (m : Message) (l : List ℕ) where
  list-cut : length l < 2 → (list m).parse l ≡ nothing
  unfolding list behind from_one as_if only
  list-cut h = rw (number_cut l 0 2 2 refl (omega arith) h)

  pub no_cells_lem : length l ≡ 0 → rows_listed m l ≡ []
  unfolding rows_listed rows_in flat_map
  no_cells_lem e = rw (list-cut (omega arith))

  pub none-counted : length l ≡ 0 → CellsCounted m l 0
  none-counted e = record { counts = ap length (sym (no_cells_lem e)); few = omega arith }

  module _ (long : 2 ≤ length l) where
    list-many : 512 ≤ be (gets l 0 2) → (list m).parse l ≡ nothing
    unfolding list behind from_one as_if only
    list-many h = rw (number-found l 0 2 2 refl long, le-ltb (be (gets l 0 2)) 512 h)

    list_come : be (gets l 0 2) < 512 → (list m).parse l ≡ several (entry_element m) (be (gets l 0 2) + 1) (drop 2 l)
    unfolding list behind from_one as_if only times
    list_come h = rw (number-found l 0 2 2 refl long, lt-ltb (be (gets l 0 2)) 512 h)

  module _ (some : length l ≡ 0 → ⊥) where
    entries_of : (ascends : Bool) (x : Found (List (Element Entry))) → (list m).parse l ≡ x → WholeList (length l) false ascends x → Entries m l
    entries_of ascends nothing e whole = absurd (some whole.0)
    entries_of ascends (found es []) e whole =
        by_test (ltb (length l) 2)
        (λ t. absurd (nothing-found es [] (sym (list-cut (ltb-true (length l) 2 t)) ∙ e)))
        (λ t.
        let long = ltb-false (length l) 2 t in
        by_test (ltb (be (gets l 0 2)) 512)
        (λ u.
        let few = ltb-true (be (gets l 0 2)) 512 u in
        record {
          all = es;
          long = long;
          few = few;
          come = sym (list_come long few) ∙ e;
          own = (whole refl).0;
          rows = unfold rows_listed in ap (λ (x : Found (List (Element Entry))). rows_in (entries_in x)) e;
        })
        (λ u. absurd (nothing-found es [] (sym (list-many long (ltb-false (be (gets l 0 2)) 512 u)) ∙ e))))
    entries_of ascends (found es (b ∷ bs)) e whole = absurd whole

    pub entries : JudgedList m l → Entries m l
    entries j = entries_of j.ascends ((list m).parse l) refl j.whole

  pub some-counted : (a : Entries m l) {k : ℕ} → k ≡ be (gets l 0 2) → CellsCounted m l (k + 1)
  some-counted a e =
      let n = several-length (entry_element m) (be (gets l 0 2) + 1) (drop 2 l) a.all [] a.come in
      let many = ap length a.rows ∙ rows-many a.all a.own in
      record { counts = omega arith; few = omega (arith, a.few) }

-- ---- in a message

-- the list of what was seen, in its own bytes
module _ (m : Message) (l : List ℕ) (s : Seen) where
  abbrev pub part : List ℕ
  part = take (s.end - s.start) (drop s.start l)

  pub rows-said : rows_listed m part ≡ (account_by m l s).says.cells
  unfolding account_by list_at rows_listed
  rows-said = refl

  pub part-judged : Lies m l s → s.lacks ≡ false → JudgedList m part
  part-judged lies own = record { ascends = s.ascends; whole = unfold list_at in of ((list m).parse part) lies.list }
    where
      of : (x : Found (List (Element Entry))) → WholeList s.end s.lacks s.ascends x → WholeList (length part) false s.ascends x
      of nothing e =
          let inside : s.end - s.start ≤ length (drop s.start l) = rw length-drop (omega (arith, lies.ends)) in
          let none : length part ≡ 0 = length-take-le (s.end - s.start) (drop s.start l) inside ∙ omega (arith, e.0) in
          (none, e.1)
      of (found es []) whole = λ _. whole own
      of (found es (b ∷ bs)) whole = whole

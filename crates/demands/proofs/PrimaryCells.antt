-- A text that goes out every second stays so in a cell under every request that does not stop it there, and each second reports it.
-- By the request's kind; a second leaves such a place due, with period 1 and no end (rules, PrimaryLaws).
use mathlib.Core.Path.{◌≡◌, refl, sym, ap, ◌∙◌}
use mathlib.Core.Bool.{true, false, not, ◌&&◌, ◌||◌, false≢true}
use mathlib.Core.List.{List}
use Prim.Native.Nat.{ℕ, ◌<◌}
use lib.Dec.{eqb, ltb}
use lib.ListN.{length}
use borrow.Author.Tests.{eqb-true, eq-eqb, lt-ltb}
use Rattle.rules.specs.Lists.{any, those}
use Rattle.rules.specs.Layout.{places_per_cell}
use Rattle.rules.specs.Table.{Cell, is_text, running}
use Rattle.rules.specs.Record.{Kind, concurrent, cancel_all, is_primary}
use Rattle.rules.specs.InCell.{Done, starts_nothing, new_place, start, cancel, second, with_counts, later, rule_of, in_cell}
use Rattle.rules.specs.declared.Place.{Place}
use Rattle.rules.specs.declared.Request.{Request}
use Rattle.rules.proofs.ListsLaws.{some_append, some-behind, some-flat_map}
use Rattle.rules.proofs.TestLaws.{both, cond_either, by_test, neither}
use Rattle.rules.proofs.KindAreaLaws.{kind_by}
use Rattle.rules.proofs.PlaceLaws.{text_facts, facts_text}
use Rattle.rules.proofs.SecondLaws.{later-with, unending}
use Rattle.rules.proofs.PrimaryLaws.{EverySecond, due, goes_on, begins}
use Rattle.demands.specs.RowOrder.{broadcasts_of}
use Rattle.demands.specs.PrimaryRuns.{goes_out, stops_by, stops_text}

module _ (identifier serial content : ℕ) where
  -- ---- one place

  pub record Outgoing (p : Place) : Type 0 where
    pub text : is_text identifier serial p ≡ true
    pub says : p.content ≡ content
    pub goes : EverySecond p

  pub out_facts : (p : Place) → goes_out identifier serial content p ≡ true → Outgoing p
  unfolding goes_out
  out_facts p e =
      let text = is_text identifier serial p in
      let says = eqb p.content content in
      let waits = eqb p.wait.0 0 in
      let short = eqb p.period.0 1 in
      let a = both (text && says && waits && short) (eqb p.requested.0 0) e in
      let b = both (text && says && waits) short a.0 in
      let c = both (text && says) waits b.0 in
      let d = both text says c.0 in
      record {
        text = d.0;
        says = eqb-true p.content content d.1;
        goes = record { wait = eqb-true p.wait.0 0 c.1; period = eqb-true p.period.0 1 b.1; requested = eqb-true p.requested.0 0 a.1 };
      }

  pub facts_out : (p : Place) → Outgoing p → goes_out identifier serial content p ≡ true
  unfolding goes_out
  facts_out p o = rw (o.text, o.says, o.goes.wait, o.goes.period, o.goes.requested, eq-eqb content content refl)

  later-out : (p : Place) → Outgoing p → Outgoing (later p)
  unfolding is_text with_counts
  later-out p o =
      record {
        text = ap (is_text identifier serial) (later-with p) ∙ o.text;
        says = ap (λ (x : Place). x.content) (later-with p) ∙ o.says;
        goes = goes_on p o.goes;
      }

  -- ---- a cell

  abbrev live : List Place → Type 0
  live ps = any (goes_out identifier serial content) ps ≡ true

  module _ (q : Request) (ps : List Place) (here : live ps) where
    start-keeps : not (starts_nothing q) && not (running q.identifier q.serial ps) && not (concurrent q) ≡ false → live (start q ps).places
    unfolding start
    start-keeps spared =
        let P : Done → Type 0 = λ d. live d.places in
        cond_either P (starts_nothing q) _ _ (λ a. here) λ a.
        cond_either P (running q.identifier q.serial ps) _ _ (λ b. here) λ b.
        cond_either P (not (concurrent q)) _ _ (λ c. absurd (false≢true (sym (rw (a, b, c) at spared)))) λ c.
        cond_either P (ltb (length ps) places_per_cell) _ _ (λ d. some_append (goes_out identifier serial content) ps _ here) (λ d. here)

    other_text : eqb identifier q.identifier && eqb serial q.serial ≡ false → (p : Place) → Outgoing p → is_text q.identifier q.serial p ≡ false
    unfolding is_text
    other_text n p o = let t = text_facts identifier serial p o.text in rw (t.0, t.1) n

    cancel-keeps : cancel_all q || eqb identifier q.identifier && eqb serial q.serial ≡ false → live (cancel q ps).places
    unfolding cancel those any
    cancel-keeps spared =
        let n = neither (cancel_all q) (eqb identifier q.identifier && eqb serial q.serial) spared in
        rw n.0
        (some-flat_map _ (goes_out identifier serial content) (goes_out identifier serial content) ps (λ p e. rw (other_text n.1 p (out_facts p e), e)) here)

    second-keeps : live (second ps).places
    unfolding second any
    second-keeps =
        some-flat_map _ (goes_out identifier serial content) (goes_out identifier serial content) ps
        (λ p e. let o = out_facts p e in rw (unending p o.goes.requested, facts_out (later p) (later-out p o)))
        here

    pub spared_keeps : stops_text identifier serial q ps ≡ false → live (in_cell q ps).places
    unfolding stops_text in_cell
    spared_keeps spared =
        kind_by (λ (k : Kind). stops_by k identifier serial q ps ≡ false → live (rule_of k q ps).places) q.kind (λ _. start-keeps) (λ _. cancel-keeps)
        (λ _ e. absurd (false≢true (sym e))) (λ _ e. absurd (false≢true (sym e))) (λ _ _. second-keeps) (λ _. here) spared

  -- ---- its row

  pub second_reports : (c : Cell) → live c.places → any (λ w. eqb w.identity c.head.identity && eqb w.content content) (broadcasts_of c) ≡ true
  unfolding any
  second_reports c here =
      some-flat_map _ (goes_out identifier serial content) (λ w. eqb w.identity c.head.identity && eqb w.content content) c.places
      (λ p e. let o = out_facts p e in rw (due p o.goes, o.says, eq-eqb content content refl, eq-eqb c.head.identity c.head.identity refl))
      here

-- ---- its start

new-goes : (q : Request) → is_primary q ≡ true → goes_out q.identifier q.serial q.content (new_place q) ≡ true
unfolding new_place
new-goes q e =
    facts_out q.identifier q.serial q.content (new_place q)
    (record { text = facts_text q.identifier q.serial (new_place q) refl refl; says = refl; goes = begins q e })

pub start-goes : (q : Request) (ps : List Place) → is_primary q ≡ true → running q.identifier q.serial ps ≡ false → (concurrent q ≡ true → length ps < places_per_cell)
    → any (goes_out q.identifier q.serial q.content) (start q ps).places ≡ true
unfolding start starts_nothing any
start-goes q ps e new room =
    by_test (concurrent q)
    (λ c. rw (e, new, c, lt-ltb (length ps) places_per_cell (room c)) (some-behind (goes_out q.identifier q.serial q.content) ps _ (rw (new-goes q e))))
    (λ c. rw (e, new, c, new-goes q e))

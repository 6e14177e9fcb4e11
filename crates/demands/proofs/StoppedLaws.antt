-- A row of a cell means that a text stopped in it, and a cell without a row is as it was.
-- Of places first: by flag 2, and else by whether the text is live; then of a cell, by whether it is reached.
use mathlib.Core.Path.{◌≡◌, refl, sym, ap, ◌∙◌}
use mathlib.Core.Bool.{true, false}
use mathlib.Core.List.{List, [], ◌∷◌}
use Prim.Native.Nat.{ℕ, ◌+◌, ◌≤◌, ◌<◌}
use native.Mathlib.Omega.{arith}
use lib.ListN.{length, length-map}
use Rattle.rules.specs.Layout.{current}
use Rattle.rules.specs.Table.{Cell, is_text, running, different}
use Rattle.rules.specs.Record.{cancel_or_kill, cancel_all}
use Rattle.rules.specs.Reach.{reaches}
use Rattle.rules.specs.Reply.{row_by}
use Rattle.rules.specs.InCell.{Done, reported_if_live, cancel, in_cell}
use Rattle.rules.specs.Sound.{sound_head, sound_places, sound_cell}
use Rattle.rules.specs.declared.Request.{Request}
use Rattle.rules.specs.declared.Place.{Place}
use Rattle.rules.proofs.TestLaws.{both, by_test}
use Rattle.rules.proofs.ListsLaws.{made_left}
use Rattle.rules.proofs.InCellLaws.{in_cell-cancel}
use Rattle.rules.proofs.CancelLaws.{cancel_absent, cancel-found}
use Rattle.rules.proofs.SoundPlaceLaws.{places_facts}
use Rattle.rules.proofs.StepLaws.{step-reached, step_unreached, rows-reached, rows_unreached}
use Rattle.wire.specs.MessageSaid.{said_in}
use Rattle.wire.specs.CancelRead.{named, cancel_request}
use Rattle.wire.specs.declared.Message.TheVariants.{CancelRequest}
use Rattle.demands.specs.WireChain.{Told}

-- ---- places

-- so many rows, and the places before and after
record Stops (ps : List Place) (d : Done) : Type 0 where
  none : length d.rows ≡ 0 → d.places ≡ ps
  some : (length d.rows ≡ 0 → ⊥) → length d.places < length ps
  one : length d.rows ≤ 1

-- flag 2
all_stop : (ps : List Place) → Stops ps (record { places = []; rows = reported_if_live ps })
unfolding reported_if_live
all_stop [] = record { none = λ z. refl; some = λ h. absurd (h refl); one = omega arith }
all_stop (p ∷ ps) = record { none = λ z. absurd (omega (arith, z)); some = λ h. omega arith; one = omega arith }

module _ (q : Request) (ps : List Place) where
  -- what stops is left out
  rows_left : cancel_all q ≡ false → length (cancel q ps).rows + length (cancel q ps).places ≡ length ps
  unfolding cancel
  rows_left a = rw a (made_left (is_text q.identifier q.serial) _ ps)

  cancel-stops : different ps ≡ true → Stops ps (cancel q ps)
  unfolding cancel
  cancel-stops d =
      by_test (cancel_all q) (λ a. rw a (all_stop ps)) λ a.
      by_test (running q.identifier q.serial ps)
      (λ r.
      let one = cancel-found q ps a d r in
      record { none = λ z. absurd (omega (arith, one, z)); some = λ h. omega (arith, one, rows_left a); one = omega (arith, one) })
      (λ r.
      let absent = cancel_absent q ps a r in
      let no : length (cancel q ps).rows ≡ 0 = ap length absent.1 in
      record { none = λ z. absent.0; some = λ h. absurd (h no); one = omega (arith, no) })

-- ---- a cell

empty : {A : Type 0} (xs : List A) → length xs ≡ 0 → xs ≡ []
empty [] z = refl
empty (x ∷ xs) z = absurd (omega (arith, z))

module _ (message : List ℕ) (c : Cell) where
  abbrev q : Request
  q = cancel_request (said_in CancelRequest message)

  abbrev items : List ℕ
  items = named (said_in CancelRequest message)

  kind : q.kind ≡ cancel_or_kill
  unfolding cancel_request
  kind = refl

  reached : reaches q.area items c.head ≡ true → Stops c.places (in_cell q c.places) → Told message c
  reached r s =
      let told = (in_cell q c.places).rows in
      let rows = rows-reached q items c r in
      let many = ap length rows ∙ length-map told (row_by c) in
      let step = step-reached q items c r in
      record {
        none = λ e. step ∙ ap (λ (ps : List Place). record { head = c.head; places = ps }) (s.none (sym many ∙ ap length e));
        some = λ h. rw step (s.some (λ z. h (empty _ (many ∙ z))));
        one = omega (arith, many, s.one);
      }

  unreached : reaches q.area items c.head ≡ false → Told message c
  unreached r =
      let rows = rows_unreached q items c r in
      record {
        none = λ e. step_unreached q items c r;
        some = λ h. absurd (h rows);
        one = omega (arith, ap length rows);
      }

  pub told-cell : sound_cell current c ≡ true → Told message c
  unfolding sound_cell
  told-cell s =
      let apart = (places_facts current c.places (both (sound_head current c.head) (sound_places current c.places) s).1).apart in
      by_test (reaches q.area items c.head) (λ r. reached r (rw (in_cell-cancel q c.places kind) (cancel-stops q c.places apart))) unreached

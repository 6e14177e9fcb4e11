-- The rows of sound cells are sound: they fit their fields, name a cell, and have content 0 but in a second.
-- By the kind's rule, row by row.
use mathlib.Core.Path.{◌≡◌, refl}
use mathlib.Core.Bool.{Bool, true, ◌||◌}
use mathlib.Core.List.{List, flat_map}
use Prim.Native.Nat.{ℕ, ◌^◌, ◌<◌}
use native.Mathlib.Omega.{arith}
use borrow.Author.Tests.{lt-ltb, eq-eqb}
use lib.Dec.{eqb, ltb}
use Rattle.octets.specs.Fields.{none}
use Rattle.rules.specs.Lists.{every}
use Rattle.rules.specs.Layout.{Version, cell_end}
use Rattle.rules.specs.Table.{Cell, is_text}
use Rattle.rules.specs.Record.{Kind, one_second, cancel_all}
use Rattle.rules.specs.Reach.{reaches}
use Rattle.rules.specs.InCell.{Told, Done, reported, cancel, restart, failure, second, rule_of, in_cell}
use Rattle.rules.specs.Reply.{row_by, cell_rows}
use Rattle.rules.specs.Answer.{legal_row}
use Rattle.rules.specs.Sound.{fits, sound_cell, sound_row}
use Rattle.rules.specs.declared.Place.{Place}
use Rattle.rules.specs.declared.Request.{Request}
use Rattle.rules.proofs.ListsLaws.{every-flat_map, every-cond}
use Rattle.rules.proofs.TestLaws.{both, and-true, cond_either, else_or}
use Rattle.rules.proofs.AllLaws.{All, none, more, all_every, every_all, all_imply, all_both, all_map, all_of, all_append}
use Rattle.rules.proofs.KindAreaLaws.{kind_by}
use Rattle.rules.proofs.HeadCodec.{sound-head}
use Rattle.rules.proofs.CellCodec.{sound-cell}
use Rattle.rules.proofs.StartLaws.{start-rows}
use Rattle.rules.proofs.CancelLaws.{live-rows}
use Rattle.rules.proofs.InCellLaws.{told_fits, in_cell-rows-fit}

-- ---- "Content is 0 except for kind 5"

abbrev told_plain : ℕ → Told → Bool
told_plain kind x = eqb kind one_second || eqb x.content 0

plain : (kind n : ℕ) → told_plain kind (record { count = n; content = 0 }) ≡ true
plain kind n = else_or (eqb kind one_second) true (λ _. refl)

in_cell-plain : (q : Request) (ps : List Place) → every (told_plain q.kind) (in_cell q ps).rows ≡ true
unfolding in_cell cancel restart failure every
in_cell-plain q ps =
    let Plain : List Told → Type 0 = λ rows. every (told_plain q.kind) rows ≡ true in
    let zero : Plain (reported 0) = and-true _ _ (plain q.kind 0) refl in
    let live = live-rows Plain refl zero ps in
    kind_by (λ (k : Kind). Plain (rule_of k q ps).rows) q.kind
    (λ _. start-rows Plain refl zero q ps)
    (λ _. cond_either (λ (d : Done). Plain d.rows) (cancel_all q) _ _ (λ _. live)
    (λ _. every-flat_map _ (λ p. true) (told_plain q.kind) ps (λ p _. every-cond (told_plain q.kind) (is_text q.identifier q.serial p) _ (λ _. plain q.kind p.sent.0)) (every_all (λ p. true) (all_of (λ p. refl) ps))))
    (λ _. zero)
    (λ _. live)
    (λ k. every_all (told_plain q.kind) (all_of (λ x. rw (eq-eqb q.kind one_second k)) (second ps).rows))
    refl

module _ (v : Version) where
  -- ---- rows of a sound cell

  row_by-sound : (kind : ℕ) (c : Cell) → sound_cell v c ≡ true → (x : Told) → told_fits x ≡ true → told_plain kind x ≡ true → sound_row v kind (row_by c x) ≡ true
  unfolding sound_row legal_row fits
  row_by-sound kind c s x f p =
      let small : c.head.identity < cell_end = (sound-head v c.head (sound-cell v c s).0).small in
      let t = both (ltb x.count (256 ^ 2)) (ltb x.content (256 ^ 4)) f in
      rw (lt-ltb c.head.identity (256 ^ 8) (omega (arith, small)), t.0, t.1, lt-ltb c.head.identity cell_end small) p

  cell-rows-sound : (q : Request) (items : List ℕ) (c : Cell) → sound_cell v c ≡ true → All (λ w. sound_row v q.kind w ≡ true) (cell_rows q items c)
  unfolding cell_rows
  cell-rows-sound q items c s =
      let told = (in_cell q c.places).rows in
      let fit = all_every told_fits told (in_cell-rows-fit v q c.places (sound-cell v c s).1) in
      let bare = all_every (told_plain q.kind) told (in_cell-plain q c.places) in
      cond_either (All (λ w. sound_row v q.kind w ≡ true)) (reaches q.area items c.head) _ _
      (λ _. all_map (λ w. sound_row v q.kind w ≡ true) (row_by c) (all_imply (λ x h. row_by-sound q.kind c s x h.0 h.1) (all_both fit bare)))
      (λ _. none)

  pub rows-sound : (q : Request) (items : List ℕ) {cs : List Cell} → All (λ c. sound_cell v c ≡ true) cs → All (λ w. sound_row v q.kind w ≡ true) (flat_map (cell_rows q items) cs)
  unfolding flat_map
  rows-sound q items none = none
  rows-sound q items (more {x = c} s ss) = all_append (cell-rows-sound q items c s) (rows-sound q items ss)

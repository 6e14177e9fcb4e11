-- One request on one cell: its head stays, a cell that is not reached stays whole, a sound cell stays sound, and the room asked for is enough.
-- By the truth of `reaches`, then by the law of the rule in a cell.
use Rattle.std.specs.Prelude.{Ok}
use mathlib.Core.Path.{◌≡◌, refl, ap}
use mathlib.Core.Bool.{Bool, true, false, cond}
use mathlib.Core.List.{List, [], ◌∷◌, map, flat_map}
use Prim.Native.Nat.{ℕ, suc, ◌+◌, ◌*◌, ◌≤◌}
use native.Mathlib.Nat.{mul-suc}
use native.Mathlib.Omega.{arith}
use lib.ListN.{length, length-map, length-append}
use Rattle.rules.specs.Lists.{every}
use Rattle.rules.specs.Layout.{Version, longest_period}
use Rattle.rules.specs.Table.{Cell}
use Rattle.rules.specs.Reach.{reaches}
use Rattle.rules.specs.InCell.{in_cell}
use Rattle.rules.specs.Answer.{rows_per_cell}
use Rattle.rules.specs.Refusals.{request_verdict}
use Rattle.rules.specs.Applied.{step_cell}
use Rattle.rules.specs.Reply.{cell_rows, row_by}
use Rattle.rules.specs.Sound.{fit_request, sound_head, sound_places, sound_cell, identity_of_cell, sound_cells}
use Rattle.rules.specs.declared.Request.{Request}
use Rattle.rules.proofs.TestLaws.{both, and-true, cond_either}
use Rattle.rules.proofs.AllLaws.{all_imply, all_map}
use Rattle.rules.proofs.LegalTableLaws.{sound-cells, cells-sound}
use Rattle.rules.proofs.InCellLaws.{in_cell-sound, in_cell-few}

module _ (q : Request) (items : List ℕ) where
  -- ---- reached or not

  pub step-reached : (c : Cell) → reaches q.area items c.head ≡ true
      → step_cell q items c ≡ record { head = c.head; places = (in_cell q c.places).places }
  unfolding step_cell
  step-reached c e = rw e

  pub step_unreached : (c : Cell) → reaches q.area items c.head ≡ false → step_cell q items c ≡ c
  unfolding step_cell
  step_unreached c e = rw e

  pub rows-reached : (c : Cell) → reaches q.area items c.head ≡ true → cell_rows q items c ≡ map (row_by c) (in_cell q c.places).rows
  unfolding cell_rows
  rows-reached c e = rw e

  pub rows_unreached : (c : Cell) → reaches q.area items c.head ≡ false → cell_rows q items c ≡ []
  unfolding cell_rows
  rows_unreached c e = rw e

  -- ---- heads stay, so reach does not depend on what is live

  pub step-head : (c : Cell) → (step_cell q items c).head ≡ c.head
  unfolding step_cell
  step-head c = go (reaches q.area items c.head)
    where
      go : (b : Bool) → (cond {A = Cell} b (record { head = c.head; places = (in_cell q c.places).places }) c).head ≡ c.head
      go true = refl
      go false = refl

  pub step-heads : (cs : List Cell) → map (λ c. c.head) (map (step_cell q items) cs) ≡ map (λ c. c.head) cs
  step-heads [] = refl
  step-heads (c ∷ cs) = rw (step-head c, step-heads cs)

  step-identities : (cs : List Cell) → map identity_of_cell (map (step_cell q items) cs) ≡ map identity_of_cell cs
  step-identities [] = refl
  step-identities (c ∷ cs) = rw (step-head c, step-identities cs)

  pub reach_stays : (area : ℕ) (others : List ℕ) (c : Cell) → reaches area others (step_cell q items c).head ≡ reaches area others c.head
  reach_stays area others c = ap (reaches area others) (step-head c)

  -- ---- sound cells stay sound

  module _ (v : Version) (fit : fit_request q ≡ true) (allowed : request_verdict (longest_period v) q items ≡ Ok tt) where
    step-sound : (c : Cell) → sound_cell v c ≡ true → sound_cell v (step_cell q items c) ≡ true
    unfolding step_cell sound_cell
    step-sound c s =
        let h = both (sound_head v c.head) (sound_places v c.places) s in
        cond_either (λ d. sound_cell v d ≡ true) (reaches q.area items c.head) _ _
        (λ _. and-true (sound_head v c.head) _ h.0 (in_cell-sound v q items fit allowed c.places h.1))
        (λ _. s)

    pub steps_sound : (cs : List Cell) → sound_cells v cs ≡ true → sound_cells v (map (step_cell q items) cs) ≡ true
    steps_sound cs s =
        let f = sound-cells v cs s in
        let n : length (map (step_cell q items) cs) ≡ length cs = length-map cs (step_cell q items) in
        cells-sound v (map (step_cell q items) cs)
        (record {
          some = rw n f.some;
          few = rw n f.few;
          each = all_map (λ c. sound_cell v c ≡ true) (step_cell q items) (all_imply step-sound f.each);
          order = rw (step-identities cs) f.order;
        })

    -- ---- rows: at most one for each cell, or one for each place of a second

    pub rows_few : (c : Cell) → sound_cell v c ≡ true → length (cell_rows q items c) ≤ rows_per_cell q.kind
    unfolding cell_rows sound_cell
    rows_few c s =
        let h = both (sound_head v c.head) (sound_places v c.places) s in
        let told = (in_cell q c.places).rows in
        cond_either (λ l. length l ≤ rows_per_cell q.kind) (reaches q.area items c.head) (map (row_by c) told) []
        (λ _. rw (length-map told (row_by c)) (in_cell-few v q items fit allowed c.places h.1))
        (λ _. omega arith)

    pub all_rows-few : (cs : List Cell) → every (sound_cell v) cs ≡ true → length (flat_map (cell_rows q items) cs) ≤ rows_per_cell q.kind * length cs
    unfolding every flat_map
    all_rows-few [] s = omega arith
    all_rows-few (c ∷ cs) s =
        let h = both (sound_cell v c) (every (sound_cell v) cs) s in
        let m : rows_per_cell q.kind * suc (length cs) ≡ rows_per_cell q.kind * length cs + rows_per_cell q.kind = mul-suc (rows_per_cell q.kind) (length cs) in
        rw (length-append, m) (omega (arith, rows_few c h.0, all_rows-few cs h.1))

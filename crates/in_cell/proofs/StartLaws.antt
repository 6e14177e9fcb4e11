-- What a Write-Replace does in a cell, said by the search for its text: found, and nothing changes; else the new place alone, or behind the others, or nowhere in a full cell.
-- By the tests of the rule, in order; the place found tells that the text runs, and the place not found is the first free one.
use mathlib.Core.Path.{◌≡◌, sym, ◌∙◌}
use mathlib.Core.Bool.{true, false}
use mathlib.Core.List.{List, [], ◌∷◌, ◌++◌}
use Prim.Native.Nat.{ℕ, ◌<◌, ◌≤◌}
use native.Mathlib.Omega.{arith}
use borrow.Author.Tests.{lt-ltb, le-ltb}
use lib.Dec.{ltb}
use lib.ListN.{length}
use lib.Seq.{sets}
use Rattle.octets.specs.Runs.{Bytes}
use Rattle.rules.specs.Layout.{current, places_per_cell}
use Rattle.rules.specs.Table.{place_of, running}
use Rattle.rules.specs.Record.{concurrent, text_asked}
use Rattle.rules.specs.InCell.{done, reported, starts_nothing, new_place, start}
use Rattle.rules.specs.declared.Place.{Place}
use Rattle.rules.specs.declared.Request.{Request}
use Rattle.rules.proofs.AllLaws.{none}
use Rattle.rules.proofs.PlaceCodec.{FitPlace, length-place_bytes, place-again, place-live}
use Rattle.rules.proofs.PlacesCodec.{sound-place}
use Rattle.cell_read.specs.Places.{live_places, with_places, Formed, FreeAt, OnePlace, index_of}
use Rattle.cell_read.proofs.PlacesLaws.{with_places-live, with_places-formed, with_places-again}
use Rattle.in_cell.specs.Step.{rows_bytes, Ready, Stepped, StartIn}
use Rattle.in_cell.proofs.RowsLaws.{idle, told}
use Rattle.in_cell.proofs.TextLaws.{index-running}
use Rattle.in_cell.proofs.ReadyLaws.{ready_formed, ready_small}

-- ---- the rule, test by test

module _ (q : Request) (ps : List Place) (starts : starts_nothing q ≡ false) where
  start-runs : running q.identifier q.serial ps ≡ true → start q ps ≡ done ps (reported 0)
  unfolding start
  start-runs r = rw (starts, r)

  module _ (absent : running q.identifier q.serial ps ≡ false) where
    start_anew : concurrent q ≡ false → start q ps ≡ done (new_place q ∷ []) (reported 0)
    unfolding start
    start_anew a = rw (starts, absent, a)

    start-more : concurrent q ≡ true → length ps < places_per_cell → start q ps ≡ done (ps ++ (new_place q ∷ [])) (reported 0)
    unfolding start
    start-more a room = rw (starts, absent, a, lt-ltb (length ps) places_per_cell room)

    start_full : concurrent q ≡ true → places_per_cell ≤ length ps → start q ps ≡ done ps []
    unfolding start
    start_full a full = rw (starts, absent, a, le-ltb (length ps) places_per_cell full)

-- ---- the new place

module _ (q : Request) (new : List ℕ) (input : StartIn q new) where
  new-fit : FitPlace current (new_place q)
  new-fit = (sound-place current (new_place q) input.sound).0

  new-again : place_of current new ≡ new_place q
  new-again = rw input.new_place (place-again current (new_place q) new-fit)

  pub new-one : OnePlace new
  new-one =
      rw input.new_place (record { long = length-place_bytes current (new_place q); live = place-live current (new_place q) new-fit })

-- ---- in a cell, with what the search gave

-- what is known behind the search, which ended at the place with that number
pub record Begun (c out new : List ℕ) (q : Request) (at : ℕ) : Type 0 where
  pub ready : Ready c out 1
  pub input : StartIn q new
  pub bytes : Bytes c
  pub small : q.serial < 65536
  pub place : at ≡ index_of (text_asked q) (live_places c)

module _ {c out new : List ℕ} {q : Request} {at : ℕ} (b : Begun c out new q at) where
  formed : Formed c
  formed = ready_formed c out 1 b.ready b.bytes

  runs : ltb at (length (live_places c)) ≡ running q.identifier q.serial (live_places c)
  runs = rw b.place (index-running q.identifier q.serial b.small (ready_small c out 1 b.ready b.bytes))

  -- the same text is live
  pub start_repeats : at < length (live_places c) → {out' : List ℕ} → out' ≡ sets out 0 (rows_bytes c (reported 0)) → Stepped (start q (live_places c)) c out c out' 1 1
  start_repeats live {out'} rows =
      told _ c out (live_places c) 0 (start-runs q (live_places c) b.input.starts (sym runs ∙ lt-ltb at (length (live_places c)) live)) c out' formed.whole rows

  -- it is not
  module _ (first : at ≡ length (live_places c)) where
    absent : running q.identifier q.serial (live_places c) ≡ false
    absent = sym runs ∙ le-ltb at (length (live_places c)) (omega arith)

    pub free_here : at < places_per_cell → FreeAt c at
    free_here room = record { formed = formed; first = first; room = room }

    -- flag 1 absent: c₁ is the cell without its places
    module _ (alone : concurrent q ≡ false) {c₁ : List ℕ} (e : c₁ ≡ with_places c []) where
      pub free-first : FreeAt c₁ 0
      free-first =
          rw e
          (record {
            formed = with_places-formed c b.ready.size [] none (omega arith);
            first = rw (with_places-live c b.ready.size [] none (omega arith));
            room = omega arith;
          })

      pub start-alone : {c' out' : List ℕ} → c' ≡ with_places c₁ (live_places c₁ ++ (place_of current new ∷ [])) → out' ≡ sets out 0 (rows_bytes c (reported 0))
          → Stepped (start q (live_places c)) c out c' out' 1 1
      start-alone {c'} {out'} cell rows =
          let long = b.ready.size in
          let ps : List Place = new_place q ∷ [] in
          let d : c' ≡ with_places c ps =
          cell ∙ rw (e, with_places-live c long [] none (omega arith), new-again q new b.input) (with_places-again c long [] ps) in
          told _ c out ps 0 (start_anew q (live_places c) b.input.starts absent alone) c' out' d rows

    -- flag 1 present
    module _ (more : concurrent q ≡ true) where
      pub start-behind : at < places_per_cell → {c' out' : List ℕ} → c' ≡ with_places c (live_places c ++ (place_of current new ∷ [])) → out' ≡ sets out 0 (rows_bytes c (reported 0))
          → Stepped (start q (live_places c)) c out c' out' 1 1
      start-behind room {c'} {out'} cell rows =
          let rule = start-more q (live_places c) b.input.starts absent more (omega (arith, first)) in
          told _ c out (live_places c ++ (new_place q ∷ [])) 0 rule c' out' (cell ∙ rw (new-again q new b.input)) rows

      pub start_nowhere : places_per_cell ≤ at → Stepped (start q (live_places c)) c out c out 1 0
      start_nowhere full =
          idle _ c out formed (start_full q (live_places c) b.input.starts absent more (omega (arith, first)))

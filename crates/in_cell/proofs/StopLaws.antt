-- What Cancel and Failure do in a cell, said by the search for a text: the place found goes and is reported with its sent count, and without one nothing happens.
-- By the laws of the search; flag 2 is a failure.
use mathlib.Core.Path.{◌≡◌, refl, ◌∙◌}
use mathlib.Core.Bool.{true, false, false≢true}
use mathlib.Core.List.{List, [], ◌∷◌}
use Prim.Native.Nat.{ℕ, suc, ◌<◌}
use native.Mathlib.Omega.{arith}
use borrow.Author.Tests.{ltb-false, lt-ltb, le-ltb}
use lib.Dec.{ltb}
use lib.ListN.{length, get_or}
use lib.Seq.{sets}
use Rattle.rules.specs.Table.{is_text, running, different}
use Rattle.rules.specs.Record.{cancel_all, text_asked}
use Rattle.rules.specs.InCell.{done, reported, reported_if_live, cancel, failure}
use Rattle.rules.specs.declared.Place.{Place}
use Rattle.rules.specs.declared.Request.{Request}
use Rattle.rules.proofs.ListsLaws.{all_those, none_made}
use Rattle.rules.proofs.TestLaws.{by_test}
use Rattle.rules.proofs.AllLaws.{All}
use Rattle.rules.proofs.PlaceLaws.{Small}
use Rattle.cell_read.specs.Places.{live_places, with_places, Formed, no_place, place_at, index_of, without}
use Rattle.in_cell.specs.Step.{rows_bytes, Stepped}
use Rattle.in_cell.specs.Stop.{stop_text}
use Rattle.in_cell.proofs.RowsLaws.{idle, told}
use Rattle.in_cell.proofs.TextLaws.{index-running, index-left, index_made}

-- ---- cancel

module _ (text : ℕ) (ps : List Place) where
  stop-found : ltb (index_of text ps) (length ps) ≡ true → stop_text text ps ≡ done (without (index_of text ps) ps) (reported (get_or ps (index_of text ps) no_place).sent.0)
  unfolding stop_text
  stop-found e = rw e

  stop_absent : ltb (index_of text ps) (length ps) ≡ false → stop_text text ps ≡ done ps []
  unfolding stop_text
  stop_absent e = rw e

module _ (q : Request) (ps : List Place) where
  -- flag 2 is what a failure is
  pub cancel-every : cancel_all q ≡ true → cancel q ps ≡ failure ps
  unfolding cancel failure
  cancel-every a = rw a

  pub cancel-one : cancel_all q ≡ false → q.serial < 65536 → All Small ps → different ps ≡ true → cancel q ps ≡ stop_text (text_asked q) ps
  unfolding cancel running
  cancel-one a small each apart =
      let text : ℕ = text_asked q in
      let meets : ltb (index_of text ps) (length ps) ≡ running q.identifier q.serial ps = index-running q.identifier q.serial small each in
      rw a
      (by_test (running q.identifier q.serial ps)
      (λ r.
      let made = index_made q.identifier q.serial small (λ p. record { count = p.sent.0; content = 0 }) each apart r in
      rw (stop-found text ps (meets ∙ r), index-left q.identifier q.serial small each apart r, made))
      (λ r. rw (stop_absent text ps (meets ∙ r), all_those (is_text q.identifier q.serial) ps r, none_made (is_text q.identifier q.serial) (λ p. reported p.sent.0) ps r)))

-- ---- failure

pub failure-live : (ps : List Place) → ltb 0 (length ps) ≡ true → failure ps ≡ done [] (reported 0)
unfolding failure reported_if_live
failure-live [] e = absurd (false≢true e)
failure-live (p ∷ ps) e = refl

pub failure-free : (ps : List Place) → ltb 0 (length ps) ≡ false → failure ps ≡ done ps []
unfolding failure reported_if_live
failure-free [] e = refl
failure-free (p ∷ ps) e = absurd (omega (arith, ltb-false 0 (suc (length ps)) e))

-- ---- in a cell, with what a search gave

module _ (c out : List ℕ) (text at : ℕ) (e : at ≡ index_of text (live_places c)) where
  pub found_stops : at < length (live_places c) → (n : ℕ) → n ≡ (place_at c at).sent.0
      → (c' out' : List ℕ) → c' ≡ with_places c (without at (live_places c)) → out' ≡ sets out 0 (rows_bytes c (reported n))
      → Stepped (stop_text text (live_places c)) c out c' out' 1 1
  unfolding place_at
  found_stops live n en c' out' ec eo =
      let ps : List Place = live_places c in
      let h : ltb (index_of text ps) (length ps) ≡ true = rw (← e) (lt-ltb at (length ps) live) in
      told (stop_text text ps) c out (without at ps) n (stop-found text ps h ∙ rw (← e, ← en)) c' out' ec eo

  pub absent_idle : Formed c → at ≡ length (live_places c) → Stepped (stop_text text (live_places c)) c out c out 1 0
  absent_idle formed last =
      let ps : List Place = live_places c in
      let h : ltb (index_of text ps) (length ps) ≡ false = rw (← e) (le-ltb at (length ps) (omega arith)) in
      idle (stop_text text ps) c out formed (stop_absent text ps h)

-- What an accepted request does in a cell: its places stay sound, its rows are no more than document 01 has room for, and their numbers fit a row.
-- By the request's kind, from the laws of each.
use Rattle.std.specs.Prelude.{Ok}
use mathlib.Core.Path.{◌≡◌, refl}
use mathlib.Core.Bool.{Bool, true, cond, ◌&&◌}
use mathlib.Core.List.{List, [], ◌∷◌, flat_map}
use Prim.Native.Nat.{ℕ, ◌^◌, ◌≤◌, ◌<◌}
use native.Mathlib.Omega.{arith}
use lib.Dec.{ltb}
use lib.ListN.{length}
use borrow.Author.Tests.{lt-ltb}
use Rattle.rules.specs.Lists.{every}
use Rattle.rules.specs.Layout.{Version, longest_period, most_sent}
use Rattle.rules.specs.Table.{is_text}
use Rattle.rules.specs.Record.{write_replace, cancel_or_kill, restart_kind, failure_kind, one_second, cancel_all}
use Rattle.rules.specs.Sound.{sound_place, sound_places, fit_request}
use Rattle.rules.specs.InCell.{Told, Done, done, start, cancel, restart, failure, second, reported, is_due, later, rule_of, in_cell}
use Rattle.rules.specs.Answer.{rows_by, rows_per_cell}
use Rattle.rules.specs.Refusals.{request_verdict}
use Rattle.rules.specs.declared.Request.{Request}
use Rattle.rules.specs.declared.Place.{Place}
use Rattle.rules.proofs.ListsLaws.{every-flat_map, every-cond}
use Rattle.rules.proofs.TestLaws.{cond_either}
use Rattle.rules.proofs.KindAreaLaws.{kind_by}
use Rattle.rules.proofs.VerdictLaws.{request-accepted}
use Rattle.rules.proofs.SoundPlaceLaws.{SoundPlace, sound_facts, places_facts}
use Rattle.rules.proofs.StartLaws.{start-sound, start-rows, start-few}
use Rattle.rules.proofs.CancelLaws.{cancel-sound, restart-sound, failure-sound, live-rows, cancel-few, restart-few, failure-few}
use Rattle.rules.proofs.SecondLaws.{later-most, second-sound, second-few}

-- ---- the rule of each kind

module _ (q : Request) (ps : List Place) where
  pub in_cell-start : q.kind ≡ write_replace → in_cell q ps ≡ start q ps
  unfolding in_cell
  in_cell-start k = rw k

  pub in_cell-cancel : q.kind ≡ cancel_or_kill → in_cell q ps ≡ cancel q ps
  unfolding in_cell
  in_cell-cancel k = rw k

  pub in_cell-restart : q.kind ≡ restart_kind → in_cell q ps ≡ restart ps
  unfolding in_cell
  in_cell-restart k = rw k

  pub in_cell-failure : q.kind ≡ failure_kind → in_cell q ps ≡ failure ps
  unfolding in_cell
  in_cell-failure k = rw k

  pub in_cell-second : q.kind ≡ one_second → in_cell q ps ≡ second ps
  unfolding in_cell
  in_cell-second k = rw k

-- ---- by kind

-- what holds of each rule's outcome holds of the cell's; an unknown kind changes nothing
in_cell_by : (P : Done → Type 0) (q : Request) (ps : List Place) → (q.kind ≡ write_replace → P (start q ps)) → P (cancel q ps) → P (restart ps) → P (failure ps) → P (second ps) → P (done ps [])
    → P (in_cell q ps)
unfolding in_cell
in_cell_by P q ps begins stops empties drops ages rest =
    kind_by (λ k. P (rule_of k q ps)) q.kind begins (λ _. stops) (λ _. empties) (λ _. drops) (λ _. ages) rest

module _ (v : Version) where
  -- ---- an accepted request

  module _ (q : Request) (items : List ℕ) (f : fit_request q ≡ true) (e : request_verdict (longest_period v) q items ≡ Ok tt) (ps : List Place) (s : sound_places v ps ≡ true) where
    pub in_cell-sound : sound_places v (in_cell q ps).places ≡ true
    in_cell-sound =
        in_cell_by (λ d. sound_places v d.places ≡ true) q ps
        (λ k. start-sound v q items f (request-accepted (longest_period v) q items e).limits k ps s)
        (cancel-sound v q ps s)
        (restart-sound v ps)
        (failure-sound v ps)
        (second-sound v ps s)
        s

    -- the room that document 01 asks for is enough
    pub in_cell-few : length (in_cell q ps).rows ≤ rows_per_cell q.kind
    unfolding in_cell
    in_cell-few =
        kind_by (λ k. length (rule_of k q ps).rows ≤ rows_by k) q.kind
        (λ _. start-few q ps)
        (λ _. cancel-few q ps (places_facts v ps s).apart)
        (λ _. restart-few ps)
        (λ _. failure-few ps)
        (λ _. omega (arith, second-few ps, (places_facts v ps s).few))
        (omega arith)

-- ---- the numbers of a row

abbrev pub told_fits : Told → Bool
told_fits x = ltb x.count (256 ^ 2) && ltb x.content (256 ^ 4)

told-fits : (n c : ℕ) → n ≤ most_sent → c < 256 ^ 4 → told_fits (record { count = n; content = c }) ≡ true
told-fits n c h g = rw (lt-ltb n (256 ^ 2) (omega arith), lt-ltb c (256 ^ 4) g)

abbrev AllFit : List Told → Type 0
AllFit rows = every told_fits rows ≡ true

none-fit : AllFit []
unfolding every
none-fit = refl

zero-fits : AllFit (reported 0)
unfolding every
zero-fits = refl

module _ (v : Version) where
  -- rows of those places that a test picks
  picked_fit : (test : Place → Bool) (told : Place → Told) → ((p : Place) → SoundPlace v p → told_fits (told p) ≡ true) → (ps : List Place) → sound_places v ps ≡ true
      → AllFit (flat_map (λ p. cond (test p) (told p ∷ []) []) ps)
  picked_fit test told k ps s =
      every-flat_map _ (sound_place v) told_fits ps (λ p e. every-cond told_fits (test p) (told p) (λ t. k p (sound_facts v p e))) (places_facts v ps s).each

  pub in_cell-rows-fit : (q : Request) (ps : List Place) → sound_places v ps ≡ true → every told_fits (in_cell q ps).rows ≡ true
  unfolding cancel restart failure second
  in_cell-rows-fit q ps s =
      let Fit : Done → Type 0 = λ d. AllFit d.rows in
      let live = live-rows AllFit none-fit zero-fits ps in
      in_cell_by Fit q ps (λ k. start-rows AllFit none-fit zero-fits q ps)
      (cond_either Fit (cancel_all q) _ _ (λ a. live) (λ a. picked_fit (is_text q.identifier q.serial) _ (λ p h. told-fits p.sent.0 0 (omega arith) (omega arith)) ps s))
      zero-fits
      live
      (picked_fit is_due _ (λ p h. told-fits (later p).sent.0 p.content (later-most p (omega arith)) h.content) ps s)
      none-fit

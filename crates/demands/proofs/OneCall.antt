-- What one call does to a table: it leaves a legal one of as many cells; and of a run, which cells it touches, and what it makes of their places.
-- A call's verdict and a cell's head never change, so which calls touch a cell is known from the first table.
use Rattle.std.specs.Prelude.{Ok, Err}
use mathlib.Core.Path.{◌≡◌, refl, sym, ◌∙◌}
use mathlib.Core.Bool.{Bool, true, false, cond, ◌&&◌}
use mathlib.Core.Option.{Option, none, some}
use mathlib.Core.List.{List, map, flat_map, map-id}
use Prim.Native.Nat.{ℕ}
use lib.ListN.{length, get_elem?}
use Rattle.octets.specs.Runs.{Bytes}
use Rattle.rules.specs.Layout.{Version, current}
use Rattle.rules.specs.Table.{Head, Cell, cell_count, cells_of}
use Rattle.rules.specs.Record.{request_of, items_of}
use Rattle.rules.specs.Reach.{reaches}
use Rattle.rules.specs.InCell.{in_cell}
use Rattle.rules.specs.Reply.{Row, cell_rows}
use Rattle.rules.specs.Refusals.{table_verdict, apply_verdict, Verdict}
use Rattle.rules.specs.Applied.{step_cell, outcome, applied}
use Rattle.rules.specs.declared.Place.{Place}
use Rattle.rules.proofs.TestLaws.{by_test}
use Rattle.rules.proofs.AllLaws.{all_of, map_all}
use Rattle.rules.proofs.AcceptedCallLaws.{acceptance_stays}
use Rattle.rules.proofs.AppliedLaws.{applied-cells, applied-legal, applied-bytes, applied-count}
use Rattle.demands.specs.Demand3.{Call, outcome_in, outcome_on}
use Rattle.demands.proofs.Zip.{after}

-- ---- in a unit of any version

-- a legal table of so many cells
pub record LegalWith (v : Version) (n : ℕ) (t : List ℕ) : Type 0 where
  pub bytes : Bytes t
  pub accepted : table_verdict v t ≡ Ok tt
  pub count : cell_count t ≡ n

pub legal-with : (v : Version) (t : List ℕ) → Bytes t → table_verdict v t ≡ Ok tt → LegalWith v (cell_count t) t
legal-with v t bytes accepted = record { bytes = bytes; accepted = accepted; count = refl }

-- a call leaves such a table, accepted or refused
pub still_legal : (v : Version) (n : ℕ) (t : List ℕ) → LegalWith v n t → (c : Call) → LegalWith v n (outcome_in v t c).table
unfolding applied outcome
still_legal v n t g c = go (apply_verdict v t c.req (length c.answer)) refl
  where
    go : (w : Verdict) → apply_verdict v t c.req (length c.answer) ≡ w → LegalWith v n (outcome_in v t c).table
    go (Ok tt) e =
        record {
          bytes = applied-bytes v t c.req c.answer g.bytes c.are_bytes e;
          accepted = applied-legal v t c.req c.answer g.bytes c.are_bytes e;
          count = applied-count v t c.req c.answer g.bytes c.are_bytes e ∙ g.count;
        }
    go (Err x) e = rw e g

-- ---- in a run of today's unit

abbrev pub takes : Verdict → Bool
takes (Ok tt) = true
takes (Err x) = false

abbrev pub reaches_head : Call → Head → Bool
reaches_head c h = reaches (request_of c.req).area (items_of c.req) h

-- what an accepted call reports of a cell, and of a table
abbrev pub rows_in : Call → Cell → List Row
rows_in c x = cell_rows (request_of c.req) (items_of c.req) x

abbrev pub rows_of : Call → List ℕ → List Row
rows_of c u = flat_map (rows_in c) (cells_of current u)

module _ (t : List ℕ) where
  -- on the first table, and so on each
  abbrev pub verdict : Call → Verdict
  verdict c = apply_verdict current t c.req (length c.answer)

  -- whether a call, if there is one, touches a cell with this head, and what it makes of the cell's places
  abbrev pub touches : Head → Option Call → Bool
  touches h none = false
  touches h (some c) = takes (verdict c) && reaches_head c h

  abbrev pub places_after : Head → Option Call → List Place → List Place
  places_after h none ps = ps
  places_after h (some c) ps = cond (touches h (some c)) (in_cell (request_of c.req) ps).places ps

  pub untouched : (h : Head) (o : Option Call) → touches h o ≡ false → (ps : List Place) → places_after h o ps ≡ ps
  untouched h none e ps = refl
  untouched h (some c) e ps = rw e

  -- the steps that calls take on such a cell; and a cell before call i
  abbrev pub steps : List Call → Head → ℕ → List Place → List Place
  steps xs h i ps = places_after h (get_elem? xs i) ps

  abbrev pub cell_before : List Call → ℕ → Cell → Cell
  cell_before xs i x = record { head = x.head; places = after (steps xs x.head) i x.places }

  -- a table of a run that began with t
  abbrev pub OfRun : List ℕ → Type 0
  OfRun u = LegalWith current (cell_count t) u

  -- ---- one call

  -- a cell after it
  abbrev pub after_call : Call → Cell → Cell
  after_call c x = record { head = x.head; places = places_after x.head (some c) x.places }

  after_call_accepted : (c : Call) → verdict c ≡ Ok tt → (x : Cell) → step_cell (request_of c.req) (items_of c.req) x ≡ after_call c x
  unfolding step_cell
  after_call_accepted c e x = by_test (reaches_head c x.head) (λ r. rw (e, r)) (λ r. rw (e, r))

  module _ (legal : table_verdict current t ≡ Ok tt) where
    pub verdict_stays : (u : List ℕ) → OfRun u → (c : Call) → apply_verdict current u c.req (length c.answer) ≡ verdict c
    verdict_stays u g c = acceptance_stays current u t c.req (length c.answer) g.accepted legal g.count

    pub cells_left : (u : List ℕ) → OfRun u → (c : Call) → cells_of current (outcome_on u c).table ≡ map (after_call c) (cells_of current u)
    unfolding applied outcome
    cells_left u g c = go (verdict c) (verdict_stays u g c) refl
      where
        go : (v : Verdict) → apply_verdict current u c.req (length c.answer) ≡ verdict c → verdict c ≡ v → cells_of current (outcome_on u c).table ≡ map (after_call c) (cells_of current u)
        go (Ok tt) s e =
            applied-cells current u c.req c.answer g.bytes c.are_bytes (s ∙ e)
            ∙ map_all (step_cell (request_of c.req) (items_of c.req)) (after_call c) (all_of (after_call_accepted c e) (cells_of current u))
        go (Err x) s e = rw (s ∙ e) (sym (map_all (after_call c) (λ y. y) (all_of (λ y. rw e) (cells_of current u)) ∙ map-id (cells_of current u)))

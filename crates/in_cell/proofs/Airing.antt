-- A broadcast of a place: with its counts stored and its row written, all that `Aired` says of the cell, the answer and the end.
-- The place after the second is the place with one more broadcast sent and its wait anew, `later-due`.
use mathlib.Core.Path.{◌≡◌, sym, ap, ap₂, ◌∙◌}
use mathlib.Core.Bool.{Bool, not, ◌&&◌}
use mathlib.Core.List.{List, [], ◌∷◌, flat_map}
use Prim.Native.Nat.{ℕ, ◌*◌}
use mir.Val.{bool_byte}
use lib.Dec.{eqb}
use lib.ListN.{take}
use lib.Seq.{sets}
use Rattle.rules.specs.Lists.{those}
use Rattle.rules.specs.Layout.{current, head_size, row_size}
use Rattle.rules.specs.Table.{head_of, cell_of}
use Rattle.rules.specs.InCell.{one_more, one_less, with_counts, later, has_ended}
use Rattle.rules.specs.Answer.{row_bytes}
use Rattle.rules.specs.Reply.{Row}
use Rattle.rules.specs.declared.Seconds.{Seconds}
use Rattle.rules.specs.declared.Broadcasts.{Broadcasts}
use Rattle.rules.specs.declared.Place.{Place}
use Rattle.rules.proofs.TestLaws.{by_test}
use Rattle.rules.proofs.SecondLaws.{later-due}
use Rattle.cell_read.specs.Places.{with_place, place_at}
use Rattle.in_cell.specs.Second.{endings, ToAir, Aired}

pub endings-one : (p : Place) → endings (p ∷ []) ≡ bool_byte (has_ended p)
unfolding endings those flat_map
endings-one p = by_test (has_ended p) (λ t. rw t) (λ t. rw t)

row_same : (i s t : ℕ) {i' s' t' : ℕ} → i ≡ i' → s ≡ s' → t ≡ t'
    → ◌≡◌ {A = Row} (record { identity = i; count = s; content = t }) (record { identity = i'; count = s'; content = t' })
row_same i s t a b d = rw (a, b, d)

-- what was read of place k and of the head, and what was made of it
module _ (c out : List ℕ) (k n : ℕ) (to : ToAir c out k n) (sent : Broadcasts) (wait : Seconds) (requested identity content : ℕ)
    (e-sent : sent.0 ≡ (one_more (place_at c k).sent).0) (e-wait : wait.0 ≡ (one_less (place_at c k).period).0) (e-requested : requested ≡ (place_at c k).requested.0)
    (e-identity : identity ≡ (head_of current (take (head_size current) c)).identity) (e-content : content ≡ (place_at c k).content)
    (c' out' : List ℕ) (e-cell : c' ≡ with_place c k (with_counts (place_at c k) sent wait))
    (e-out : out' ≡ sets out (row_size current * n) (row_bytes current (record { identity = identity; count = sent.0; content = content }))) where
  after : later (place_at c k) ≡ with_counts (place_at c k) sent wait
  after =
      later-due (place_at c k) to.due
      ∙ ap₂ (with_counts (place_at c k)) (ap (λ n. record { 0 = n }) (sym e-sent)) (ap (λ n. record { 0 = n }) (sym e-wait))

  after-sent : sent.0 ≡ (later (place_at c k)).sent.0
  unfolding with_counts
  after-sent = sym (ap (λ (p : Place). p.sent.0) after)

  after-ends : has_ended (later (place_at c k)) ≡ not (eqb requested 0) && eqb sent.0 requested
  unfolding with_counts has_ended
  after-ends = ap has_ended after ∙ rw e-requested

  -- `last` is whether the last one was sent
  pub aired : (last : Bool) → last ≡ (not (eqb requested 0) && eqb sent.0 requested) → Aired c out k n c' out' last
  unfolding cell_of
  aired last e-last =
      record {
        cell = e-cell ∙ rw after;
        row = e-out ∙ ap (λ (w : Row). sets out (row_size current * n) (row_bytes current w)) (row_same identity sent.0 content e-identity after-sent e-content);
        ended = e-last ∙ sym after-ends;
      }

-- One outcome only: where a turn, or the service of one request, leaves the program and its buffers, its contract settles.
-- Each promise gives every part of that by an equation.
use mathlib.Core.Path.{◌≡◌}
use mathlib.Core.List.{List}
use Prim.Native.Nat.{ℕ}
use Rattle.octets.specs.Settled.{Settles, SettlesResult}
use Rattle.octets.proofs.Once.{one-outcome}
use Rattle.report_turns.specs.Serve.{Served}
use Rattle.report_turns.specs.Buffers.{Turned}
use Rattle.report_lines.specs.declared.text.Text.{Text}
use Rattle.report_turns.specs.declared.Next.{Next}
use Rattle.report_turns.specs.declared.Stand.{Stand}
use Rattle.report_turns.proofs.serve.serve.Reads as serve
use Rattle.report_turns.proofs.start.Reads as start
use Rattle.report_turns.proofs.turn.Reads as turn

-- what is asked of a writer's text: where it ends, and the buffer
abbrev Told : Type 0
Told = ℕ × List ℕ

served_once : {t r a : List ℕ} {s : Text} {t₁ a₁ t₂ a₂ : List ℕ} {s₁ s₂ : Text} {x y : Next} → Served t r a s t₁ a₁ s₁ x → Served t r a s t₂ a₂ s₂ y
    → ◌≡◌ {A = Next × List ℕ × List ℕ × Told} (x, t₁, a₁, (s₁.at, s₁.out.now)) (y, t₂, a₂, (s₂.at, s₂.out.now))
served_once p q i = (
  one-outcome p.comes q.comes i,
  one-outcome p.table q.table i,
  one-outcome p.answer q.answer i,
  (one-outcome p.text.said.ends q.text.said.ends i, one-outcome p.text.said.stored q.text.said.stored i),
)

pub serve_once : Settles {X = Next × List ℕ × List ℕ × Told} serve.Learnt (λ κ r e. (r, e.0.now, e.1.1.0.now, (e.1.1.1.0.now.at, e.1.1.1.0.now.out.now)))
serve_once κ args r s e f p q = served_once p.0 q.0

turned_once : {s : Stand} {input t a out : List ℕ} {x y : Stand} {t₁ a₁ out₁ t₂ a₂ out₂ : List ℕ}
    → Turned s input t a out x t₁ a₁ out₁ → Turned s input t a out y t₂ a₂ out₂
    → ◌≡◌ {A = Stand × List ℕ × List ℕ × List ℕ} (x, t₁, a₁, out₁) (y, t₂, a₂, out₂)
turned_once {x} {y} p q i =
    let at : x.at ≡ y.at = one-outcome p.text.ends q.text.ends in
    let next : x.next ≡ y.next = one-outcome p.next q.next in
    let writes : x.writes ≡ y.writes = one-outcome p.writes (rw (at, next) q.writes) in (
      record {
        cells = one-outcome p.cells q.cells i;
        from = one-outcome p.from q.from i;
        to = one-outcome p.to q.to i;
        at = at i;
        ended = one-outcome p.ended q.ended i;
        next = next i;
        writes = writes i;
      },
      one-outcome p.table q.table i,
      one-outcome p.answer q.answer i,
      one-outcome p.text.stored q.text.stored i,
    )

pub turn_once : Settles {X = Stand × List ℕ × List ℕ × List ℕ} turn.Learnt (λ κ r e. (r, e.1.1.0.now, e.1.1.1.0.now, e.1.1.1.1.0.now))
turn_once κ args r s e f = turned_once

pub start_once : SettlesResult start.Learnt
start_once κ args r s e f = one-outcome

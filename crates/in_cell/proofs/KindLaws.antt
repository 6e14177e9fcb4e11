-- What happens in a cell, by the request's kind: the routine that is called does what `in_cell` says, within the rows that the kind may have.
-- Each kind but a second has one row at most; of the known kinds but a second only a failure is left at the end.
use mathlib.Core.Path.{◌≡◌, refl, ap, ◌∙◌}
use mathlib.Core.List.{List}
use Prim.Native.Nat.{ℕ}
use Rattle.rules.specs.Record.{write_replace, cancel_or_kill, restart_kind, failure_kind, one_second, unknown_kind, kind_of}
use Rattle.rules.specs.InCell.{Done, in_cell}
use Rattle.rules.specs.Answer.{rows_per_cell}
use Rattle.rules.specs.declared.Place.{Place}
use Rattle.rules.specs.declared.Request.{Request}
use Rattle.rules.proofs.KindAreaLaws.{kind_by}
use Rattle.in_cell.specs.Step.{Ready, Stepped}

pub ready_for : (kind m : ℕ) (c out : List ℕ) → rows_per_cell kind ≡ m → Ready c out (rows_per_cell kind) → Ready c out m
ready_for kind m c out e r = rw e at r

pub stepped_by : (q : Request) (ps : List Place) (d : Done) (m : ℕ) (c out c' out' : List ℕ) (n : ℕ) → in_cell q ps ≡ d → rows_per_cell q.kind ≡ m
    → Stepped d c out c' out' m n → Stepped (in_cell q ps) c out c' out' (rows_per_cell q.kind) n
stepped_by q ps d m c out c' out' n e em s = rw (e, em) s

pub rows_of-kind : (k j m : ℕ) → k ≡ j → rows_per_cell j ≡ m → rows_per_cell k ≡ m
rows_of-kind k j m e em = ap rows_per_cell e ∙ em

pub is-failure : (k : ℕ) → (k ≡ write_replace → ⊥) → (k ≡ cancel_or_kill → ⊥) → (k ≡ restart_kind → ⊥) → (k ≡ one_second → ⊥)
    → (kind_of k ≡ unknown_kind → ⊥) → k ≡ failure_kind
is-failure k a b c d known =
    kind_by (λ x. (x ≡ unknown_kind → ⊥) → k ≡ failure_kind) k
    (λ e _. absurd (a e)) (λ e _. absurd (b e)) (λ e _. absurd (c e)) (λ e _. e) (λ e _. absurd (d e)) (λ h. absurd (h refl)) known

-- What an answer that can be given has, test by test, and back; a Write-Replace and a Cancel are the kinds that are wired.
-- A definition by `&&` is taken apart once, into a record of plain facts.
use mathlib.Core.Path.{◌≡◌, refl}
use mathlib.Core.Bool.{Bool, true, false, cond, ◌||◌}
use mathlib.Core.List.{List}
use Prim.Native.Nat.{ℕ, ◌≤◌}
use borrow.Author.Tests.{leb-true, le-leb, eqb-true}
use lib.Dec.{eqb, ltb}
use lib.ListN.{length}
use Rattle.rules.specs.Lists.{ascending}
use Rattle.rules.specs.Layout.{current, most_cells, cell_end}
use Rattle.rules.specs.Record.{write_replace, cancel_or_kill, restart_kind, failure_kind, one_second, a_write_replace, a_cancel, a_restart, a_failure, a_second, unknown_kind, kind_of}
use Rattle.rules.specs.Reply.{Row, identities}
use Rattle.rules.specs.Answer.{row_count, answer_of, legal_row, is_known, legal_answer}
use Rattle.rules.proofs.TestLaws.{both, by_test, or_else}
use Rattle.rules.proofs.AllLaws.{All, all_every, every_all}
use Rattle.rules.proofs.LegalAnswerLaws.{LegalAnswer, legal-answer, answer-accepted}
use Rattle.answer.proofs.RowsLaws.{length-rows}
use Rattle.answer_judge.specs.Answerable.{is_wired, counts_of, answerable}

-- ---- the kinds that are wired

pub wired-is : (kind : ℕ) → is_wired (kind_of kind) ≡ (eqb kind write_replace || eqb kind cancel_or_kill)
wired-is kind = go (eqb kind write_replace) (eqb kind cancel_or_kill) (eqb kind restart_kind) (eqb kind failure_kind) (eqb kind one_second)
  where
    go : (a b c d e : Bool) → is_wired (cond a a_write_replace (cond b a_cancel (cond c a_restart (cond d a_failure (cond e a_second unknown_kind))))) ≡ (a || b)
    go true b c d e = refl
    go false true c d e = refl
    go false false true d e = refl
    go false false false true e = refl
    go false false false false true = refl
    go false false false false false = refl

pub wired_by : {P : Type 0} (kind : ℕ) → is_wired (kind_of kind) ≡ true → (kind ≡ write_replace → P) → (kind ≡ cancel_or_kill → P) → P
wired_by kind e begins stops =
    by_test (eqb kind write_replace) (λ t. begins (eqb-true kind write_replace t)) λ n.
    stops (eqb-true kind cancel_or_kill (or_else (eqb kind write_replace) (eqb kind cancel_or_kill) (rw (wired-is kind) at e) n))

pub wired-known : (kind : ℕ) → is_wired (kind_of kind) ≡ true → is_known (kind_of kind) ≡ true
wired-known kind e = wired_by kind e (λ k. rw k) (λ k. rw k)

-- a legal row of one has content 0
pub legal-row : (kind : ℕ) → is_wired (kind_of kind) ≡ true → (w : Row) → legal_row kind w ≡ true → (ltb w.identity cell_end ≡ true) × (eqb w.content 0 ≡ true)
unfolding legal_row
legal-row kind wired w l =
    let test = both (ltb w.identity cell_end) (eqb kind one_second || eqb w.content 0) l in
    wired_by kind wired (λ k. (test.0, rw k at test.1)) (λ k. (test.0, rw k at test.1))

-- ---- an answer's tests

-- as many rows as the head says
pub many : (b : List ℕ) → length (answer_of current b).reply.rows ≡ row_count current b
unfolding answer_of
many b = length-rows b (row_count current b)

pub record Answerable (b : List ℕ) : Type 0 where
  pub legal : LegalAnswer current b
  pub wired : is_wired (kind_of (answer_of current b).kind) ≡ true
  pub few : row_count current b ≤ most_cells
  pub counts : All (λ w. counts_of (kind_of (answer_of current b).kind) w ≡ true) (answer_of current b).reply.rows
  pub order : ascending (identities (answer_of current b).reply.rows) ≡ true

pub answerable_facts : (b : List ℕ) → answerable b ≡ true → Answerable b
unfolding answerable
answerable_facts b e =
    let o = both _ _ e in
    let c = both _ _ o.0 in
    let n = both _ _ c.0 in
    let k = both (legal_answer current b) _ n.0 in
    record {
      legal = legal-answer current b k.0;
      wired = k.1;
      few = leb-true (row_count current b) most_cells n.1;
      counts = all_every (counts_of (kind_of (answer_of current b).kind)) (answer_of current b).reply.rows c.1;
      order = o.1;
    }

pub facts_answerable : (b : List ℕ) → Answerable b → answerable b ≡ true
unfolding answerable
facts_answerable b a =
    rw (
      answer-accepted current b a.legal,
      a.wired,
      le-leb (row_count current b) most_cells a.few,
      every_all (counts_of (kind_of (answer_of current b).kind)) a.counts,
      a.order,
    )

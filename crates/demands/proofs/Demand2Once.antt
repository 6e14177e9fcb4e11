-- Demand 2 leaves nothing of an accepted call open: two outcomes that meet it are the same.
-- The answer is said whole; the table is its header and its cells, each of which stays or is ruled.
use mathlib.Core.Path.{◌≡◌, sym, ap, ◌∙◌}
use mathlib.Core.List.{List, [], ◌++◌, flat_map}
use Prim.Native.Nat.{ℕ, ◌<◌}
use lib.ListN.{length, take, drop}
use lib.Seq.{ext_get_or}
use Rattle.octets.proofs.PiecesLaws.{length-pieces}
use Rattle.rules.specs.Layout.{current, header_size, cell_size}
use Rattle.rules.specs.Table.{cell_of, cell_count, cell_runs}
use Rattle.rules.specs.Answer.{answer_bytes}
use Rattle.rules.specs.Applied.{Outcome, answered}
use Rattle.rules.proofs.TestLaws.{by_test}
use Rattle.demands.specs.Demand2.{cell_at, reached, TableChanged, Answered, AcceptedCall}

module _ (t r a : List ℕ) (o o' : Outcome) where
  module _ (x : TableChanged t r o) (y : TableChanged t r o') where
    same-cell : (k : ℕ) → k < cell_count t → cell_at o.table k ≡ cell_at o'.table k
    same-cell k h =
        by_test (reached r (cell_of current (cell_at t k)))
        (λ e. x.reached-ruled k h e ∙ sym (y.reached-ruled k h e))
        (λ e. x.unreached_stays k h e ∙ sym (y.unreached_stays k h e))

    runs-length : (l : List ℕ) → cell_count l ≡ cell_count t → length (cell_runs current l) ≡ cell_count t
    runs-length l e = length-pieces (cell_size current) (cell_count l) (drop header_size l) ∙ e

    same_runs : cell_runs current o.table ≡ cell_runs current o'.table
    same_runs =
        let n = runs-length o.table x.same_count in
        ext_get_or [] (cell_runs current o.table) (cell_runs current o'.table) (n ∙ sym (runs-length o'.table y.same_count)) (λ k h. same-cell k (rw n at h))

    same-table : o.table ≡ o'.table
    same-table =
        sym x.whole
        ∙ ap (λ l. take header_size o.table ++ flat_map (λ c. c) l) same_runs
        ∙ ap (λ l. l ++ flat_map (λ c. c) (cell_runs current o'.table)) (x.same-header ∙ sym y.same-header)
        ∙ y.whole

  module _ (x : Answered t r a o) (y : Answered t r a o') where
    same_length : o.length ≡ o'.length
    same_length = x.answer-length ∙ sym y.answer-length

    same_answer : o.answer ≡ o'.answer
    same_answer =
        x.answer-whole
        ∙ ap (λ n. answer_bytes current (answered current t r) ++ drop n a) same_length
        ∙ sym y.answer-whole

  pub served_once : o.number ≡ o'.number → AcceptedCall t r a o → AcceptedCall t r a o' → o ≡ o'
  served_once n x y i =
      record {
        number = n i;
        length = same_length x.on_answer y.on_answer i;
        table = same-table x.on_table y.on_table i;
        answer = same_answer x.on_answer y.on_answer i;
      }

-- What an accepted call leaves, from what the code has done.
-- The walk leaves the table and the rows; the head goes in front of them.
use Rattle.std.specs.Prelude.{Ok}
use mathlib.Core.Path.{◌≡◌, sym, ap, ap₂, ◌∙◌}
use mathlib.Core.Bool.{true, false}
use mathlib.Core.List.{List, [], ◌++◌, map, flat_map, append-nil}
use Prim.Native.Nat.{ℕ, ◌+◌, ◌*◌, ◌≤◌}
use native.Mathlib.Omega.{arith}
use lib.Dec.{eqb}
use lib.ListN.{length}
use lib.Seq.{sets}
use borrow.Author.Tests.{eqb-true, eq-eqb}
use Rattle.octets.specs.Runs.{Bytes}
use Rattle.octets.proofs.RunsLaws.{sets-back-first}
use Rattle.octets.proofs.PiecesLaws.{length-flat_map}
use Rattle.rules.specs.Layout.{current, answer_size, row_size, longest_period}
use Rattle.rules.specs.Table.{cell_of, cell_runs, cells_of, table_bytes, place_bytes}
use Rattle.rules.specs.Record.{write_replace, request_of, items_of}
use Rattle.rules.specs.InCell.{starts_nothing, new_place}
use Rattle.rules.specs.Answer.{answer_to, row_bytes, answer_head, answer_bytes}
use Rattle.rules.specs.Refusals.{apply_verdict}
use Rattle.rules.specs.Applied.{step_cell, answered, applied}
use Rattle.rules.specs.Reply.{Row, cell_rows, reply_of}
use Rattle.rules.specs.declared.Request.{Request}
use Rattle.rules.proofs.TestLaws.{both}
use Rattle.rules.proofs.TableCodec.{table-back}
use Rattle.rules.proofs.AcceptedRecordLaws.{AcceptedRecord, record-accepted, within-own}
use Rattle.rules.proofs.VerdictLaws.{AllowedRequest, request-accepted}
use Rattle.rules.proofs.StartLaws.{new-sound}
use Rattle.rules.proofs.AppliedLaws.{answer-fits, applied-table, applied-answer, applied-written}
use Rattle.rules.proofs.AcceptedCallLaws.{AcceptedCall, call_accepted, record-fits}
use Rattle.rules.proofs.AnswerCodec.{length-answer_head, length-answer_bytes}
use Rattle.rules.proofs.RowCodec.{length-row_bytes}
use Rattle.rules.proofs.AppliedRuns.{applied_by_runs, rows_of-runs, idle-cells, idle-answer}
use Rattle.in_cell.specs.Step.{ToStep}
use Rattle.engine.specs.Walk.{rows_after, table_after, is_idle, WalkOut, Granted}

-- the head of a request's answer
abbrev head_for : Request → ℕ → List ℕ
head_for q n = answer_head current q.kind q.identifier q.serial n

module _ (t r a : List ℕ) (bt : Bytes t) (br : Bytes r) (e : apply_verdict current t r (length a) ≡ Ok tt) where
  call : AcceptedCall current t r (length a)
  call = call_accepted current t r (length a) e

  accepted : AcceptedRecord current r
  accepted = record-accepted current r call.req

  -- by the current limit, whichever version its record has
  allowed : AllowedRequest (longest_period current) (request_of r) (items_of r)
  allowed = request-accepted (longest_period current) (request_of r) (items_of r) (within-own current r accepted)

  pub answer-room : answer_size current ≤ length a
  answer-room = omega (arith, length-answer_bytes current (answered current t r), answer-fits current t r a bt br e)

  -- a start that the zero rules stop
  pub idle_granted : (q : Request) → q ≡ request_of r → is_idle q ≡ true → (a' : List ℕ) → a' ≡ sets a 0 (head_for q 0) → Granted t r a t a' 0
  unfolding is_idle answer_bytes reply_of flat_map
  idle_granted q eq idle a' ea =
      let h = both (eqb q.kind write_replace) (starts_nothing q) idle in
      let k = eqb-true q.kind write_replace h.0 in
      let cells : map (step_cell (request_of r) (items_of r)) (cells_of current t) ≡ cells_of current t = rw (← eq) (idle-cells q (items_of r) k h.1 (cells_of current t)) in
      let rows : flat_map (cell_rows (request_of r) (items_of r)) (cells_of current t) ≡ [] = rw (← eq) (idle-answer q (items_of r) k h.1 (cells_of current t)) in
      record {
        table = sym (applied-table current t r a bt br e ∙ ap (table_bytes current) cells ∙ table-back current t bt call.table);
        answer = ea ∙ rw eq (sym (applied-answer current t r a bt br e ∙ rw (rows, append-nil)));
        rows = sym (applied-written current t r a bt br e ∙ rw (rows, append-nil) (length-answer_head current (request_of r).kind (request_of r).identifier (request_of r).serial 0));
        few = omega arith;
      }

  -- the walk, and then the head
  walked : (t' a₁ a₂ : List ℕ) (n : ℕ) → WalkOut t r (request_of r) a t' a₁ n → a₂ ≡ sets a₁ 0 (head_for (request_of r) n) → Granted t r a t' a₂ n
  unfolding answer_bytes reply_of table_after rows_after
  walked t' a₁ a₂ n w ea =
      let rs : List Row = flat_map (λ c. cell_rows (request_of r) (items_of r) (cell_of current c)) (cell_runs current t) in
      let same : flat_map (cell_rows (request_of r) (items_of r)) (cells_of current t) ≡ rs = rows_of-runs current (request_of r) (items_of r) t in
      let long : length (flat_map (row_bytes current) rs) ≡ row_size current * length rs = length-flat_map (row_size current) (row_bytes current) rs (length-row_bytes current) in
      let all : answer_size current + row_size current * length rs ≤ length a = rw (length-answer_bytes current, same) at (answer-fits current t r a bt br e) in
      let head : length (head_for (request_of r) (length rs)) ≡ answer_size current = length-answer_head current (request_of r).kind (request_of r).identifier (request_of r).serial (length rs) in
      let whole : List ℕ = head_for (request_of r) (length rs) ++ flat_map (row_bytes current) rs in
      let front : sets (sets a (answer_size current) (flat_map (row_bytes current) rs)) 0 (head_for (request_of r) (length rs)) ≡ sets a 0 whole =
      sets-back-first (head_for (request_of r) (length rs)) (flat_map (row_bytes current) rs) a (answer_size current) (sym head) (omega arith) in
      let stored : a₂ ≡ sets a 0 whole = ea ∙ ap₂ (λ x k. sets x 0 (head_for (request_of r) k)) w.out w.rows ∙ front in
      let given : (applied current t r a).answer ≡ sets a 0 whole = applied-answer current t r a bt br e ∙ ap (λ x. sets a 0 (head_for (request_of r) (length x) ++ flat_map (row_bytes current) x)) same in
      record {
        table = w.table ∙ sym (applied_by_runs current t r a bt br e);
        answer = stored ∙ sym given;
        rows = sym (applied-written current t r a bt br e ∙ rw (same, w.rows) (length-answer_bytes current (answer_to (request_of r) (record { rows = rs }))));
        few = w.few;
      }

  pub walk_granted : (q : Request) → q ≡ request_of r → (t' a₁ a₂ : List ℕ) (n : ℕ) → WalkOut t r q a t' a₁ n → a₂ ≡ sets a₁ 0 (head_for q n) → Granted t r a t' a₂ n
  walk_granted q eq t' a₁ a₂ n w ea = walked t' a₁ a₂ n (rw eq at w) (rw eq at ea)

  -- what the walk asks
  pub to-walk : (q : Request) → q ≡ request_of r → is_idle q ≡ false → (new : List ℕ) → new ≡ place_bytes current (new_place q) → ToStep q new
  unfolding is_idle
  to-walk q eq busy new en =
      record {
        kind = rw eq allowed.kind;
        start =
            λ k.
            let z : starts_nothing q ≡ false = rw (eq-eqb q.kind write_replace k) at busy in
            record {
              starts = z;
              sound = new-sound current q (items_of r) (rw eq (record-fits current r br accepted)) (rw eq allowed.limits) k z;
              new_place = en;
            };
      }

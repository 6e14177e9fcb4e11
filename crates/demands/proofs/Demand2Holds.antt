-- Demand 2 holds: an accepted call changes the reached cells by their rule and nothing else, and reports them in order.
-- What is told of the cells is one decoded answer, whose bytes stand in the buffer and read back as it (rules, AnsweredLaws); the table is Demand2Cells.
use Rattle.std.specs.Prelude.{Ok}
use mathlib.Core.Path.{◌≡◌, refl, sym, ap, ◌∙◌}
use mathlib.Core.List.{List}
use Prim.Native.Nat.{ℕ, ◌+◌, ◌*◌}
use lib.ListN.{length}
use Rattle.octets.specs.Runs.{Bytes}
use Rattle.rules.specs.Layout.{current, answer_size, row_size}
use Rattle.rules.specs.Table.{cells_of, table_bytes}
use Rattle.rules.specs.Record.{request_of, items_of}
use Rattle.rules.specs.Reply.{Row, reply_of}
use Rattle.rules.specs.Refusals.{table_verdict, apply_verdict}
use Rattle.rules.specs.Applied.{Outcome, answered, applied}
use Rattle.rules.proofs.TableCodec.{table-back}
use Rattle.rules.proofs.LegalTableLaws.{table-accepted}
use Rattle.rules.proofs.StepLaws.{rows-reached, rows_unreached}
use Rattle.rules.proofs.OutcomeLaws.{applied-accepted}
use Rattle.rules.proofs.AnswerCodec.{length-answer_bytes}
use Rattle.rules.proofs.AppliedLaws.{applied-table, applied-written, answer-fits}
use Rattle.rules.proofs.AcceptedCallLaws.{call_accepted}
use Rattle.rules.proofs.AppliedRuns.{idle-cells, idle-answer}
use Rattle.rules.proofs.AnsweredLaws.{applied-whole, applied-reads, applied-answer-legal}
use Rattle.demands.specs.Demand2.{rows_of, Answered, Idle, AcceptedCall, CallUnit, Served, MeetsDemand2, Demand2}
use Rattle.demands.proofs.Demand2Cells.{on_table}
use Rattle.demands.proofs.Demand2Records.{read_again, read_back}
use Rattle.demands.proofs.Demand2Once.{served_once}
use Rattle.demands.proofs.NumberLaws.{accepted-number}

module _ (t r a : List ℕ) (bt : Bytes t) (br : Bytes r) (e : apply_verdict current t r (length a) ≡ Ok tt) where
  legal : table_verdict current t ≡ Ok tt
  legal = (call_accepted current t r (length a) e).table

  -- ---- the answer

  rows_told_lem : (answered current t r).reply.rows ≡ rows_of t r
  unfolding reply_of
  rows_told_lem = refl

  told-length : (applied current t r a).length ≡ answer_size current + row_size current * length (rows_of t r)
  told-length =
      applied-written current t r a bt br e
      ∙ length-answer_bytes current (answered current t r)
      ∙ ap (λ (l : List Row). answer_size current + row_size current * length l) rows_told_lem

  on_answer : Answered t r a (applied current t r a)
  on_answer =
      record {
        answer-whole = applied-whole current t r a bt br e;
        answer-reads = applied-reads current t r a bt br e;
        answer-rows = rows_told_lem;
        answer-legal = applied-answer-legal current t r a bt br e;
        answer-length = told-length;
        answer-fits = rw (applied-written current t r a bt br e) (answer-fits current t r a bt br e);
        reached-told = rows-reached (request_of r) (items_of r);
        unreached_silent = rows_unreached (request_of r) (items_of r);
        cells_ascend = (table-accepted current t legal).order;
      }

  -- ---- the zero rules

  on_idle : Idle t r (applied current t r a)
  on_idle k z =
      let none = idle-answer (request_of r) (items_of r) k z (cells_of current t) in (
        applied-table current t r a bt br e ∙ ap (table_bytes current) (idle-cells (request_of r) (items_of r) k z (cells_of current t)) ∙ table-back current t bt legal,
        none,
        told-length ∙ ap (λ (l : List Row). answer_size current + row_size current * length l) none,
      )

  holds : AcceptedCall t r a (applied current t r a)
  holds = record { on_table = on_table t r a bt br e; on_answer = on_answer; on_idle = on_idle }

-- ---- all of it

served : MeetsDemand2 (applied current)
served t r a bt br =
    record {
      accepts = accepted-number current t r a;
      accepted = λ e. holds t r a bt br (applied-accepted current t r a e);
    }

-- whatever equals `applied`
of_promised : (t r a : List ℕ) → Bytes t → Bytes r → (o : Outcome) → o ≡ applied current t r a → Served t r a o
of_promised t r a bt br o p = rw p (served t r a bt br)

once : (u : CallUnit) → MeetsDemand2 u → (t r a : List ℕ) → Bytes t → Bytes r → apply_verdict current t r (length a) ≡ Ok tt → u t r a ≡ applied current t r a
once u m t r a bt br e =
    let x = m t r a bt br in
    let y = served t r a bt br in
    let n = x.accepts e in
    let k = y.accepts e in
    served_once t r a (u t r a) (applied current t r a) (n ∙ sym k) (x.accepted n) (y.accepted k)

pub demand_2 : Demand2
demand_2 =
    record {
      of_applied = served;
      promised = λ t r a bt br d t' a' p. of_promised t r a bt br _ p;
      one-outcome = once;
      write_read = read_again;
      read-write = read_back;
    }

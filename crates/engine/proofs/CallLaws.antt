-- The tests of a call, in their order, and its outcome by them: the cases of `apply_verdict` and of `applied`.
-- Each test that was passed is put into the chain of verdicts; what is accepted has the sizes that its tests ask for.
use Rattle.std.specs.Prelude.{Ok, Err}
use mathlib.Core.Path.{◌≡◌, refl}
use mathlib.Core.List.{List}
use Prim.Native.Nat.{ℕ, ◌+◌, ◌*◌, ◌<◌, ◌≤◌}
use native.Mathlib.Omega.{arith}
use lib.ListN.{length}
use borrow.Author.Tests.{le-leb, lt-leb}
use Rattle.rules.specs.Layout.{current, header_size, record_size, answer_size, row_size}
use Rattle.rules.specs.Table.{cell_count}
use Rattle.rules.specs.Record.{unknown_kind, kind_of, request_of, items_of}
use Rattle.rules.specs.Answer.{room_for}
use Rattle.rules.specs.Refusals.{Verdict, table_verdict, record_verdict, apply_verdict}
use Rattle.rules.specs.Applied.{outcome, outcome_by, applied}
use Rattle.rules.specs.declared.Refusal.{Refusal}
use Rattle.rules.specs.declared.Refusal.TheVariants.{ShortBuffer}
use Rattle.rules.proofs.LegalTableLaws.{table-accepted}
use Rattle.rules.proofs.AcceptedRecordLaws.{record-accepted}
use Rattle.rules.proofs.VerdictLaws.{apply_chain, request-accepted}
use Rattle.rules.proofs.KindAreaLaws.{kind-known}
use Rattle.rules.proofs.AcceptedCallLaws.{call_accepted}
use Rattle.engine.specs.Walk.{Granted}

-- ---- a verdict that is no refusal

pub no-refusal : (v : Verdict) → ((x : Refusal) → v ≡ Err x → ⊥) → v ≡ Ok tt
no-refusal (Ok tt) n = refl
no-refusal (Err x) n = absurd (n x refl)

-- ---- the tests

module _ (t r : List ℕ) (room : ℕ) where
  pub table-refused : (x : Refusal) → table_verdict current t ≡ Err x → Err x ≡ apply_verdict current t r room
  table-refused x e = rw (apply_chain current t r room, e)

  module _ (a : table_verdict current t ≡ Ok tt) where
    pub record-refused : (x : Refusal) → record_verdict current r ≡ Err x → Err x ≡ apply_verdict current t r room
    record-refused x e = rw (apply_chain current t r room, a, e)

    module _ (b : record_verdict current r ≡ Ok tt) where
      pub room-refused : room < room_for current (request_of r).kind (cell_count t) → Err ShortBuffer ≡ apply_verdict current t r room
      room-refused h = rw (apply_chain current t r room, a, b, lt-leb (room_for current (request_of r).kind (cell_count t)) room h)

      pub none-refused : room_for current (request_of r).kind (cell_count t) ≤ room → (Ok tt) ≡ apply_verdict current t r room
      none-refused h = rw (apply_chain current t r room, a, b, le-leb (room_for current (request_of r).kind (cell_count t)) room h)

pub long-table : (t : List ℕ) → table_verdict current t ≡ Ok tt → header_size ≤ length t
long-table t e = omega (arith, (table-accepted current t e).size)

pub long-record : (r : List ℕ) → record_verdict current r ≡ Ok tt → record_size ≤ length r
long-record r e = (record-accepted current r e).long

pub known-kind : (r : List ℕ) → record_verdict current r ≡ Ok tt → kind_of (request_of r).kind ≡ unknown_kind → ⊥
known-kind r e = kind-known (request_of r) (request-accepted _ (request_of r) (items_of r) (record-accepted current r e).request).kind

pub few-cells : (t : List ℕ) → table_verdict current t ≡ Ok tt → cell_count t ≤ 65535
few-cells t e = omega (arith, (table-accepted current t e).few)

pub call_table : (t r : List ℕ) (room : ℕ) → apply_verdict current t r room ≡ Ok tt → table_verdict current t ≡ Ok tt
call_table t r room e = (call_accepted current t r room e).table

pub call_req : (t r : List ℕ) (room : ℕ) → apply_verdict current t r room ≡ Ok tt → record_verdict current r ≡ Ok tt
call_req t r room e = (call_accepted current t r room e).req

-- ---- a call that was refused, and one that was not

pub refused-applied : (t r a : List ℕ) (x : Refusal) → apply_verdict current t r (length a) ≡ Err x → outcome_by (Err x) t a ≡ applied current t r a
unfolding applied outcome
refused-applied t r a x e = rw e

pub granted_applied : (t r a t' a' : List ℕ) (n : ℕ) → apply_verdict current t r (length a) ≡ Ok tt → Granted t r a t' a' n
    → outcome_by (Ok (answer_size current + row_size current * n)) t' a' ≡ applied current t r a
unfolding applied outcome
granted_applied t r a t' a' n e g = rw (g.rows, g.table, g.answer, e)

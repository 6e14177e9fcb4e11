-- A request and sound cells give an answer: the table of these cells, the record of this request without items, and a buffer of zeros that is just long enough.
-- The table and the record say what they were made of, so the call is accepted, and what it is told is the reply of these cells.
use Rattle.std.specs.Prelude.{Ok}
use mathlib.Core.Path.{◌≡◌, ◌∙◌}
use mathlib.Core.Bool.{true}
use mathlib.Core.List.{List, [], flat_map}
use Prim.Native.Nat.{ℕ, ◌≤◌}
use native.Mathlib.Omega.{arith}
use lib.ListN.{length, replicate, length-replicate}
use borrow.Author.Tests.{le-leb}
use Rattle.octets.specs.Runs.{Bytes}
use Rattle.octets.specs.Fields.{bytes_of}
use Rattle.octets.proofs.RunsLaws.{bytes_append}
use Rattle.octets.proofs.FieldsLaws.{bytes_bytes_of}
use Rattle.rules.specs.Layout.{current, longest_period, record_fields}
use Rattle.rules.specs.Table.{Cell, cell_count, table_bytes}
use Rattle.rules.specs.Record.{kind_of, request_of, request_numbers, record_bytes}
use Rattle.rules.specs.Reply.{reply_of}
use Rattle.rules.specs.Answer.{answer_to, answer_bytes, room_for}
use Rattle.rules.specs.Refusals.{request_verdict, apply_verdict}
use Rattle.rules.specs.Applied.{answered}
use Rattle.rules.specs.Sound.{fit_request, sound_cells}
use Rattle.rules.specs.declared.Request.{Request}
use Rattle.rules.proofs.FitLaws.{fits-Fit}
use Rattle.rules.proofs.VerdictLaws.{apply_chain}
use Rattle.rules.proofs.AcceptedRecordLaws.{accepted-record}
use Rattle.rules.proofs.TableCodec.{count-table_bytes, table-again, table-legal, bytes-table_bytes}
use Rattle.rules.proofs.RecordTrips.{items-read, record-written, request-read}
use Rattle.rules.proofs.AnsweredLaws.{applied-told}
use Rattle.answer_judge.specs.Answerable.{is_wired, GivenBy}

module _ (q : Request) (cells : List Cell) (fit : fit_request q ≡ true) (allowed : request_verdict (longest_period current) q [] ≡ Ok tt) (sound : sound_cells current cells ≡ true) where
  abbrev table : List ℕ
  table = table_bytes current cells

  abbrev asked : List ℕ
  asked = record_bytes q []

  abbrev buffer : List ℕ
  buffer = replicate (room_for current q.kind (length cells)) 0

  asked-request : request_of asked ≡ q
  asked-request = (request-read q [] fit (omega arith) allowed).0

  asked-bytes : Bytes asked
  unfolding record_bytes fit_request flat_map
  asked-bytes = bytes_append (bytes_of record_fields (request_numbers q 0)) [] (bytes_bytes_of record_fields (request_numbers q 0) (fits-Fit record_fields (request_numbers q 0) fit)) (λ i. omega arith)

  table_taken : apply_verdict current table asked (length buffer) ≡ Ok tt
  table_taken =
      let room : room_for current (request_of asked).kind (cell_count table) ≤ length buffer =
      rw (asked-request, count-table_bytes current cells sound, length-replicate {A = ℕ} (room_for current q.kind (length cells)) 0) (omega arith) in
      rw (
        apply_chain current table asked (length buffer),
        table-legal current cells sound,
        accepted-record current asked (record-written q [] fit (omega arith) allowed),
        le-leb (room_for current (request_of asked).kind (cell_count table)) (length buffer) room,
      )

  told : answered current table asked ≡ answer_to q (reply_of q [] cells)
  told = rw (asked-request, items-read q [] fit (omega arith) allowed, table-again current cells sound)

  pub given : is_wired (kind_of q.kind) ≡ true → (b : List ℕ) → answer_bytes current (answer_to q (reply_of q [] cells)) ≡ b → GivenBy b
  given wired b e =
      record {
        table = table;
        asked = asked;
        buffer = buffer;
        table-bytes = bytes-table_bytes current cells sound;
        bytes = asked-bytes;
        accepted = table_taken;
        wired = rw asked-request wired;
        gives = applied-told current table asked buffer (bytes-table_bytes current cells sound) asked-bytes table_taken ∙ rw told e;
      }

-- What is written for an answer, by the two tests: its response's bytes are the parts, and as many as were counted.
use Rattle.std.specs.Prelude.{Ok, Err}
use mathlib.Core.Path.{◌≡◌, refl, ap, ◌∙◌}
use mathlib.Core.Bool.{true, false}
use mathlib.Core.List.{List, ◌++◌, append_assoc, append-nil}
use Prim.Native.Nat.{ℕ, ◌+◌, ◌<◌, ◌≤◌}
use native.Mathlib.Omega.{arith}
use lib.Dec.{eqb, ltb}
use lib.ListN.{length, length-append}
use lib.Seq.{sets}
use borrow.Author.Tests.{le-leb, lt-leb}
use Rattle.octets.specs.Runs.{pieces}
use Rattle.rules.specs.Layout.{current, answer_size, cell_end}
use Rattle.rules.specs.Record.{cancel_or_kill, kind_of}
use Rattle.rules.specs.Answer.{answer_of, row_count, legal_row}
use Rattle.rules.specs.Applied.{fill, filled_by}
use Rattle.rules.specs.declared.Refusal.TheVariants.{AnswerWrong, ShortBuffer}
use Rattle.rules.proofs.TestLaws.{both}
use Rattle.rules.proofs.AllLaws.{every_all, all_imply}
use Rattle.answer.specs.Rows.{rows_in}
use Rattle.answer.proofs.RowsLaws.{length-rows}
use Rattle.answer_judge.specs.Answerable.{is_wired, answerable}
use Rattle.answer_judge.proofs.AnswerableLaws.{Answerable, answerable_facts, wired_by}
use Rattle.aper.proofs.ElementLaws.{short-size}
use Rattle.responses.specs.Response.{response_to, response_of, response_verdict, response_written}
use Rattle.responses.specs.ResponseSize.{value_size, response_size}
use Rattle.responses.proofs.ResponseSizeLaws.{response-size}
use Rattle.wire.specs.declared.Message.{Message}
use Rattle.wire.specs.Messages.{frame_id}
use Rattle.response_write.specs.Parts.{response_by, opening, opening_size, enclosed, small_rows, RowsOf, list_bytes, front_bytes, front_size, value_bytes, bare_bytes, bare_written}
use Rattle.response_write.proofs.EncodedLaws.{response-bytes}
use Rattle.response_write.proofs.SizeLaws.{length-opening, length-value}
use Rattle.response_write.proofs.StoredLaws.{stored_then}

-- only a PWS CANCEL RESPONSE answers a cancel
response-to : (kind : ℕ) → is_wired (kind_of kind) ≡ true → response_to (kind_of kind) ≡ response_by (eqb kind cancel_or_kill)
response-to kind wired = wired_by kind wired (λ k. rw k) (λ k. rw k)

-- all before the list, and the list
the_parts : (m : Message) (b : List ℕ) (many t : ℕ) → t < 256
    → enclosed (frame_id m) (value_bytes m t (rows_in b many))
    ≡ (opening (frame_id m) (value_size m many) ++ front_bytes many t) ++ list_bytes m (rows_in b many)
unfolding enclosed
the_parts m b many t byte =
    rw (length-value m t byte (rows_in b many), length-rows b many, append_assoc) (unfold value_bytes in rw (length-rows b many))

-- ---- without rows

-- there is nothing behind the front
bare_parts : (m : Message) (b : List ℕ) (t : ℕ) → t < 256
    → enclosed (frame_id m) (value_bytes m t (rows_in b 0)) ≡ bare_bytes m t
unfolding bare_bytes list_bytes pieces
bare_parts m b t byte = the_parts m b 0 t byte ∙ append-nil _

-- a length below 128 has one byte
abbrev bare_size : ℕ
bare_size = 4 + front_size

module _ (m : Message) (t : ℕ) (buffer : List ℕ) where
  length-bare : length (bare_bytes m t) ≡ bare_size
  unfolding bare_bytes
  length-bare = rw (length-append, length-opening, short-size front_size (omega arith))

  pub short-bare : length buffer < bare_size → filled_by (Err ShortBuffer) buffer ≡ bare_written m t buffer
  unfolding bare_written fill
  short-bare h = rw (length-bare, lt-leb bare_size (length buffer) h)

  -- what stands before the list of no rows
  pub all_bare : bare_size ≤ length buffer → {rows : ℕ} → rows ≡ 0 → {after : List ℕ} → after ≡ sets buffer 0 (opening (frame_id m) front_size ++ front_bytes rows t)
      → filled_by (Ok bare_size) after ≡ bare_written m t buffer
  unfolding bare_written fill
  all_bare h none p =
      let whole : bare_bytes m t ≡ opening (frame_id m) front_size ++ front_bytes 0 t = unfold bare_bytes in refl in
      rw (length-bare, le-leb bare_size (length buffer) h, p, none, ← whole, length-bare)

-- ---- of an answer

module _ (b : List ℕ) where
  pub not_written : (t : ℕ) (buffer : List ℕ) → answerable b ≡ false → filled_by (Err AnswerWrong) buffer ≡ response_written b t buffer
  unfolding response_written response_verdict fill
  not_written t buffer wrong = rw wrong

  module _ (yes : answerable b ≡ true) where
    facts : Answerable b
    facts = answerable_facts b yes

    pub given-long : answer_size current ≤ length b
    given-long = facts.legal.long

    module _ {many : ℕ} (e : many ≡ row_count current b) where
      rows-given : (answer_of current b).reply.rows ≡ rows_in b many
      unfolding answer_of
      rows-given = rw e

      all_small : small_rows (rows_in b many) ≡ true
      unfolding small_rows legal_row
      all_small =
          rw (← rows-given)
          (every_all (λ w. ltb w.identity cell_end) (all_imply (λ w l. (both (ltb w.identity cell_end) _ l).0) facts.legal.each))

      pub given-rows : RowsOf b many
      given-rows = record { whole = rw e (omega (arith, facts.legal.size)); few = rw e facts.few; small = all_small }

      module _ {kind : ℕ} (k : kind ≡ (answer_of current b).kind) {m : Message} (answers : m ≡ response_by (eqb kind cancel_or_kill)) (t : ℕ) (byte : t < 256) where
        the_message : response_to (kind_of (answer_of current b).kind) ≡ m
        the_message = rw (answers, k) (response-to (answer_of current b).kind facts.wired)

        the_bytes : response_of (answer_of current b) t ≡ enclosed (frame_id m) (value_bytes m t (rows_in b many))
        the_bytes = rw (the_message, rows-given) (response-bytes m t byte (rows_in b many))

        the_size : length (response_of (answer_of current b) t) ≡ response_size m many
        the_size =
            rw (the_message, rows-given)
            (response-size m t (rows_in b many) ∙ ap (response_size m) (length-rows b many))

        pub bare-written : many ≡ 0 → (buffer : List ℕ) → bare_written m t buffer ≡ response_written b t buffer
        unfolding bare_written response_written response_verdict
        bare-written none buffer = rw (yes, the_bytes, none, bare_parts m b t byte)

        module _ (buffer : List ℕ) (size : ℕ) (s : size ≡ response_size m many) where
          pub short-written : length buffer < size → filled_by (Err ShortBuffer) buffer ≡ response_written b t buffer
          unfolding response_written response_verdict fill
          short-written h = rw (yes, lt-leb (length (response_of (answer_of current b) t)) (length buffer) (rw (the_size, ← s) h))

          pub all_written : size ≤ length buffer → {front after : List ℕ} {at value : ℕ} → value ≡ value_size m many
              → front ≡ sets buffer 0 (opening (frame_id m) value ++ front_bytes many t)
              → at ≡ opening_size value + front_size
              → after ≡ sets front at (list_bytes m (rows_in b many))
              → filled_by (Ok size) after ≡ response_written b t buffer
          unfolding response_written response_verdict fill
          all_written h {front} {after} {at} {value} v p e q =
              let long : at ≡ 0 + length (opening (frame_id m) value ++ front_bytes many t) = rw (length-append, length-opening) (omega arith) in
              let whole : after ≡ sets buffer 0 (response_of (answer_of current b) t) =
              rw (the_bytes, the_parts m b many t byte, ← v) (stored_then buffer 0 at (opening (frame_id m) value ++ front_bytes many t) (list_bytes m (rows_in b many)) p q long) in
              rw (yes, le-leb (length (response_of (answer_of current b) t)) (length buffer) (rw (the_size, ← s) h), whole, s, ← the_size)

-- What an accepted call is told is sound, so its answer is legal and reads back as that: the kind, the identifier, the serial number and every row.
-- Each cell's rows fit and are legal because the cell is sound; that they ascend is the order of the cells.
use Rattle.std.specs.Prelude.{Ok}
use mathlib.Core.Path.{◌≡◌, ◌∙◌}
use mathlib.Core.Bool.{true}
use mathlib.Core.List.{List, ◌++◌, flat_map}
use Prim.Native.Nat.{ℕ, ◌*◌, ◌^◌, ◌≤◌, ◌<◌}
use native.Mathlib.Nat.{mul-le-mul}
use native.Mathlib.Omega.{arith}
use lib.ListN.{length, take, drop, get_or}
use Rattle.octets.specs.Runs.{Bytes}
use Rattle.octets.specs.Fields.{Fit, none, field}
use Rattle.octets.proofs.RunsLaws.{sets_front, take-sets_front}
use Rattle.rules.specs.Layout.{Version, longest_period, record_fields, answer_fields, places_per_cell, most_cells, answer_mark}
use Rattle.rules.specs.Table.{cells_of}
use Rattle.rules.specs.Record.{Kind, kind_of, request_of, request_numbers, items_of}
use Rattle.rules.specs.Reply.{cell_rows, reply_of}
use Rattle.rules.specs.Answer.{answer_numbers, answer_of, answer_bytes, is_known, legal_answer, rows_per_cell, rows_by}
use Rattle.rules.specs.Refusals.{request_verdict, apply_verdict}
use Rattle.rules.specs.Applied.{answered, applied}
use Rattle.rules.specs.Sound.{fit_request, sound_cell, sound_answer}
use Rattle.rules.proofs.AllLaws.{none, every_all}
use Rattle.rules.proofs.LayoutLaws.{answer-number-fits}
use Rattle.rules.proofs.SoundPlaceLaws.{fits-at}
use Rattle.rules.proofs.KindAreaLaws.{kind_by, kind-known, known-kind}
use Rattle.rules.proofs.VerdictLaws.{request-accepted}
use Rattle.rules.proofs.AcceptedRecordLaws.{record-accepted, within-own}
use Rattle.rules.proofs.TableCodec.{table-sound}
use Rattle.rules.proofs.LegalTableLaws.{SoundCells, sound-cells}
use Rattle.rules.proofs.StepLaws.{all_rows-few}
use Rattle.rules.proofs.RowsLaws.{own-rows, rows_rise}
use Rattle.rules.proofs.AnswerCodec.{answer-again, answer-legal}
use Rattle.rules.proofs.LegalAnswerLaws.{answer-is-sound}
use Rattle.rules.proofs.AppliedLaws.{applied-answer, applied-written, answer-fits}
use Rattle.rules.proofs.AcceptedCallLaws.{AcceptedCall, call_accepted, record-fits}
use Rattle.rules.proofs.RowsSoundLaws.{rows-sound}

module _ (v : Version) where
  -- ---- the answer of an accepted call

  module _ (t r a : List ℕ) (bt : Bytes t) (br : Bytes r) (e : apply_verdict v t r (length a) ≡ Ok tt) where
    call : AcceptedCall v t r (length a)
    call = call_accepted v t r (length a) e

    fit : fit_request (request_of r) ≡ true
    fit = record-fits v r br (record-accepted v r call.req)

    allowed : request_verdict (longest_period v) (request_of r) (items_of r) ≡ Ok tt
    allowed = within-own v r (record-accepted v r call.req)

    cells : SoundCells v (cells_of v t)
    cells = sound-cells v (cells_of v t) (table-sound v t bt call.table)

    few : length (answered v t r).reply.rows ≤ places_per_cell * most_cells
    unfolding reply_of
    few =
        let most = all_rows-few (request_of r) (items_of r) v fit allowed (cells_of v t) (every_all (sound_cell v) cells.each) in
        omega (arith, most, mul-le-mul (rows-most (request_of r).kind) cells.few)
      where
        rows-most : (kind : ℕ) → rows_per_cell kind ≤ places_per_cell
        rows-most kind = kind_by (λ (k : Kind). rows_by k ≤ places_per_cell) kind (λ _. omega arith) (λ _. omega arith) (λ _. omega arith) (λ _. omega arith) (λ _. omega arith) (omega arith)

    pub answered-sound : sound_answer v (answered v t r) ≡ true
    unfolding reply_of fit_request request_numbers
    answered-sound =
        answer-is-sound v (answered v t r)
        (record {
          fit = head-fits;
          known = kind-is-known;
          each = rows-sound v (request_of r) (items_of r) cells.each;
          order = rows_rise (cell_rows (request_of r) (items_of r)) (own-rows (request_of r) (items_of r)) (cells_of v t) cells.order;
        })
      where
        at : (i : ℕ) → get_or (request_numbers (request_of r) 0) i 0 < 256 ^ get_or record_fields i 0
        at i = fits-at record_fields (request_numbers (request_of r) 0) i fit

        head-fits : Fit (answer_fields v) (answer_numbers v (request_of r).kind (request_of r).identifier (request_of r).serial (length (flat_map (cell_rows (request_of r) (items_of r)) (cells_of v t))))
        head-fits =
            let mark : answer_mark < 256 ^ 3 = omega arith in
            let rows : length (flat_map (cell_rows (request_of r) (items_of r)) (cells_of v t)) < 256 ^ 2 = omega (arith, few) in
            field mark (field (answer-number-fits v) (field (at 2) (field (at 5) (field (at 6) (field rows none)))))

        kind-is-known : is_known (kind_of (request_of r).kind) ≡ true
        kind-is-known = known-kind (kind_of (request_of r).kind) (kind-known (request_of r) (request-accepted (longest_period v) (request_of r) (items_of r) allowed).kind)

    -- the answer's bytes stand at the start of the buffer, and those behind them stay
    pub applied-whole : (applied v t r a).answer ≡ answer_bytes v (answered v t r) ++ drop (applied v t r a).length a
    applied-whole =
        applied-answer v t r a bt br e
        ∙ sets_front a (answer_bytes v (answered v t r)) (answer-fits v t r a bt br e)
        ∙ rw (applied-written v t r a bt br e)

    pub applied-told : take (applied v t r a).length (applied v t r a).answer ≡ answer_bytes v (answered v t r)
    applied-told = rw (applied-written v t r a bt br e, applied-answer v t r a bt br e) (take-sets_front a (answer_bytes v (answered v t r)) (answer-fits v t r a bt br e))

    -- the answer reads back as what was told
    pub applied-reads : answer_of v (take (applied v t r a).length (applied v t r a).answer) ≡ answered v t r
    applied-reads = rw applied-told (answer-again v (answered v t r) answered-sound)

    pub applied-answer-legal : legal_answer v (take (applied v t r a).length (applied v t r a).answer) ≡ true
    applied-answer-legal = rw applied-told (answer-legal v (answered v t r) answered-sound)

-- An accepted request: the table stays legal and keeps its length, its cells are those that the rule gives, and the answer fits its buffer.
-- The cells are decoded, stepped and encoded, and each of the three keeps them sound.
use Rattle.std.specs.Prelude.{Ok}
use mathlib.Core.Path.{◌≡◌, sym, ap, ◌∙◌}
use mathlib.Core.Bool.{true}
use mathlib.Core.List.{List, map, flat_map, map-map}
use Prim.Native.Nat.{ℕ, ◌+◌, ◌*◌, ◌≤◌}
use native.Mathlib.Nat.{mul_assoc, mul-le-mul_left}
use native.Mathlib.Omega.{arith}
use lib.ListN.{length, take, length-map}
use lib.Seq.{sets, take_at}
use Rattle.octets.specs.Runs.{Bytes}
use Rattle.rules.specs.Layout.{Version, longest_period, header_size, cell_size, answer_size, row_size}
use Rattle.rules.specs.Table.{Cell, cell_of, cell_bytes, legal_cell, cell_count, cell_runs, cells_of, header_bytes, table_bytes}
use Rattle.rules.specs.Record.{request_of, items_of}
use Rattle.rules.specs.Reach.{reaches}
use Rattle.rules.specs.Answer.{answer_bytes, rows_per_cell, room_for}
use Rattle.rules.specs.Refusals.{table_verdict, request_verdict, apply_verdict}
use Rattle.rules.specs.Applied.{step_cell, cell_after, answered, outcome, applied}
use Rattle.rules.specs.Reply.{reply_of}
use Rattle.rules.specs.Sound.{fit_request, sound_cell, sound_cells}
use Rattle.rules.specs.declared.Request.{Request}
use Rattle.rules.proofs.TestLaws.{by_test}
use Rattle.rules.proofs.AllLaws.{every_all, all_imply, map_all}
use Rattle.rules.proofs.AcceptedRecordLaws.{record-accepted, within-own}
use Rattle.rules.proofs.CellCodec.{cell-back}
use Rattle.rules.proofs.TableCodec.{length_cells_of, table-back, table-sound, table-again, table-legal, table-cells, length-header_bytes, length-table_bytes, runs_of_table_bytes, count-table_bytes, bytes-table_bytes}
use Rattle.rules.proofs.LegalTableLaws.{table-accepted, sound-cells}
use Rattle.rules.proofs.AnswerCodec.{length-answer_bytes}
use Rattle.rules.proofs.StepLaws.{step_unreached, steps_sound, all_rows-few}
use Rattle.rules.proofs.AcceptedCallLaws.{AcceptedCall, call_accepted, record-fits}

module _ (v : Version) where
  -- ---- a cell's bytes

  -- an unreached cell, decoded and encoded again, keeps its bytes
  after-cell : (q : Request) (items c : List ℕ) → Bytes c → length c ≡ cell_size v → legal_cell v c ≡ true
      → cell_bytes v (step_cell q items (cell_of v c)) ≡ cell_after v q items c
  unfolding cell_after
  after-cell q items c b n l =
      by_test (reaches q.area items (cell_of v c).head) (λ e. rw e)
      (λ e. rw (e, step_unreached q items (cell_of v c) e) (cell-back v c b n l))

  module _ (t r a : List ℕ) (bt : Bytes t) (br : Bytes r) (e : apply_verdict v t r (length a) ≡ Ok tt) where
    call : AcceptedCall v t r (length a)
    call = call_accepted v t r (length a) e

    fit : fit_request (request_of r) ≡ true
    fit = record-fits v r br (record-accepted v r call.req)

    allowed : request_verdict (longest_period v) (request_of r) (items_of r) ≡ Ok tt
    allowed = within-own v r (record-accepted v r call.req)

    sound : sound_cells v (cells_of v t) ≡ true
    sound = table-sound v t bt call.table

    stepped_sound : sound_cells v (map (step_cell (request_of r) (items_of r)) (cells_of v t)) ≡ true
    stepped_sound = steps_sound (request_of r) (items_of r) v fit allowed (cells_of v t) sound

    pub applied-table : (applied v t r a).table ≡ table_bytes v (map (step_cell (request_of r) (items_of r)) (cells_of v t))
    unfolding applied outcome
    applied-table = rw e

    pub applied-answer : (applied v t r a).answer ≡ sets a 0 (answer_bytes v (answered v t r))
    unfolding applied outcome
    applied-answer = rw e

    pub applied-written : (applied v t r a).length ≡ length (answer_bytes v (answered v t r))
    unfolding applied outcome
    applied-written = rw e

    pub applied-cells : cells_of v (applied v t r a).table ≡ map (step_cell (request_of r) (items_of r)) (cells_of v t)
    applied-cells = rw applied-table (table-again v _ stepped_sound)

    pub applied-legal : table_verdict v (applied v t r a).table ≡ Ok tt
    applied-legal = rw applied-table (table-legal v _ stepped_sound)

    pub applied-bytes : Bytes (applied v t r a).table
    applied-bytes = rw applied-table (bytes-table_bytes v _ stepped_sound)

    stepped_count : length (map (step_cell (request_of r) (items_of r)) (cells_of v t)) ≡ cell_count t
    stepped_count = length-map (cells_of v t) (step_cell (request_of r) (items_of r)) ∙ length_cells_of v t

    pub applied-count : cell_count (applied v t r a).table ≡ cell_count t
    applied-count = rw applied-table (count-table_bytes v _ stepped_sound ∙ stepped_count)

    pub applied-length : length (applied v t r a).table ≡ length t
    applied-length =
        rw (applied-table, length-table_bytes v (map (step_cell (request_of r) (items_of r)) (cells_of v t)), stepped_count) (sym (table-accepted v t call.table).size)

    -- the room asked for is enough, so the whole answer stands at the start of its buffer and the bytes behind it stay
    pub answer-fits : length (answer_bytes v (answered v t r)) ≤ length a
    unfolding room_for reply_of
    answer-fits =
        let n = length (cells_of v t) in
        let k = rows_per_cell (request_of r).kind in
        let few = all_rows-few (request_of r) (items_of r) v fit allowed (cells_of v t) (every_all (sound_cell v) (sound-cells v (cells_of v t) sound).each) in
        let room : answer_size v + row_size v * k * n ≤ length a = rw (length_cells_of v t) (room_needed call.enough) in
        let rows = mul-le-mul_left (row_size v) few in
        rw (length-answer_bytes v) (omega (arith, rows, room, mul_assoc (row_size v) k n))
      where
        room_needed : room_for v (request_of r).kind (cell_count t) ≤ length a → answer_size v + row_size v * rows_per_cell (request_of r).kind * cell_count t ≤ length a
        room_needed h = h

    -- ---- cell by cell

    pub applied-header : take header_size (applied v t r a).table ≡ take header_size t
    unfolding table_bytes
    applied-header =
        let front : (cells : List Cell) → take header_size (table_bytes v cells) ≡ header_bytes v (length cells) =
        λ cells. take_at (header_bytes v (length cells)) (flat_map (cell_bytes v) cells) header_size (length-header_bytes v (length cells)) in
        ap (take header_size) applied-table
        ∙ front (map (step_cell (request_of r) (items_of r)) (cells_of v t))
        ∙ ap (header_bytes v) (stepped_count ∙ sym (length_cells_of v t))
        ∙ sym (front (cells_of v t))
        ∙ ap (take header_size) (table-back v t bt call.table)

    pub applied-runs : cell_runs v (applied v t r a).table ≡ map (cell_after v (request_of r) (items_of r)) (cell_runs v t)
    unfolding cells_of
    applied-runs =
        rw applied-table (runs_of_table_bytes v _ stepped_sound)
        ∙ map-map (cell_bytes v) (step_cell (request_of r) (items_of r)) (map (cell_of v) (cell_runs v t))
        ∙ map-map (λ c. cell_bytes v (step_cell (request_of r) (items_of r) c)) (cell_of v) (cell_runs v t)
        ∙ map_all (λ c. cell_bytes v (step_cell (request_of r) (items_of r) (cell_of v c))) (cell_after v (request_of r) (items_of r))
        (all_imply (λ c h. after-cell (request_of r) (items_of r) c h.0 h.1 h.2) (table-cells v t bt call.table))

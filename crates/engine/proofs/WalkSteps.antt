-- The walk of a request: what holds before the first cell, what a cell's routine asks, and that a cell passed or stepped keeps it.
-- Walking, with the rules' words for a cell's bytes afterwards and its rows; a reached cell's routine leaves what these say.
use Rattle.std.specs.Prelude.{Ok}
use mathlib.Core.Path.{◌≡◌, refl, sym, ap, ◌∙◌}
use mathlib.Core.Bool.{true, false}
use mathlib.Core.List.{List, flat_map}
use Prim.Native.Nat.{ℕ, ◌+◌, ◌*◌, ◌-◌, ◌<◌, ◌≤◌}
use native.Mathlib.Nat.{mul_assoc, mul-le-mul, zero-add}
use native.Mathlib.Omega.{arith}
use borrow.Rule.Slice.PartMut.{put_mid, mid_of}
use lib.ListN.{length, drop, length-drop}
use lib.Seq.{sets, length-take-le}
use Rattle.octets.specs.Runs.{Bytes}
use Rattle.octets.proofs.RunsLaws.{bytes_drop}
use Rattle.rules.specs.Layout.{current, header_size, cell_size, answer_size, row_size, places_per_cell, most_cells}
use Rattle.rules.specs.Table.{cell_of, legal_cell, cell_count, cell_runs}
use Rattle.rules.specs.Record.{request_of, items_of}
use Rattle.rules.specs.Reach.{reaches}
use Rattle.rules.specs.InCell.{in_cell}
use Rattle.rules.specs.Answer.{row_bytes, rows_per_cell, room_for}
use Rattle.rules.specs.Refusals.{apply_verdict}
use Rattle.rules.specs.Applied.{cell_after}
use Rattle.rules.specs.Reply.{cell_rows}
use Rattle.rules.specs.declared.Request.{Request}
use Rattle.rules.proofs.KindAreaLaws.{rows-most}
use Rattle.rules.proofs.LegalTableLaws.{table-accepted}
use Rattle.rules.proofs.AcceptedCallLaws.{call_accepted}
use Rattle.cell_read.specs.Places.{live_places}
use Rattle.in_cell.specs.Step.{Ready, Stepped}
use Rattle.engine.specs.Walk.{rows_after, table_after}
use Rattle.engine.proofs.ReachedLaws.{after_unreached, after-reached, rows_of-reached, count_of_reached}
use Rattle.engine.proofs.Walking.{Going, cell_from, cell-long, cell-bytes, cell_legal_lem, room_here, skip, step_cell_lem}

-- ---- q is the request, items its items; a cell may have as many rows as its kind allows

abbrev GoingOn : Request → List ℕ → List ℕ → List ℕ → ℕ → ℕ → ℕ → ℕ → List ℕ → List ℕ → ℕ → ℕ → ℕ → ℕ → Type 0
GoingOn q items = Going (cell_after current q items) (λ c. cell_rows q items (cell_of current c)) (rows_per_cell q.kind)

-- from a table and an answer on: the goal is what the rules give of both
abbrev pub GoingFrom : Request → List ℕ → List ℕ → List ℕ → List ℕ → List ℕ → ℕ → ℕ → ℕ → ℕ → Type 0
GoingFrom q items t a =
    let rows = rows_after q items (cell_runs current t) in
    GoingOn q items (table_after q items t (cell_runs current t)) (sets a (answer_size current) (flat_map (row_bytes current) rows)) (length rows) (places_per_cell * most_cells) (length t) (length a)

pub begin : {t : List ℕ} {cells : ℕ} (r : List ℕ) {q : Request} {a : List ℕ} → Bytes t → apply_verdict current t r (length a) ≡ Ok tt → cells ≡ cell_count t → q ≡ request_of r
    → GoingFrom q (items_of r) t a t a header_size (answer_size current) 0 cells
unfolding table_after rows_after room_for
begin {t} {cells} r {q} {a} bytes accepted n request =
    let call = call_accepted current t r (length a) accepted in
    let legal = table-accepted current t call.table in
    let k = rows_per_cell q.kind in
    let kind : rows_per_cell (request_of r).kind ≡ k = ap (λ (x : Request). rows_per_cell x.kind) (sym request) in
    let room : answer_size current + row_size current * k * cells ≤ length a = rw (n, ← kind) call.enough in
    let fewer : cells ≤ most_cells = rw n legal.few in
    let most : k * cells ≤ places_per_cell * most_cells = mul-le-mul (rows-most q.kind) fewer in
    record {
      size = rw n (sym legal.size);
      bytes = bytes_drop header_size t bytes;
      fine = rw n legal.cells;
      place = refl;
      room = omega (arith, mul_assoc (row_size current) k cells);
      few = omega arith;
      same-t = refl;
      same-a = refl;
      table = rw n;
      count = rw (n, zero-add);
      answer = rw n;
    }

module _ (q : Request) (items : List ℕ) {T A : List ℕ} {R most lt la : ℕ} {t a : List ℕ} {at out rows left : ℕ}
    (go : GoingOn q items T A R most lt la t a at out rows left) (some : 0 < left) where
  -- what the cell's routine asks
  pub asked : {k m : ℕ} → k ≡ cell_size current → m ≡ length a - out → Ready (mid_of at k t) (mid_of out m a) (rows_per_cell q.kind)
  asked {k} {m} ek em =
      let long : m ≤ length (drop out a) = rw length-drop (omega arith) in
      rw ek
      (record {
        size = cell-long go some;
        legal = cell_legal_lem go some;
        room = rw (length-take-le m (drop out a) long) (omega (arith, room_here go some));
      })

  -- a cell that is not reached
  pub passed : {at' left' : ℕ} → at' ≡ at + cell_size current → left' ≡ left - 1 → reaches q.area items (cell_of current (cell_from t at)).head ≡ false
      → GoingOn q items T A R most lt la t a at' out rows left'
  passed ea el e = let h = after_unreached q items (cell_from t at) e in rw (ea, el) (skip go some h.0 h.1)

  -- a cell that is reached, as its routine leaves it
  module _ (e : reaches q.area items (cell_of current (cell_from t at)).head ≡ true) where
    stepped_here : (m : ℕ) → m ≡ length a - out → (c' o' : List ℕ) (n : ℕ)
        → Stepped (in_cell q (live_places (cell_from t at))) (cell_from t at) (mid_of out m a) c' o' (rows_per_cell q.kind) n → length c' ≡ length (cell_from t at)
        → GoingOn q items T A R most lt la (put_mid at (cell_size current) t c') (put_mid out m a o') (at + cell_size current) (out + row_size current * n) (rows + n) (left - 1)
    stepped_here m em c' o' n s same =
        let c : List ℕ = cell_from t at in
        let b : Bytes c = cell-bytes go some in
        let long : length c ≡ cell_size current = cell-long go some in
        let l : legal_cell current c ≡ true = cell_legal_lem go some in
        let new : c' ≡ cell_after current q items c = s.cell ∙ sym (after-reached q items c b long l e) in
        let told : o' ≡ sets (mid_of out m a) 0 (flat_map (row_bytes current) (cell_rows q items (cell_of current c))) =
        s.rows ∙ ap (sets (mid_of out m a) 0) (sym (rows_of-reached q items c b long l e)) in
        rw told
        (step_cell_lem go some m em c' n new (same ∙ long) (s.many ∙ sym (count_of_reached q items c b long l e)) s.few)

    module _ {k m : ℕ} (ek : k ≡ cell_size current) (em : m ≡ length a - out) {c' o' : List ℕ} {n : ℕ}
        (s : Stepped (in_cell q (live_places (mid_of at k t))) (mid_of at k t) (mid_of out m a) c' o' (rows_per_cell q.kind) n) (same : length c' ≡ length (mid_of at k t)) where
      pub stepped : {at' out' left' : ℕ} → at' ≡ at + cell_size current → out' ≡ out + row_size current * n → left' ≡ left - 1
          → GoingOn q items T A R most lt la (put_mid at k t c') (put_mid out m a o') at' out' (rows + n) left'
      stepped ea eo el = rw (ea, eo, el, ek) (stepped_here m em c' o' n (rw ek at s) (rw ek at same))

      -- the same without a row
      pub stepped_silent : n ≤ 0 → GoingOn q items T A R most lt la (put_mid at k t c') (put_mid out m a o') (at + cell_size current) out rows (left - 1)
      stepped_silent z =
          let eo : out + row_size current * n ≡ out = omega arith in
          let er : rows + n ≡ rows = omega arith in
          rw er at (stepped refl (sym eo) refl)

-- No answer to an accepted Write-Replace or Cancel is refused.
-- Such an answer is legal and reads back as what was told. A cell tells one row at most, so there are no more than cells and they ascend strictly; a start is told with count 0.
use Rattle.std.specs.Prelude.{Ok}
use mathlib.Core.Path.{◌≡◌, refl}
use mathlib.Core.Bool.{true, false≢true}
use mathlib.Core.List.{List, [], ◌∷◌, map, flat_map}
use Prim.Native.Nat.{ℕ, ◌≤◌}
use native.Mathlib.Omega.{arith}
use lib.ListN.{length}
use Rattle.octets.specs.Runs.{Bytes}
use Rattle.rules.specs.Lists.{every, ascending}
use Rattle.rules.specs.Layout.{current, longest_period, most_cells}
use Rattle.rules.specs.Table.{Cell, cells_of}
use Rattle.rules.specs.Record.{a_write_replace, a_cancel, kind_of, request_of, items_of}
use Rattle.rules.specs.Reach.{reaches}
use Rattle.rules.specs.InCell.{cancel, rule_of, in_cell}
use Rattle.rules.specs.Reply.{Row, identities, row_by, cell_rows, reply_of}
use Rattle.rules.specs.Answer.{rows_per_cell, answer_of}
use Rattle.rules.specs.Refusals.{request_verdict, apply_verdict}
use Rattle.rules.specs.Applied.{answered, applied}
use Rattle.rules.specs.Sound.{fit_request, sound_cell}
use Rattle.rules.specs.declared.Request.{Request}
use Rattle.rules.proofs.TestLaws.{cond_either}
use Rattle.rules.proofs.AllLaws.{all_every, every_all, all_imply}
use Rattle.rules.proofs.ListsLaws.{every-flat_map}
use Rattle.rules.proofs.KindAreaLaws.{kind_by}
use Rattle.rules.proofs.StartLaws.{start-rows}
use Rattle.rules.proofs.AcceptedRecordLaws.{record-accepted, within-own}
use Rattle.rules.proofs.AcceptedCallLaws.{AcceptedCall, call_accepted, record-fits}
use Rattle.rules.proofs.LegalTableLaws.{SoundCells, sound-cells}
use Rattle.rules.proofs.LegalAnswerLaws.{legal-answer}
use Rattle.rules.proofs.TableCodec.{table-sound}
use Rattle.rules.proofs.StepLaws.{rows_few, all_rows-few}
use Rattle.rules.proofs.RowsLaws.{own-rows, rows_ascend}
use Rattle.rules.proofs.AnsweredLaws.{applied-reads, applied-answer-legal}
use Rattle.answer_judge.specs.Answerable.{is_wired, counts_of, answerable, answer_left}
use Rattle.answer_judge.proofs.AnswerableLaws.{wired_by, many, facts_answerable}

-- ---- counts

-- a cancel's are any
counts-any : (ws : List Row) → every (counts_of a_cancel) ws ≡ true
unfolding every
counts-any [] = refl
counts-any (w ∷ ws) = counts-any ws

told-counts : (q : Request) (c : Cell) → is_wired (kind_of q.kind) ≡ true → every (counts_of (kind_of q.kind)) (map (row_by c) (in_cell q c.places).rows) ≡ true
unfolding in_cell every
told-counts q c w =
    kind_by (λ k. is_wired k ≡ true → every (counts_of k) (map (row_by c) (rule_of k q c.places).rows) ≡ true) q.kind
    (λ _ _. start-rows (λ rows. every (counts_of a_write_replace) (map (row_by c) rows) ≡ true) refl refl q c.places)
    (λ _ _. counts-any (map (row_by c) (cancel q c.places).rows))
    (λ _ e. absurd (false≢true e))
    (λ _ e. absurd (false≢true e))
    (λ _ e. absurd (false≢true e))
    (λ e. absurd (false≢true e))
    w

cell-counts : (q : Request) (items : List ℕ) (c : Cell) → is_wired (kind_of q.kind) ≡ true → every (counts_of (kind_of q.kind)) (cell_rows q items c) ≡ true
unfolding cell_rows every
cell-counts q items c w =
    cond_either (λ ws. every (counts_of (kind_of q.kind)) ws ≡ true) (reaches q.area items c.head) _ [] (λ _. told-counts q c w) (λ _. refl)

-- ---- one row of a cell at most

one-row : (kind : ℕ) → is_wired (kind_of kind) ≡ true → rows_per_cell kind ≡ 1
one-row kind w = wired_by kind w (λ k. rw k) (λ k. rw k)

-- ---- an accepted call

module _ (t r a : List ℕ) (bt : Bytes t) (br : Bytes r) (e : apply_verdict current t r (length a) ≡ Ok tt) (wired : is_wired (kind_of (request_of r).kind) ≡ true) where
  call : AcceptedCall current t r (length a)
  call = call_accepted current t r (length a) e

  fit : fit_request (request_of r) ≡ true
  fit = record-fits current r br (record-accepted current r call.req)

  allowed : request_verdict (longest_period current) (request_of r) (items_of r) ≡ Ok tt
  allowed = within-own current r (record-accepted current r call.req)

  cells : SoundCells current (cells_of current t)
  cells = sound-cells current (cells_of current t) (table-sound current t bt call.table)

  abbrev rows : List Row
  rows = flat_map (cell_rows (request_of r) (items_of r)) (cells_of current t)

  few : length rows ≤ most_cells
  few =
      let most = all_rows-few (request_of r) (items_of r) current fit allowed (cells_of current t) (every_all (sound_cell current) cells.each) in
      omega (arith, rw (one-row (request_of r).kind wired) at most, cells.few)

  counts : every (counts_of (kind_of (request_of r).kind)) rows ≡ true
  counts =
      every-flat_map (cell_rows (request_of r) (items_of r)) (sound_cell current) (counts_of (kind_of (request_of r).kind)) (cells_of current t)
      (λ c _. cell-counts (request_of r) (items_of r) c wired)
      (every_all (sound_cell current) cells.each)

  order : ascending (identities rows) ≡ true
  order =
      let one : (c : Cell) → sound_cell current c ≡ true → length (cell_rows (request_of r) (items_of r) c) ≤ 1 =
      λ c s. rw (one-row (request_of r).kind wired) at (rows_few (request_of r) (items_of r) current fit allowed c s) in
      rows_ascend (cell_rows (request_of r) (items_of r)) (own-rows (request_of r) (items_of r)) (all_imply one cells.each) cells.order

  pub none-refused : answerable (answer_left (applied current t r a)) ≡ true
  unfolding reply_of
  none-refused =
      let b = answer_left (applied current t r a) in
      let reads : answer_of current b ≡ answered current t r = applied-reads current t r a bt br e in
      facts_answerable b
      (record {
        legal = legal-answer current b (applied-answer-legal current t r a bt br e);
        wired = rw reads wired;
        few = rw (← many b, reads) few;
        counts = rw reads (all_every (counts_of (kind_of (request_of r).kind)) rows counts);
        order = rw reads order;
      })

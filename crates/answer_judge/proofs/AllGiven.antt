-- Every answer that is not refused is given by some table and request.
-- By its kind, a request and the live places of a cell that make it tell a row; with a cell for each row, the answer told is the answer.
use Rattle.std.specs.Prelude.{Ok}
use mathlib.Core.Path.{◌≡◌, refl, sym, ap, ◌∙◌}
use mathlib.Core.Bool.{true}
use mathlib.Core.List.{List, [], ◌∷◌, flat_map}
use Prim.Native.Nat.{ℕ, ◌^◌, ◌<◌}
use native.Mathlib.Omega.{arith}
use borrow.Author.Tests.{ltb-true, eqb-true}
use Rattle.octets.specs.Runs.{Bytes}
use Rattle.rules.specs.Layout.{current, longest_period, answer_fields, row_fields, cell_end}
use Rattle.rules.specs.Table.{Cell}
use Rattle.rules.specs.Record.{write_replace, cancel_or_kill, no_area}
use Rattle.rules.specs.InCell.{reported, in_cell}
use Rattle.rules.specs.Reply.{Row, cell_rows, reply_of}
use Rattle.rules.specs.Answer.{Answer, answer_of, answer_to, answer_bytes, row_numbers}
use Rattle.rules.specs.Refusals.{request_verdict}
use Rattle.rules.specs.Sound.{fit_request, sound_places, sound_cells}
use Rattle.rules.specs.declared.Request.{Request}
use Rattle.rules.specs.declared.Place.{Place}
use Rattle.rules.proofs.AllLaws.{All, none, more, all_imply, all_both, all_of}
use Rattle.rules.proofs.FitLaws.{Fit-fits}
use Rattle.rules.proofs.SoundPlaceLaws.{fits-at, none-sound}
use Rattle.rules.proofs.LegalTableLaws.{cells-sound}
use Rattle.rules.proofs.LegalAnswerLaws.{Numbers, SoundAnswer, sound-answer, answer-accepted}
use Rattle.rules.proofs.RowCodec.{row-sound}
use Rattle.rules.proofs.AnswerCodec.{answer_back, answer-sound}
use Rattle.answer_judge.specs.Answerable.{answerable, GivenBy}
use Rattle.answer_judge.proofs.AnswerableLaws.{wired_by, legal-row, many, Answerable, answerable_facts}
use Rattle.answer_judge.proofs.GivenLaws.{given}
use Rattle.answer_judge.proofs.CellsGivenLaws.{cells_for, cells_for_sound, cells_tell}
use Rattle.answer_judge.proofs.AskedLaws.{starting, cancelling, live, start-allowed, cancel-allowed, start-told, start-stopped, cancel-told, cancel-idle, start_fits, cancel-fits, live-sound}

-- a request that tells an answer's rows, each where these places are live, and no row where none is
record Giver (a : Answer) : Type 0 where
  request : Request
  places : Row → List Place
  kind : request.kind ≡ a.kind
  identifier : request.identifier ≡ a.identifier
  serial : request.serial ≡ a.serial
  everywhere : request.area ≡ no_area
  fit : fit_request request ≡ true
  allowed : request_verdict (longest_period current) request [] ≡ Ok tt
  sound : All (λ w. sound_places current (places w) ≡ true) a.reply.rows
  tells : All (λ w. (in_cell request (places w)).rows ≡ reported w.count) a.reply.rows
  idle : a.reply.rows ≡ [] → (in_cell request []).rows ≡ []

-- ---- a Write-Replace asks for one broadcast, or for none where no row is to be told

abbrev requested_for : List Row → ℕ
requested_for [] = 0
requested_for (w ∷ ws) = 1

requested-small : (ws : List Row) → requested_for ws < 256 ^ 2
requested-small [] = omega arith
requested-small (w ∷ ws) = omega arith

starts_tell : (identifier serial : ℕ) {ws : List Row} → All (λ w. w.count ≡ 0) ws → All (λ w. (in_cell (starting identifier serial (requested_for ws)) []).rows ≡ reported w.count) ws
starts_tell identifier serial none = none
starts_tell identifier serial (more z zs) = all_imply (λ w e. rw e (start-told identifier serial)) (more z zs)

-- ---- an answer that is not refused

module _ (b : List ℕ) (bytes : Bytes b) (a : Answerable b) where
  abbrev rows : List Row
  rows = (answer_of current b).reply.rows

  -- ---- given by a request and places

  rows-legal : All (λ w. (w.identity < cell_end) × (w.content ≡ 0)) rows
  rows-legal =
      all_imply
      (λ w l. let r = legal-row (answer_of current b).kind a.wired w l in (ltb-true w.identity cell_end r.0, eqb-true w.content 0 r.1))
      a.legal.each

  module _ (g : Giver (answer_of current b)) where
    abbrev cells : List Cell
    cells = cells_for g.places rows

    sound : sound_cells current cells ≡ true
    sound =
        cells-sound current cells
        (cells_for_sound g.places rows (all_imply (λ w h. (h.0.0, h.1)) (all_both rows-legal g.sound)) (omega (arith, many b, a.few)) a.order)

    told : flat_map (cell_rows g.request []) cells ≡ rows
    told = cells_tell g.places g.request g.everywhere rows (all_imply (λ w h. (h.0, h.1.1)) (all_both g.tells rows-legal)) g.idle

    same : answer_to g.request (reply_of g.request [] cells) ≡ answer_of current b
    unfolding reply_of
    same i = record { kind = g.kind i; identifier = g.identifier i; serial = g.serial i; reply = record { rows = told i } }

    given_so : GivenBy b
    given_so =
        given g.request cells g.fit g.allowed sound (rw g.kind a.wired) b
        (ap (answer_bytes current) same ∙ answer_back current b bytes (answer-accepted current b a.legal))

  -- ---- the numbers of the answer

  parts : SoundAnswer current (answer_of current b)
  parts = sound-answer current (answer_of current b) (answer-sound current b bytes (answer-accepted current b a.legal))

  small-identifier : (answer_of current b).identifier < 256 ^ 2
  small-identifier = fits-at (answer_fields current) (Numbers current (answer_of current b)) 3 (Fit-fits (answer_fields current) (Numbers current (answer_of current b)) parts.fit)

  small-serial : (answer_of current b).serial < 256 ^ 2
  small-serial = fits-at (answer_fields current) (Numbers current (answer_of current b)) 4 (Fit-fits (answer_fields current) (Numbers current (answer_of current b)) parts.fit)

  small-counts : All (λ w. w.count < 256 ^ 2) rows
  small-counts =
      all_imply (λ w s. fits-at (row_fields current) (row_numbers w) 1 (row-sound current (answer_of current b).kind w s).0) parts.each

  -- ---- by its kind

  start_giver : (answer_of current b).kind ≡ write_replace → Giver (answer_of current b)
  start_giver k =
      let identifier = (answer_of current b).identifier in
      let serial = (answer_of current b).serial in
      let zero : All (λ w. w.count ≡ 0) rows = all_imply (λ w e. eqb-true w.count 0 (rw k at e)) a.counts in
      record {
        request = starting identifier serial (requested_for rows);
        places = λ w. [];
        kind = sym k;
        identifier = refl;
        serial = refl;
        everywhere = refl;
        fit = start_fits identifier serial small-identifier small-serial (requested_for rows) (requested-small rows);
        allowed = start-allowed identifier serial (requested_for rows);
        sound = all_of (λ w. none-sound current) rows;
        tells = starts_tell identifier serial zero;
        idle = λ e. rw e (start-stopped identifier serial);
      }

  cancel_giver : (answer_of current b).kind ≡ cancel_or_kill → Giver (answer_of current b)
  cancel_giver k =
      let identifier = (answer_of current b).identifier in
      let serial = (answer_of current b).serial in
      record {
        request = cancelling identifier serial;
        places = λ w. live identifier serial w.count ∷ [];
        kind = sym k;
        identifier = refl;
        serial = refl;
        everywhere = refl;
        fit = cancel-fits identifier serial small-identifier small-serial;
        allowed = cancel-allowed identifier serial;
        sound = all_imply (λ w n. live-sound identifier serial small-identifier small-serial w.count n) small-counts;
        tells = all_of (λ w. cancel-told identifier serial w.count) rows;
        idle = λ e. cancel-idle identifier serial;
      }

pub all_given : (b : List ℕ) → Bytes b → answerable b ≡ true → GivenBy b
all_given b bytes e =
    let a = answerable_facts b e in
    given_so b bytes a (wired_by (answer_of current b).kind a.wired (start_giver b bytes a) (cancel_giver b bytes a))

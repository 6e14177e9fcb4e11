-- An answer that can be given is one that its response can say; and rows that a response can say, in ascending cells, make an answer that can be given,
-- with no names, which reads back as it was.
use mathlib.Core.Path.{◌≡◌, sym, ap, subst, ◌∙◌}
use mathlib.Core.Bool.{true}
use mathlib.Core.List.{List}
use Prim.Native.Nat.{ℕ, ◌^◌, ◌<◌}
use native.Mathlib.Omega.{arith}
use lib.ListN.{length}
use Rattle.octets.specs.Runs.{Bytes}
use Rattle.octets.specs.Fields.{Fit, none, field}
use Rattle.rules.specs.Lists.{ascending}
use Rattle.rules.specs.Layout.{current, answer_fields, answer_mark}
use Rattle.rules.specs.Record.{kind_of}
use Rattle.rules.specs.Reply.{Row, identities}
use Rattle.rules.specs.Answer.{Answer, row_count, answer_of, answer_numbers, answer_bytes, legal_row}
use Rattle.rules.specs.Sound.{sound_row, sound_answer}
use Rattle.rules.proofs.TestLaws.{and-true}
use Rattle.rules.proofs.AllLaws.{All, all_imply, all_both}
use Rattle.rules.proofs.LayoutLaws.{answer-number-fits}
use Rattle.rules.proofs.RowCodec.{row-sound}
use Rattle.rules.proofs.LegalAnswerLaws.{sound-answer, answer-is-sound, legal-answer, answer-accepted}
use Rattle.rules.proofs.AnswerCodec.{answer-sound, answer-again, answer-legal, bytes-answer_bytes}
use Rattle.answer_judge.specs.Answerable.{counts_of, answerable}
use Rattle.answer_judge.proofs.AnswerableLaws.{many, Answerable, answerable_facts, facts_answerable, wired-known}
use Rattle.answer_judge.proofs.OnePassLaws.{ascending-rising}
use Rattle.wire.specs.declared.Message.{Message}
use Rattle.responses.specs.Response.{response_to}
use Rattle.responses.specs.ResponseRead.{kind_answered, unnamed}
use Rattle.responses.proofs.ResponseFit.{Writable}
use Rattle.responses.proofs.AnsweringLaws.{Answers, starts, stops, response-answers, kind_answered_lem, answered-wired}
use Rattle.responses.proofs.SoundRowLaws.{Answered, answered-sound, sound-answered}

kind-below : {m : Message} → Answers m → kind_answered m < 256
kind-below starts = omega arith
kind-below stops = omega arith

-- ---- an answer that can be given

module _ (b : List ℕ) (bytes : Bytes b) (given : answerable b ≡ true) where
  abbrev kind : ℕ
  kind = (answer_of current b).kind

  abbrev response : Message
  response = response_to (kind_of kind)

  facts : Answerable b
  facts = answerable_facts b given

  pub same_kind : kind_answered response ≡ kind
  same_kind = kind_answered_lem kind facts.wired

  -- each row, fit and legal, and with its kind's count
  row-answered : (w : Row) → (sound_row current kind w ≡ true) × (counts_of (kind_of kind) w ≡ true) → Answered response w
  row-answered w h =
      let row = row-sound current kind w h.0 in
      record {
        fit = row.0;
        legal = subst (λ (k : ℕ). legal_row k w ≡ true) (sym same_kind) row.1;
        counts = subst (λ (k : ℕ). counts_of (kind_of k) w ≡ true) (sym same_kind) h.1;
      }

  pub answer_writable : (t : ℕ) → t < 256 → Writable response t (answer_of current b).reply.rows
  answer_writable t h =
      let sound = sound-answer current (answer_of current b) (answer-sound current b bytes (answer-accepted current b facts.legal)) in
      record {
        transaction = h;
        few = omega (arith, many b, facts.few);
        each = all_imply (λ w r. answered-sound (response-answers (kind_of kind)) w (row-answered w r)) (all_both sound.each facts.counts);
      }

-- ---- an answer with no names

module _ {m : Message} (a : Answers m) {t : ℕ} {rows : List Row} (takes : Writable m t rows) (order : ascending (identities rows) ≡ true) where
  abbrev nameless : Answer
  nameless = unnamed (kind_answered m) rows

  answered : All (Answered m) rows
  answered = all_imply (λ w s. sound-answered a w s) takes.each

  nameless_sound : sound_answer current nameless ≡ true
  unfolding sound_row
  nameless_sound =
      answer-is-sound current nameless
      (record {
        fit = head-fits;
        known = wired-known (kind_answered m) (answered-wired a);
        each = all_imply (λ w r. and-true _ _ r.fit r.legal) answered;
        order = ascending-rising (identities rows) order;
      })
    where
      head-fits : Fit (answer_fields current) (answer_numbers current (kind_answered m) 0 0 (length rows))
      head-fits =
          let mark : answer_mark < 256 ^ 3 = omega arith in
          let zero : 0 < 256 ^ 2 = omega arith in
          let listed : length rows < 256 ^ 2 = omega (arith, takes.few) in
          field mark (field (answer-number-fits current) (field (kind-below a) (field zero (field zero (field listed none)))))

  pub nameless_again : answer_of current (answer_bytes current nameless) ≡ nameless
  nameless_again = answer-again current nameless nameless_sound

  pub nameless_answerable : answerable (answer_bytes current nameless) ≡ true
  nameless_answerable =
      let bs = answer_bytes current nameless in
      let listed : length rows ≡ row_count current bs = ap (λ (x : Answer). length x.reply.rows) (sym nameless_again) ∙ many bs in
      facts_answerable bs
      (record {
        legal = legal-answer current bs (answer-legal current nameless nameless_sound);
        wired = rw nameless_again (answered-wired a);
        few = omega (arith, listed, takes.few);
        counts = rw nameless_again (all_imply (λ w r. r.counts) answered);
        order = rw nameless_again order;
      })

  pub nameless_bytes : Bytes (answer_bytes current nameless)
  nameless_bytes = bytes-answer_bytes current nameless nameless_sound

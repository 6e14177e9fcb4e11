-- What a legal answer gives, test by test, and a sound one likewise; and back.
-- A definition by `&&` is taken apart once, into a record of plain facts.
use mathlib.Core.Path.{◌≡◌}
use mathlib.Core.Bool.{true}
use mathlib.Core.List.{List}
use Prim.Native.Nat.{ℕ, ◌+◌, ◌*◌, ◌≤◌}
use borrow.Author.Tests.{leb-true, eqb-true, le-leb, eq-eqb}
use lib.ListN.{length}
use Rattle.octets.specs.Fields.{Fit, field_of}
use Rattle.rules.specs.Lists.{rising}
use Rattle.rules.specs.Layout.{Version, mark_field, version_field, answer_fields, answer_size, row_size, answer_mark, answer_version}
use Rattle.rules.specs.Record.{kind_of}
use Rattle.rules.specs.Reply.{identities}
use Rattle.rules.specs.Answer.{Answer, row_count, answer_of, answer_numbers, legal_row, is_known, legal_answer}
use Rattle.rules.specs.Sound.{sound_row, sound_answer}
use Rattle.rules.proofs.TestLaws.{both}
use Rattle.rules.proofs.AllLaws.{All, all_every, every_all}
use Rattle.rules.proofs.FitLaws.{fits-Fit, Fit-fits}

module _ (v : Version) where
  pub record LegalAnswer (b : List ℕ) : Type 0 where
    pub long : answer_size v ≤ length b
    pub mark : field_of (answer_fields v) mark_field b ≡ answer_mark
    pub version : field_of (answer_fields v) version_field b ≡ answer_version v
    pub known : is_known (kind_of (answer_of v b).kind) ≡ true
    pub size : length b ≡ answer_size v + row_size v * row_count v b
    pub each : All (λ w. legal_row (answer_of v b).kind w ≡ true) (answer_of v b).reply.rows
    pub order : rising (identities (answer_of v b).reply.rows) ≡ true

  pub legal-answer : (b : List ℕ) → legal_answer v b ≡ true → LegalAnswer b
  unfolding legal_answer
  legal-answer b e =
      let o = both _ _ e in
      let r = both _ _ o.0 in
      let s = both _ _ r.0 in
      let k = both _ _ s.0 in
      let n = both _ _ k.0 in
      let m = both _ _ n.0 in
      record {
        long = leb-true (answer_size v) (length b) m.0;
        mark = eqb-true (field_of (answer_fields v) mark_field b) answer_mark m.1;
        version = eqb-true (field_of (answer_fields v) version_field b) (answer_version v) n.1;
        known = k.1;
        size = eqb-true (length b) (answer_size v + row_size v * row_count v b) s.1;
        each = all_every (legal_row (answer_of v b).kind) (answer_of v b).reply.rows r.1;
        order = o.1;
      }

  pub answer-accepted : (b : List ℕ) → LegalAnswer b → legal_answer v b ≡ true
  unfolding legal_answer
  answer-accepted b l =
      rw (
        le-leb (answer_size v) (length b) l.long,
        eq-eqb (field_of (answer_fields v) mark_field b) answer_mark l.mark,
        eq-eqb (field_of (answer_fields v) version_field b) (answer_version v) l.version,
        l.known,
        eq-eqb (length b) (answer_size v + row_size v * row_count v b) l.size,
        every_all (legal_row (answer_of v b).kind) l.each,
        l.order,
      )

  abbrev pub Numbers : Answer → List ℕ
  Numbers a = answer_numbers v a.kind a.identifier a.serial (length a.reply.rows)

  pub record SoundAnswer (a : Answer) : Type 0 where
    pub fit : Fit (answer_fields v) (answer_numbers v a.kind a.identifier a.serial (length a.reply.rows))
    pub known : is_known (kind_of a.kind) ≡ true
    pub each : All (λ w. sound_row v a.kind w ≡ true) a.reply.rows
    pub order : rising (identities a.reply.rows) ≡ true

  pub sound-answer : (a : Answer) → sound_answer v a ≡ true → SoundAnswer a
  unfolding sound_answer
  sound-answer a e =
      let o = both _ _ e in
      let r = both _ _ o.0 in
      let k = both _ _ r.0 in
      record {
        fit = fits-Fit (answer_fields v) (Numbers a) k.0;
        known = k.1;
        each = all_every (sound_row v a.kind) a.reply.rows r.1;
        order = o.1;
      }

  pub answer-is-sound : (a : Answer) → SoundAnswer a → sound_answer v a ≡ true
  unfolding sound_answer
  answer-is-sound a s = rw (Fit-fits (answer_fields v) (Numbers a) s.fit, s.known, every_all (sound_row v a.kind) s.each, s.order)

-- The rows of an answer to a request that is wired are those that its response can say, and back.
-- By which of the two responses it is: one says no count, and the rows that it answers have the count 0.
use mathlib.Core.Path.{◌≡◌, refl}
use mathlib.Core.Bool.{true}
use Prim.Native.Nat.{◌^◌, ◌<◌}
use native.Mathlib.Omega.{arith}
use lib.Dec.{eqb, ltb}
use borrow.Author.Tests.{ltb-true, lt-ltb, eqb-true, eq-eqb}
use Rattle.octets.specs.Fields.{none, field}
use Rattle.rules.specs.Layout.{current, row_fields, cell_end}
use Rattle.rules.specs.Record.{kind_of}
use Rattle.rules.specs.Reply.{Row}
use Rattle.rules.specs.Answer.{row_numbers, legal_row}
use Rattle.rules.specs.Sound.{fits}
use Rattle.rules.proofs.TestLaws.{both, and-true}
use Rattle.rules.proofs.FitLaws.{Fit-fits}
use Rattle.rules.proofs.SoundPlaceLaws.{fits-at}
use Rattle.answer_judge.specs.Answerable.{counts_of}
use Rattle.wire.specs.Messages.{count_size}
use Rattle.wire.specs.declared.Message.{Message}
use Rattle.wire.proofs.SoundLaws.{SoundRow}
use Rattle.responses.specs.ResponseRead.{kind_answered}
use Rattle.responses.proofs.AnsweringLaws.{Answers, starts, stops}

-- a legal row of such an answer
pub record Answered (m : Message) (w : Row) : Type 0 where
  pub fit : fits (row_fields current) (row_numbers w) ≡ true
  pub legal : legal_row (kind_answered m) w ≡ true
  pub counts : counts_of (kind_of (kind_answered m)) w ≡ true

-- of either kind contents are 0
legal_parts : {m : Message} → Answers m → (w : Row) → legal_row (kind_answered m) w ≡ true → (ltb w.identity cell_end ≡ true) × (eqb w.content 0 ≡ true)
unfolding legal_row
legal_parts starts w e = both (ltb w.identity cell_end) (eqb w.content 0) e
legal_parts stops w e = both (ltb w.identity cell_end) (eqb w.content 0) e

parts_legal : {m : Message} → Answers m → (w : Row) → ltb w.identity cell_end ≡ true → eqb w.content 0 ≡ true → legal_row (kind_answered m) w ≡ true
unfolding legal_row
parts_legal starts w p q = and-true (ltb w.identity cell_end) (eqb w.content 0) p q
parts_legal stops w p q = and-true (ltb w.identity cell_end) (eqb w.content 0) p q

count-below : {m : Message} → Answers m → (w : Row) → Answered m w → w.count < 256 ^ count_size m
count-below starts w a = omega (arith, eqb-true w.count 0 a.counts)
count-below stops w a = fits-at (row_fields current) (row_numbers w) 1 a.fit

below-counts : {m : Message} → Answers m → (w : Row) → w.count < 256 ^ count_size m → (w.count < 65536) × (counts_of (kind_of (kind_answered m)) w ≡ true)
below-counts starts w h = (omega (arith, h), eq-eqb w.count 0 (omega (arith, h)))
below-counts stops w h = (h, refl)

module _ {m : Message} (a : Answers m) (w : Row) where
  pub answered-sound : Answered m w → SoundRow m w
  answered-sound r =
      let parts = legal_parts a w r.legal in
      record {
        below = ltb-true w.identity cell_end parts.0;
        count = count-below a w r;
        content = eqb-true w.content 0 parts.1;
      }

  pub sound-answered : SoundRow m w → Answered m w
  sound-answered s =
      let count = below-counts a w s.count in
      let identity : w.identity < 256 ^ 8 = omega (arith, s.below) in
      let content : w.content < 256 ^ 4 = omega (arith, s.content) in
      record {
        fit = Fit-fits (row_fields current) (row_numbers w) (field identity (field count.0 (field content none)));
        legal = parts_legal a w (lt-ltb w.identity cell_end s.below) (eq-eqb w.content 0 s.content);
        counts = count.1;
      }

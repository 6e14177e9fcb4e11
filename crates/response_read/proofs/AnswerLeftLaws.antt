-- The answer of what a response says: which list lies in its bytes, whether its cells ascend, and what is written for it, by the two tests.
use Rattle.std.specs.Prelude.{Ok, Err}
use mathlib.Core.Path.{◌≡◌, sym}
use mathlib.Core.Bool.{true, false}
use mathlib.Core.List.{List, [], ◌∷◌, flat_map}
use Prim.Native.Nat.{ℕ, ◌+◌, ◌*◌, ◌<◌, ◌≤◌}
use native.Mathlib.Omega.{arith}
use lib.ListN.{length}
use lib.Seq.{sets}
use borrow.Author.Tests.{le-leb, lt-leb}
use Rattle.octets.proofs.RunsLaws.{sets-run}
use Rattle.rules.specs.Lists.{ascending}
use Rattle.rules.specs.Layout.{current, answer_size, row_size}
use Rattle.rules.specs.Reply.{Row, identities}
use Rattle.rules.specs.Answer.{row_bytes, answer_head, answer_bytes}
use Rattle.rules.specs.Applied.{fill, filled_by}
use Rattle.rules.specs.declared.Refusal.TheVariants.{AnswerWrong, ShortBuffer}
use Rattle.rules.proofs.AnswerCodec.{length-answer_head, length-answer_bytes}
use Rattle.formats.specs.Format.{Found, nothing, found}
use Rattle.aper.specs.Elements.{Element}
use Rattle.wire.specs.Cells.{Entry}
use Rattle.wire.specs.MessageSaid.{rows_in}
use Rattle.wire.specs.declared.Message.{Message}
use Rattle.wire_judge.specs.Account.{list_at, entries_in, account_by, WholeList, Lies}
use Rattle.wire_judge.specs.declared.Seen.{Seen}
use Rattle.responses.specs.ResponseRead.{unnamed}
use Rattle.response_read.specs.Left.{answer_left}

-- ---- what was seen

module _ (m : Message) (l : List ℕ) (s : Seen) where
  abbrev pub Cells : List Row
  Cells = (account_by m l s).says.cells

  pub cells_ascend : Lies m l s → s.lacks ≡ false → ascending (identities Cells) ≡ s.ascends
  unfolding account_by rows_in flat_map ascending
  cells_ascend lies own = of (list_at m l s.start s.end) lies.list
    where
      of : (x : Found (List (Element Entry))) → WholeList s.end s.lacks s.ascends x → ascending (identities (rows_in (entries_in x))) ≡ s.ascends
      of nothing e = sym e.1
      of (found es []) whole = sym (whole own).1
      of (found es (b ∷ bs)) whole = absurd whole

-- ---- what is written

module _ (kind : ℕ) (rows : List Row) (buffer : List ℕ) where
  -- 12 + 14 N
  abbrev room : ℕ
  room = answer_size current + row_size current * length rows

  pub unordered_put : ascending (identities rows) ≡ false → filled_by (Err AnswerWrong) buffer ≡ answer_left kind rows buffer
  unfolding answer_left fill
  unordered_put t = rw t

  module _ (order : ascending (identities rows) ≡ true) where
    pub short_put : length buffer < room → filled_by (Err ShortBuffer) buffer ≡ answer_left kind rows buffer
    unfolding answer_left fill
    short_put h = rw (order, lt-leb room (length buffer) h)

    pub answer_put : room ≤ length buffer → {k n size : ℕ} {a b : List ℕ} → k ≡ kind → n ≡ length rows → size ≡ answer_size current + row_size current * n
        → a ≡ sets buffer 0 (answer_head current k 0 0 n) → b ≡ sets a (answer_size current) (flat_map (row_bytes current) rows)
        → filled_by (Ok size) b ≡ answer_left kind rows buffer
    unfolding answer_left fill
    answer_put h {k} {n} {size} {a} {b} same many long p₁ p₂ =
        rw (order, le-leb room (length buffer) h, stored, length-answer_bytes current (unnamed kind rows), long, many)
      where
        head : List ℕ
        head = answer_head current kind 0 0 (length rows)

        stored : b ≡ sets buffer 0 (answer_bytes current (unnamed kind rows))
        stored = unfold answer_bytes in
            rw (p₂, p₁, same, many)
            (sets-run head (flat_map (row_bytes current) rows) buffer 0 (answer_size current) (omega (arith, length-answer_head current kind 0 0 (length rows))))

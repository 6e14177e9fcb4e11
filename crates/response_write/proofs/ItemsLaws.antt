-- The items of an answer's rows, written one behind the other: storing all of them into the message as it was is storing those that are still to come into it as it is.
-- A turn takes the first row of those to come.
use mathlib.Core.Path.{◌≡◌, refl, sym, ap, ◌∙◌}
use mathlib.Core.Bool.{true}
use mathlib.Core.List.{List, ◌∷◌, flat_map}
use Prim.Native.Nat.{ℕ, ◌+◌, ◌-◌, ◌*◌, ◌<◌, ◌≤◌}
use native.Mathlib.Nat.{sub-zero}
use native.Mathlib.Omega.{arith}
use lib.Dec.{ltb}
use lib.ListN.{length}
use lib.Seq.{sets, length-sets}
use borrow.Author.Tests.{ltb-true}
use Rattle.octets.proofs.RunsLaws.{sets-run}
use Rattle.rules.specs.Lists.{every}
use Rattle.rules.specs.Layout.{current, answer_size, row_size, cell_end}
use Rattle.rules.specs.Reply.{Row}
use Rattle.rules.proofs.TestLaws.{both}
use Rattle.answer.specs.Rows.{row_at, rows_in, rows_from}
use Rattle.answer.proofs.RowsLaws.{rows-first, rows_none, next_row}
use Rattle.wire.specs.declared.Message.{Message}
use Rattle.responses.specs.ResponseSize.{entry_size}
use Rattle.response_write.specs.Parts.{item_bytes, small_rows}
use Rattle.response_write.proofs.SizeLaws.{length-item, items_left}

module _ (before answer : List ℕ) (m : Message) (many at : ℕ) where
  abbrev stored : List Row → List ℕ
  stored rows = flat_map (item_bytes m) rows

  pub record ToCome (message : List ℕ) (to k : ℕ) : Type 0 where
    pub few : k ≤ many
    pub long : length message ≡ length before
    pub room : to + entry_size m * (many - k) ≤ length message
    pub small : small_rows (rows_from answer many k) ≡ true
    pub same : sets before at (stored (rows_in answer many)) ≡ sets message to (stored (rows_from answer many k))

  pub come_start : at + entry_size m * many ≤ length before → small_rows (rows_in answer many) ≡ true → ToCome before at 0
  come_start fits small = record { few = omega arith; long = refl; room = rw sub-zero fits; small = rw (rows-first answer many) small; same = rw (rows-first answer many) }

  module _ {message : List ℕ} {to k : ℕ} (come : ToCome message to k) where
    pub come_done : many ≤ k → message ≡ sets before at (stored (rows_in answer many))
    unfolding flat_map
    come_done none =
        sym (come.same ∙ rw (rows_none answer many k none))

    module _ (fits : answer_size current + row_size current * many ≤ length answer) (some : k < many) where
      pub row_within : answer_size current + row_size current * k + row_size current ≤ length answer
      row_within = omega arith

      pub item-within : to + entry_size m ≤ length message
      item-within = (items_left m to many k (length message) some come.room).0

      -- the row that is read
      module _ (w : Row) (read : w ≡ row_at answer k) where
        next : rows_from answer many k ≡ w ∷ rows_from answer many (k + 1)
        next = rw read (next_row answer many k fits some)

        each_small : (ltb w.identity cell_end ≡ true) × (small_rows (rows_from answer many (k + 1)) ≡ true)
        unfolding small_rows every
        each_small = both (ltb w.identity cell_end) (small_rows (rows_from answer many (k + 1))) (ap small_rows (sym next) ∙ come.small)

        pub row_small : w.identity < cell_end
        row_small = ltb-true w.identity cell_end each_small.0

        pub come_next : {after : List ℕ} {end : ℕ} → after ≡ sets message to (item_bytes m w) → end ≡ to + entry_size m → ToCome after end (k + 1)
        unfolding flat_map
        come_next {after} {end} put ends =
            let size : length after ≡ length message = ap length put ∙ length-sets message to (item_bytes m w) in
            record {
              few = omega arith;
              long = size ∙ come.long;
              room = rw (size, ends) (items_left m to many k (length message) some come.room).1;
              small = each_small.1;
              same =
                  come.same
                  ∙ rw (next, put) (sym (sets-run (item_bytes m w) (stored (rows_from answer many (k + 1))) message to end (rw (length-item m w) ends)));
            }

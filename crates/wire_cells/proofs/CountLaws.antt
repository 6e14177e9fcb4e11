-- The count of an item: of a message whose items have none it is 0, and otherwise it stands behind NR CGI's extensions.
use Rattle.std.specs.Prelude.{Option, Some, None}
use Rattle.std.specs.Option.{IsSome}
use mathlib.Core.Path.{◌≡◌, refl, sym, ap, ◌∙◌}
use mathlib.Core.List.{List, []}
use Prim.Native.Nat.{ℕ, ◌+◌, ◌/◌, ◌%◌, ◌^◌, ◌≤◌, ◌<◌}
use native.Mathlib.Omega.{arith}
use lib.ListN.{length}
use Rattle.octets.specs.Runs.{gets, Bytes}
use Rattle.octets.specs.Numbers.{be}
use Rattle.formats.specs.Format.{found, number, pair, behind, as_if}
use Rattle.formats.specs.Summary.{summed}
use Rattle.formats.proofs.FormatLaws.{alone, written_read}
use Rattle.aper.specs.Readers.{GivenAt}
use Rattle.aper.specs.declared.Extensions.{Extensions as Run}
use Rattle.wire.specs.Messages.{count_size}
use Rattle.wire.specs.Cells.{Item, item_under, item}
use Rattle.wire.specs.declared.Message.{Message}
use Rattle.wire.specs.declared.Message.TheVariants.{CancelRequest, CancelResponse, WriteReplaceResponse}
use Rattle.wire.proofs.CellsFormat.{item_lawful}
use Rattle.wire_cells.specs.Listed.{WholeItem}
use Rattle.wire_cells.proofs.CellLaws.{item-long, count-there, count-within, item_count_lem}

-- a message whose items have counts
pub two_bytes : (m : Message) → (count_size m ≡ 0 → ⊥) → count_size m ≡ 2
two_bytes CancelRequest some = absurd (some refl)
two_bytes CancelResponse some = refl
two_bytes WriteReplaceResponse some = absurd (some refl)

module _ (m : Message) (s : List ℕ) (bytes : Bytes s) (w : WholeItem m s) where
  abbrev Counts : ℕ → Type 0
  Counts n = summed (λ (i : Item). i.count) ((item m).parse s) ≡ found n []

  counts : (n : ℕ) → w.it.count ≡ n → Counts n
  counts n e = ap (summed (λ (i : Item). i.count)) w.reads ∙ ap (λ (k : ℕ). found k []) e

  below : w.it.count < 256 ^ count_size m
  below = bound (written_read (item m) (alone (item m) (item_lawful m)) s bytes w.it w.reads).0
    where
      bound : (item m).fits w.it → w.it.count < 256 ^ count_size m
      bound h = unfold item behind item_under as_if pair number in h.1.0.1.0

  pub uncounted : count_size m ≡ 0 → Counts 0
  uncounted e = counts 0 (omega (arith, none))
    where
      none : w.it.count < 1
      none = rw e at below

  pub fixed-bytes : 9 ≤ length s
  fixed-bytes = item-long m s [] bytes w.it w.reads

  module _ (flags : ℕ) (first : flags ≡ be (gets s 0 1)) where
    pub count_missing : GivenAt s 9 (flags / 16 % 2) None → ⊥
    count_missing read = count-there m s [] bytes w.it w.reads (rw first at read)

    pub extensions_there : (r : Option Run) → GivenAt s 9 (flags / 16 % 2) r → IsSome r
    extensions_there (Some own) read = refl
    extensions_there None read = absurd (count_missing read)

    module _ (own : Run) (read : GivenAt s 9 (flags / 16 % 2) (Some own)) where
      pub count-inside : own.end + count_size m ≤ length s
      count-inside = count-within m s [] bytes w.it w.reads own (rw first at read)

      pub counted : (n : ℕ) → n ≡ be (gets s own.end (count_size m)) → Counts n
      counted n e = counts n (sym (item_count_lem m s [] bytes w.it w.reads own (rw first at read)) ∙ sym e)

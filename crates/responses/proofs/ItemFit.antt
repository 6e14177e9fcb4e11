-- A sound row is an item of its message: its cell's PLMN and 36 bits and its count are below what their bits set. It has 9 bytes, 11 with a count.
use mathlib.Core.Path.{◌≡◌, refl}
use mathlib.Core.List.{flat_map}
use Prim.Native.Nat.{◌/◌, ◌%◌, ◌^◌, ◌<◌}
use native.Mathlib.Nat.{mod-lt}
use native.Mathlib.Omega.{arith}
use lib.ListN.{length, length-append}
use Rattle.octets.proofs.NumbersLaws.{length-to_be}
use Rattle.rules.specs.Identity.{part_end}
use Rattle.rules.specs.Reply.{Row}
use Rattle.formats.specs.Format.{number, pair, behind, only, as_if, times}
use Rattle.formats.specs.Bits.{width, bits}
use Rattle.formats.proofs.BitsLaws.{none, said, blank, bits_fit}
use Rattle.aper.specs.Elements.{optional, given}
use Rattle.wire.specs.Cells.{flag_fields, cell_fields, item_head, item_under, item}
use Rattle.wire.specs.Readers.{plain_size}
use Rattle.wire.specs.declared.Message.{Message}
use Rattle.wire.proofs.SoundLaws.{SoundRow}
use Rattle.responses.specs.Response.{item_for}
use Rattle.responses.proofs.ElementFit.{none-given}

module _ (m : Message) where
  pub item-fits : (w : Row) → SoundRow m w → (item m).fits (item_for w)
  unfolding item behind item_head item_under as_if pair number
  item-fits w s =
      let plmn : w.identity / part_end < 256 ^ 3 = omega (arith, s.below) in
      let part : w.identity % part_end < 2 ^ 36 = mod-lt w.identity (omega arith) in (
        (
          bits_fit 1 flag_fields (unfold width in refl) _ (blank (said (omega arith) (blank (said (omega arith) (blank none))))),
          (plmn, bits_fit 5 cell_fields (unfold width in refl) _ (said part (blank none))),
        ),
        ((none-given, (s.count, none-given)), refl),
      )

  pub length-item : (w : Row) → length ((item m).encode (item_for w)) ≡ plain_size m
  unfolding item behind item_head item_under as_if pair number bits only given optional times flat_map
  length-item w = simp (length-append, length-to_be) (omega arith)

-- Sound rows are a value of their message's list: one to 512, each an element of 13 bytes, or 15 with its count.
use mathlib.Core.Path.{◌≡◌, refl}
use mathlib.Core.Bool.{true}
use mathlib.Core.List.{List, map}
use Prim.Native.Nat.{◌-◌, ◌<◌, ◌≤◌}
use native.Mathlib.Omega.{arith}
use lib.ListN.{length, length-append, length-map}
use borrow.Author.Tests.{lt-ltb}
use Rattle.octets.proofs.NumbersLaws.{length-to_be}
use Rattle.octets.proofs.PiecesLaws.{length-flat_map}
use Rattle.rules.specs.Reply.{Row}
use Rattle.rules.proofs.MapLaws.{flat_map-map}
use Rattle.rules.proofs.AllLaws.{All}
use Rattle.rules.proofs.AllLaws as all
use Rattle.formats.specs.Format.{Each, none, more, number, behind, only, as_if, times}
use Rattle.aper.specs.Elements.{from_one, length_bytes}
use Rattle.aper.proofs.ElementLaws.{short-size}
use Rattle.wire.specs.Messages.{item_id, count_size}
use Rattle.wire.specs.Cells.{item, listed, item_in, is_item, entry, entry_element, most_listed, list}
use Rattle.wire.specs.Readers.{plain_size}
use Rattle.wire.specs.declared.Message.{Message}
use Rattle.wire.specs.declared.Message.TheVariants.{CancelRequest, CancelResponse, WriteReplaceResponse}
use Rattle.wire.proofs.CellsFormat.{item_lawful}
use Rattle.wire.proofs.SoundLaws.{SoundRow}
use Rattle.responses.specs.Response.{item_for, entry_for}
use Rattle.responses.specs.ResponseSize.{entry_size, list_size}
use Rattle.responses.proofs.ElementFit.{assigned-fits, length-assigned}
use Rattle.responses.proofs.ItemFit.{item-fits, length-item}

-- ---- an entry

own-id : (m : Message) → is_item m (item_id m) ≡ true
own-id CancelRequest = refl
own-id CancelResponse = refl
own-id WriteReplaceResponse = refl

small-id : (m : Message) → item_id m < 65536
small-id CancelRequest = omega arith
small-id CancelResponse = omega arith
small-id WriteReplaceResponse = omega arith

pub counts-most : (m : Message) → count_size m ≤ 2
counts-most CancelRequest = omega arith
counts-most CancelResponse = omega arith
counts-most WriteReplaceResponse = omega arith

module _ (m : Message) where
  pub own-entry : entry m (item_id m) ≡ as_if listed item_in (item m)
  unfolding entry
  own-entry = rw (own-id m)

  pub length-entry : (w : Row) → length ((entry_element m).encode (entry_for m w)) ≡ entry_size m
  unfolding entry_for as_if
  length-entry w =
      let n : length ((entry m (item_id m)).encode (listed (item_for w))) ≡ plain_size m = rw own-entry (length-item m w) in
      let s : length (length_bytes (plain_size m)) ≡ 1 = short-size (plain_size m) (omega (arith, counts-most m)) in
      rw (length-assigned (is_item m) (entry m) (item_id m) (listed (item_for w)), n, s) (omega arith)

  entry-fits : (w : Row) → SoundRow m w → (entry_element m).fits (entry_for m w)
  unfolding entry_for as_if
  entry-fits w s =
      let f = item-fits m w s in
      assigned-fits (is_item m) (entry m) (item_id m) (listed (item_for w)) (small-id m) (own-id m)
      (rw own-entry (f, refl))
      (rw own-entry (record {
        bytes = (item_lawful m).bytes (item_for w) f;
        some = omega (arith, length-item m w);
        few = omega (arith, length-item m w, counts-most m);
      }))

  entries_fit : {ws : List Row} → All (SoundRow m) ws → Each (entry_element m).fits (map (entry_for m) ws)
  entries_fit all.none = none
  entries_fit (all.more {x = w} s ss) = more (entry-fits w s) (entries_fit ss)

  -- ---- the list

  pub list-fits : {ws : List Row} → All (SoundRow m) ws → 0 < length ws → length ws ≤ most_listed → (list m).fits (map (entry_for m) ws)
  unfolding list behind from_one as_if only number times
  list-fits {ws} s some few =
      let n : length (map (entry_for m) ws) ≡ length ws = length-map ws (entry_for m) in
      (((omega (arith, n), lt-ltb (length (map (entry_for m) ws) - 1) most_listed (omega (arith, n))), omega (arith, n)), (refl, entries_fit s))

  pub length-list : (ws : List Row) → length ((list m).encode (map (entry_for m) ws)) ≡ list_size m (length ws)
  unfolding list behind from_one as_if only number times
  length-list ws =
      rw (
        length-append,
        length-to_be,
        flat_map-map (entry_element m).encode (entry_for m) ws,
        length-flat_map (entry_size m) (λ w. (entry_element m).encode (entry_for m w)) ws length-entry,
      )

-- The response to sound rows, 512 at most, is a value of its message's format: each open type in it has some bytes, and few enough.
use mathlib.Core.Path.{◌≡◌, refl}
use mathlib.Core.Bool.{true}
use mathlib.Core.List.{List, [], ◌∷◌, map}
use Prim.Native.Nat.{ℕ, ◌<◌, ◌≤◌}
use native.Mathlib.Omega.{arith}
use lib.ListN.{length}
use Rattle.rules.specs.Reply.{Row}
use Rattle.rules.proofs.AllLaws.{All}
use Rattle.formats.specs.Format.{none, more, number, pair, behind, only, as_if, times, inside}
use Rattle.formats.specs.Bits.{width}
use Rattle.formats.proofs.BitsLaws as fit
use Rattle.formats.proofs.BitsLaws.{bits_lawful, bits_fit}
use Rattle.aper.specs.Elements.{two_bits, elements_of}
use Rattle.aper.proofs.ElementLaws.{Held, open_type-fits}
use Rattle.wire.specs.Frame.{code_size, frame_criticality, frame_under, frame, blank_fields}
use Rattle.wire.specs.Messages.{choice_of, code_of, transaction_id, cells_id, known}
use Rattle.wire.specs.Cells.{most_listed}
use Rattle.wire.specs.MessageTree.{transaction_fields, transaction, cells, contents_by, contents, element, value, message}
use Rattle.wire.specs.declared.Message.{Message}
use Rattle.wire.specs.declared.Message.TheVariants.{CancelRequest, CancelResponse, WriteReplaceResponse}
use Rattle.wire.proofs.CellsFormat.{list_lawful}
use Rattle.wire.proofs.MessageFormat.{value_lawful}
use Rattle.wire.proofs.SoundLaws.{SoundRow}
use Rattle.responses.specs.Response.{assigned, entry_for, list_for, elements_for, response_for}
use Rattle.responses.proofs.ElementFit.{assigned-fits}
use Rattle.responses.proofs.ListFit.{list-fits}
use Rattle.responses.proofs.ResponseSizeLaws.{list-contents, list-most, value-most, length-transaction, length-cells, value-size}

-- ---- the frame

head-fits : (m : Message) → two_bits.fits (choice_of m) × (number (code_size (choice_of m))).fits (code_of m)
unfolding two_bits as_if only number
head-fits CancelRequest = (((omega arith, refl), refl), omega arith)
head-fits CancelResponse = (((omega arith, refl), refl), omega arith)
head-fits WriteReplaceResponse = (((omega arith, refl), refl), omega arith)

rejecting-fits : frame_criticality.fits 0
unfolding frame_criticality two_bits as_if only number
rejecting-fits = (((omega arith, refl), refl), refl)

-- ---- the list's id

list-known : (m : Message) → known m (cells_id m) ≡ true
unfolding known
list-known CancelRequest = refl
list-known CancelResponse = refl
list-known WriteReplaceResponse = refl

small-list : (m : Message) → cells_id m < 65536
small-list CancelRequest = omega arith
small-list CancelResponse = omega arith
small-list WriteReplaceResponse = omega arith

-- ---- the elements

-- what a response takes
pub record Writable (m : Message) (t : ℕ) (rows : List Row) : Type 0 where
  pub transaction : t < 256
  pub few : length rows ≤ most_listed
  pub each : All (SoundRow m) rows

module _ (m : Message) where
  transaction-fits : (t : ℕ) → t < 256 → (element m).fits (assigned transaction_id (transaction t))
  unfolding contents contents_by as_if known
  transaction-fits t h =
      let f = bits_fit 2 transaction_fields (unfold width in refl) (t ∷ []) (fit.blank (fit.blank (fit.said h fit.none))) in
      let n = length-transaction m t in
      assigned-fits (known m) (contents m) transaction_id (transaction t) (omega arith) refl (f, refl)
      (record {
        bytes = (bits_lawful 2 transaction_fields (unfold width in refl)).bytes (t ∷ []) f;
        some = omega (arith, n);
        few = omega (arith, n);
      })

  cells-held : {ws : List Row} → All (SoundRow m) ws → 0 < length ws → length ws ≤ most_listed → Held ((contents m (cells_id m)).encode (cells (map (entry_for m) ws)))
  unfolding contents_by as_if
  cells-held {ws} s some few =
      let n = length-cells m ws in
      record {
        bytes = rw (list-contents m) ((list_lawful m).bytes (map (entry_for m) ws) (list-fits m s some few));
        some = omega (arith, n);
        few = omega (arith, n, list-most m (length ws) few);
      }

  cells_fit : {ws : List Row} → All (SoundRow m) ws → 0 < length ws → length ws ≤ most_listed → (element m).fits (assigned (cells_id m) (cells (map (entry_for m) ws)))
  unfolding contents_by as_if
  cells_fit {ws} s some few =
      assigned-fits (known m) (contents m) (cells_id m) (cells (map (entry_for m) ws)) (small-list m) (list-known m)
      (rw (list-contents m) (list-fits m s some few, refl)) (cells-held s some few)

  elements-fit : (t : ℕ) (rows : List Row) → Writable m t rows → (times (element m) (length (elements_for m t rows))).fits (elements_for m t rows)
  unfolding elements_for list_for times
  elements-fit t [] w = (refl, more (transaction-fits t w.transaction) none)
  elements-fit t (r ∷ rs) w = (refl, more (transaction-fits t w.transaction) (more (cells_fit w.each (omega arith) w.few) none))

  few-elements : (t : ℕ) (rows : List Row) → length (elements_for m t rows) ≤ 2
  unfolding elements_for list_for
  few-elements t [] = omega arith
  few-elements t (r ∷ rs) = omega arith

  -- ---- the message

  value-fits : (t : ℕ) (rows : List Row) → Writable m t rows → (value m).fits (elements_for m t rows)
  unfolding value as_if pair elements_of behind number
  value-fits t rows w =
      ((bits_fit 1 blank_fields (unfold width in refl) [] (fit.blank (fit.blank fit.none)), (omega (arith, few-elements t rows), elements-fit t rows w)), refl)

  value-held : (t : ℕ) (rows : List Row) → Writable m t rows → Held ((value m).encode (elements_for m t rows))
  value-held t rows w =
      let n = value-size m t rows in
      record {
        bytes = (value_lawful m).bytes (elements_for m t rows) (value-fits t rows w);
        some = omega (arith, n);
        few = omega (arith, n, value-most m (length rows) w.few);
      }

  pub response-fits : (t : ℕ) (rows : List Row) → Writable m t rows → (message m).fits (response_for m t rows)
  unfolding response_for frame behind frame_under as_if pair inside
  response-fits t rows w =
      ((head-fits m).0, (((head-fits m).1, (rejecting-fits, (value-fits t rows w, open_type-fits ((value m).encode (elements_for m t rows)) (value-held t rows w)))), refl))

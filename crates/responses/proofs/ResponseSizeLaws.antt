-- The length of a response and of each of its parts, and that no open type in it holds more than 7,696 bytes.
use mathlib.Core.Path.{◌≡◌, refl}
use mathlib.Core.List.{List, [], ◌∷◌, map, flat_map}
use Prim.Native.Nat.{ℕ, zero, suc, ◌*◌, ◌≤◌}
use native.Mathlib.Nat.{mul-le-mul}
use native.Mathlib.Omega.{arith}
use lib.ListN.{length, length-append}
use Rattle.octets.proofs.NumbersLaws.{length-to_be}
use Rattle.rules.specs.Reply.{Row}
use Rattle.formats.specs.Format.{number, run, pair, behind, only, as_if, times, inside}
use Rattle.formats.specs.Bits.{bits}
use Rattle.aper.specs.Elements.{determinant, open_type, two_bits, elements_of}
use Rattle.aper.proofs.ElementLaws.{short-size, size-most}
use Rattle.wire.specs.Frame.{code_size, frame_criticality, frame_under, frame}
use Rattle.wire.specs.Messages.{the_cells, choice_of, transaction_id, cells_id, known}
use Rattle.wire.specs.Cells.{most_listed}
use Rattle.wire.specs.MessageTree.{transaction, cells, contents_by, contents, element, value}
use Rattle.wire.specs.declared.Message.{Message}
use Rattle.wire.specs.declared.Message.TheVariants.{CancelRequest, CancelResponse, WriteReplaceResponse}
use Rattle.responses.specs.Response.{assigned, entry_for, list_for, elements_for, response_for, response_bytes}
use Rattle.responses.specs.ResponseSize.{element_size, transaction_size, entry_size, list_size, listed_size, value_size, response_size}
use Rattle.responses.proofs.ElementFit.{length-assigned}
use Rattle.responses.proofs.ListFit.{counts-most, length-list}

pub list-contents : (m : Message) → contents m (cells_id m) ≡ contents_by m the_cells
unfolding contents
list-contents CancelRequest = refl
list-contents CancelResponse = refl
list-contents WriteReplaceResponse = refl

code-size : (m : Message) → code_size (choice_of m) ≡ 1
code-size CancelRequest = refl
code-size CancelResponse = refl
code-size WriteReplaceResponse = refl

module _ (m : Message) where
  -- the list's element is there where there are rows
  pub listed-some : (n : ℕ) → (n ≡ 0 → ⊥) → listed_size m n ≡ element_size (list_size m n)
  listed-some zero some = absurd (some refl)
  listed-some (suc n) some = refl

  -- ---- an open type holds them

  pub list-most : (n : ℕ) → n ≤ most_listed → list_size m n ≤ 7682
  list-most n few =
      let each : entry_size m ≤ 15 = omega (arith, counts-most m) in
      let all : entry_size m * n ≤ 15 * most_listed = mul-le-mul each few in
      omega (arith, all)

  pub value-most : (n : ℕ) → n ≤ most_listed → value_size m n ≤ 7696
  value-most zero few = omega arith
  value-most (suc n) few = omega (arith, size-most (list_size m (suc n)), list-most (suc n) few)

  -- ---- the elements

  pub length-transaction : (t : ℕ) → length ((contents m transaction_id).encode (transaction t)) ≡ 2
  unfolding contents contents_by as_if bits only number
  length-transaction t = length-to_be 2 _

  transaction-size : (t : ℕ) → length ((element m).encode (assigned transaction_id (transaction t))) ≡ transaction_size
  transaction-size t =
      let n : length ((contents m transaction_id).encode (transaction t)) ≡ 2 = length-transaction t in
      rw (length-assigned (known m) (contents m) transaction_id (transaction t), n, short-size 2 (omega arith))

  pub length-cells : (ws : List Row) → length ((contents m (cells_id m)).encode (cells (map (entry_for m) ws))) ≡ list_size m (length ws)
  unfolding contents_by as_if
  length-cells ws = rw (list-contents m) (length-list m ws)

  listed-size : (rows : List Row) → length (flat_map (element m).encode (list_for m rows)) ≡ listed_size m (length rows)
  unfolding list_for flat_map
  listed-size [] = refl
  listed-size (w ∷ ws) =
      let n = length-cells (w ∷ ws) in
      rw (length-append, length-assigned (known m) (contents m) (cells_id m) (cells (map (entry_for m) (w ∷ ws))), n) (omega arith)

  -- ---- the message

  pub value-size : (t : ℕ) (rows : List Row) → length ((value m).encode (elements_for m t rows)) ≡ value_size m (length rows)
  unfolding value as_if pair bits only number elements_of behind times elements_for flat_map
  value-size t rows =
      rw (length-append, length-to_be, length-append, length-to_be, length-append, transaction-size t, listed-size rows) (omega arith)

  pub response-size : (t : ℕ) (rows : List Row) → length (response_bytes m t rows) ≡ response_size m (length rows)
  unfolding response_bytes response_for frame behind frame_under as_if pair frame_criticality two_bits only number inside open_type determinant run
  response-size t rows =
      let n = value-size t rows in
      rw (length-append, length-to_be, length-append, length-to_be, length-append, length-to_be, length-append, n, code-size m) (omega arith)

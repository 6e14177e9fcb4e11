-- The bytes of a response by its format are its parts, one behind the other.
-- Part by part along the format: each way of putting formats together is an append, and the numbers that are known compute.
use mathlib.Core.Path.{◌≡◌, refl, ap, ◌∙◌}
use mathlib.Core.Bool.{Bool, true, false}
use mathlib.Core.List.{List, [], ◌∷◌, ◌++◌, map, flat_map, append-nil}
use Prim.Native.Nat.{ℕ, ◌+◌, ◌-◌, ◌*◌, ◌/◌, ◌%◌, ◌^◌, ◌<◌}
use native.Mathlib.Omega.{arith}
use lib.Dec.{ltb}
use mir.Val.{bool_byte}
use borrow.Author.Tests.{lt-ltb}
use lib.ListN.{length, length-map}
use Rattle.octets.specs.Numbers.{to_be}
use Rattle.octets.proofs.NumbersLaws.{to_be_add}
use Rattle.rules.specs.Identity.{plmn_of, part_of}
use Rattle.rules.specs.Reply.{Row}
use Rattle.rules.proofs.AllLaws.{all_of, flat_map_all}
use Rattle.rules.proofs.MapLaws.{flat_map-map}
use Rattle.formats.specs.Format.{Format, number, pair, behind, only, as_if, times, inside, run}
use Rattle.formats.specs.Bits.{bits, width, joined}
use Rattle.aper.specs.Elements.{Element, length_bytes, determinant, open_type, two_bits, reject, head, under, holding, element_of, elements_of, from_one, optional, given}
use Rattle.wire.specs.Frame.{frame, frame_under, frame_criticality}
use Rattle.wire.specs.Messages.{choice_of, code_of, transaction_id, cells_id, item_id, count_size, known, frame_id}
use Rattle.wire.specs.Cells.{item, item_head, item_under, Entry, listed, is_item, entry, entry_element, list}
use Rattle.wire.specs.MessageTree.{transaction, cells, contents, contents_by, element, value}
use Rattle.wire.specs.declared.Message.{Message}
use Rattle.wire.specs.declared.Message.TheVariants.{CancelRequest, CancelResponse, WriteReplaceResponse}
use Rattle.responses.specs.Response.{assigned, item_for, entry_for, list_for, elements_for, response_for, response_bytes}
use Rattle.responses.proofs.ListFit.{own-entry}
use Rattle.responses.proofs.ResponseSizeLaws.{list-contents}
use Rattle.response_write.specs.Parts.{opening, enclosed, item_bytes, items_bytes, list_bytes, element_count, value_bytes}

-- an element
element-bytes : {C : Type 0} (known : ℕ → Bool) (contents : ℕ → Format C) (id : ℕ) (c : C) → (element_of known contents).encode (assigned id c) ≡ enclosed id ((contents id).encode c)
unfolding element_of only holding behind head pair number two_bits as_if under inside open_type determinant run to_be opening enclosed
element-bytes known contents id c = refl

-- ---- an item

-- the three bytes of a PLMN and the five of a cell with its padding are eight of one number
cell-bytes : (x : ℕ) → to_be 3 (plmn_of x) ++ to_be 5 (part_of x * 2 ^ 4 + 0) ≡ to_be 8 (x * 16)
unfolding to_be
cell-bytes x =
    let y : ℕ = x * 16 % 256 ^ 7 in
    let first : plmn_of x / 256 ^ 2 ≡ x * 16 / 256 ^ 7 = omega arith in
    let plmn : plmn_of x % 256 ^ 2 ≡ y / 256 ^ 5 = omega arith in
    let cell : part_of x * 2 ^ 4 + 0 ≡ y % 256 ^ 5 = omega arith in
    rw (first, plmn, cell) (ap (λ (l : List ℕ). x * 16 / 256 ^ 7 ∷ l) (to_be_add 2 5 y (omega arith)))

item-plain : (m : Message) (w : Row)
    → (item m).encode (item_for w) ≡ 0 ∷ ((to_be 3 (plmn_of w.identity) ++ to_be 5 (part_of w.identity * 2 ^ 4 + 0)) ++ to_be (count_size m) w.count)
unfolding item behind item_head pair bits as_if only number joined width item_under given optional times flat_map to_be
item-plain CancelRequest w = refl
item-plain CancelResponse w = refl
item-plain WriteReplaceResponse w = refl

item-contents : (m : Message) (w : Row) → (item m).encode (item_for w) ≡ 0 ∷ (to_be 8 (w.identity * 16) ++ to_be (count_size m) w.count)
item-contents m w =
    item-plain m w ∙ ap (λ (l : List ℕ). 0 ∷ (l ++ to_be (count_size m) w.count)) (cell-bytes w.identity)

item-enclosed : (m : Message) (w : Row) → enclosed (item_id m) (0 ∷ (to_be 8 (w.identity * 16) ++ to_be (count_size m) w.count)) ≡ item_bytes m w
unfolding enclosed opening to_be length_bytes item_bytes
item-enclosed CancelRequest w = refl
item-enclosed CancelResponse w = refl
item-enclosed WriteReplaceResponse w = refl

entry-contents : (m : Message) (w : Row) → (entry m (item_id m)).encode (listed (item_for w)) ≡ (item m).encode (item_for w)
unfolding as_if
entry-contents m w = rw (own-entry m)

pub entry-bytes : (m : Message) (w : Row) → (entry_element m).encode (entry_for m w) ≡ item_bytes m w
unfolding entry_for
entry-bytes m w =
    element-bytes (is_item m) (entry m) (item_id m) (listed (item_for w))
    ∙ ap (enclosed (item_id m)) (entry-contents m w ∙ item-contents m w)
    ∙ item-enclosed m w

-- ---- the list

pub items-bytes : (m : Message) (rows : List Row) → (list m).encode (map (entry_for m) rows) ≡ items_bytes m rows
unfolding list behind from_one as_if only number times items_bytes
items-bytes m rows =
    rw (length-map, flat_map-map (entry_element m).encode (entry_for m) rows)
    (ap (λ (l : List ℕ). to_be 2 (length rows - 1) ++ l) (flat_map_all _ (item_bytes m) (all_of (entry-bytes m) rows)))

cells-contents : (m : Message) (es : List (Element Entry)) → (contents m (cells_id m)).encode (cells es) ≡ (list m).encode es
unfolding contents_by as_if
cells-contents m es = rw (list-contents m)

list-bytes : (m : Message) (rows : List Row) → flat_map (element m).encode (list_for m rows) ≡ list_bytes m rows
unfolding flat_map list_for list_bytes
list-bytes m [] = refl
list-bytes m (w ∷ ws) =
    append-nil ((element m).encode _)
    ∙ element-bytes (known m) (contents m) (cells_id m) (cells (map (entry_for m) (w ∷ ws)))
    ∙ ap (enclosed (cells_id m)) (cells-contents m (map (entry_for m) (w ∷ ws)) ∙ items-bytes m (w ∷ ws))

-- ---- the message

transaction-contents : (m : Message) (t : ℕ) → t < 256 → (contents m transaction_id).encode (transaction t) ≡ 0 ∷ t ∷ []
unfolding contents contents_by as_if bits only number joined width to_be
transaction-contents m t h =
    let high : (t * 1 + 0) / 256 ≡ 0 = omega arith in
    let low : (t * 1 + 0) % 256 / 1 ≡ t = omega arith in
    rw (high, low)

transaction-bytes : (m : Message) (t : ℕ) → t < 256 → (element m).encode (assigned transaction_id (transaction t)) ≡ 0 ∷ transaction_id ∷ 0 ∷ 2 ∷ 0 ∷ t ∷ []
unfolding enclosed opening to_be length_bytes
transaction-bytes m t h =
    element-bytes (known m) (contents m) transaction_id (transaction t) ∙ ap (enclosed transaction_id) (transaction-contents m t h)

count_bytes_lem : (b : Bool) → to_be 2 (1 + bool_byte b) ≡ 0 ∷ (1 + bool_byte b) ∷ []
unfolding to_be
count_bytes_lem true = refl
count_bytes_lem false = refl

how_many : (m : Message) (t : ℕ) (rows : List Row) → length (elements_for m t rows) ≡ element_count (length rows)
unfolding elements_for list_for
how_many m t [] = refl
how_many m t (w ∷ ws) = rw (lt-ltb 0 (length (w ∷ ws)) (omega arith))

value_parts : (m : Message) (t : ℕ) (rows : List Row)
    → (value m).encode (elements_for m t rows) ≡ 0 ∷ (to_be 2 (length (elements_for m t rows)) ++ ((element m).encode (assigned transaction_id (transaction t)) ++ flat_map (element m).encode (list_for m rows)))
unfolding value as_if pair bits only number joined width elements_of behind times flat_map elements_for to_be
value_parts m t rows = refl

pub value-bytes : (m : Message) (t : ℕ) → t < 256 → (rows : List Row) → (value m).encode (elements_for m t rows) ≡ value_bytes m t rows
unfolding value_bytes
value-bytes m t h rows =
    value_parts m t rows
    ∙ rw (how_many m t rows, count_bytes_lem (ltb 0 (length rows)), transaction-bytes m t h, list-bytes m rows)

-- ---- the frame

frame-bytes : {C : Type 0} (m : Message) (f : Format C) (c : C)
    → (frame f).encode (record { choice = choice_of m; code = code_of m; criticality = reject; value = c }) ≡ enclosed (frame_id m) (f.encode c)
unfolding frame behind two_bits as_if only number frame_under pair frame_criticality inside open_type determinant run to_be opening enclosed
frame-bytes CancelRequest f c = refl
frame-bytes CancelResponse f c = refl
frame-bytes WriteReplaceResponse f c = refl

-- ---- all of it

pub response-bytes : (m : Message) (t : ℕ) → t < 256 → (rows : List Row)
    → response_bytes m t rows ≡ enclosed (frame_id m) (value_bytes m t rows)
unfolding response_bytes response_for
response-bytes m t h rows =
    frame-bytes m (value m) (elements_for m t rows)
    ∙ ap (enclosed (frame_id m)) (value-bytes m t h rows)

-- An item and the list of cells keep the laws of a format, by the description, part by part.
use mathlib.Core.Path.{◌≡◌, refl, sym, ap}
use mathlib.Core.List.{List, [], ◌∷◌}
use Prim.Native.Nat.{ℕ, ◌≤◌, ◌<◌}
use native.Mathlib.Omega.{arith}
use lib.ListN.{length, get_or, length-append}
use Rattle.octets.specs.Runs.{Bytes}
use Rattle.octets.proofs.NumbersLaws.{length-to_be}
use Rattle.formats.specs.Format.{nothing, number, opaque, pair, behind, only, as_if}
use Rattle.formats.specs.Bits.{width, cut, bits}
use Rattle.formats.proofs.FormatLaws.{Lawful, Alone, alone, number_lawful, opaque-alone, pair_lawful, behind_lawful, as_if_lawful, as_if_alone, cond-alone, too_short}
use Rattle.formats.proofs.BitsLaws.{bits_lawful}
use Rattle.aper.specs.Elements.{from_one, presence, given}
use Rattle.aper.proofs.ElementLaws.{element_lawful, counted, from_one_lawful, given_lawful, given-there}
use Rattle.wire.specs.Messages.{count_size}
use Rattle.wire.specs.Cells.{Item, flag_fields, cell_fields, ItemHead, item_head, head_of, behind_head, item_under, item, listed, foreign, item_in, bytes_in, is_item, entry, entry_element, most_listed, list}
use Rattle.wire.specs.declared.Message.{Message}
use Rattle.wire.proofs.FrameFormat.{shape}

flag_shape : (v : List ℕ) → (bits 1 flag_fields).fits v → get_or v 0 0 ∷ get_or v 1 0 ∷ [] ≡ v
unfolding cut
flag_shape v k = shape 1 flag_fields v k (λ (v : List ℕ). get_or v 0 0 ∷ get_or v 1 0 ∷ [] ≡ v) (λ n. refl)

cell_shape : (v : List ℕ) → (bits 5 cell_fields).fits v → get_or v 0 0 ∷ [] ≡ v
unfolding cut
cell_shape v k = shape 5 cell_fields v k (λ (v : List ℕ). get_or v 0 0 ∷ [] ≡ v) (λ n. refl)

item-said : (m : Message) (h : ItemHead) (i : Item) → item_head.fits h → (item_under m h).fits i → head_of i ≡ h
unfolding item_head item_under as_if pair
item-said m h i k u =
    let p : presence i.extensions ≡ get_or h.0 0 0 = given-there (get_or h.0 0 0) i.extensions u.0.1.1 in
    let q : presence i.cell_extensions ≡ get_or h.0 1 0 = given-there (get_or h.0 1 0) i.cell_extensions u.0.0 in
    let plmn : i.plmn ≡ h.1.0 = ap (λ (x : Item). x.plmn) (sym u.1) in
    let cell : i.cell ≡ get_or h.1.1 0 0 = ap (λ (x : Item). x.cell) (sym u.1) in
    rw (p, q, plmn, cell, flag_shape h.0 k.0, cell_shape h.1.1 k.1.1)

item_under_lawful : (m : Message) (h : ItemHead) → Lawful (item_under m h)
unfolding item_under
item_under_lawful m h =
    as_if_lawful (λ p. record { plmn = h.1.0; cell = get_or h.1.1 0 0; cell_extensions = p.0; count = p.1.0; extensions = p.1.1 })
    (λ i. (i.cell_extensions, (i.count, i.extensions))) (behind_head m h) (λ p k. refl)
    (pair_lawful (given (get_or h.0 1 0)) (pair (number (count_size m)) (given (get_or h.0 0 0))) (given_lawful (get_or h.0 1 0))
    (pair_lawful (number (count_size m)) (given (get_or h.0 0 0)) (number_lawful (count_size m)) (given_lawful (get_or h.0 0 0))))

item_head_lawful : Lawful item_head
unfolding item_head
item_head_lawful =
    pair_lawful (bits 1 flag_fields) (pair (number 3) (bits 5 cell_fields)) (bits_lawful 1 flag_fields (unfold width in refl))
    (pair_lawful (number 3) (bits 5 cell_fields) (number_lawful 3) (bits_lawful 5 cell_fields (unfold width in refl)))

pub item_lawful : (m : Message) → Lawful (item m)
unfolding item
item_lawful m = behind_lawful item_head head_of (item_under m) item_head_lawful (item_under_lawful m) (item-said m)

-- ---- no item has fewer than nine bytes

item-long : (m : Message) (i : Item) → 9 ≤ length ((item m).encode i)
unfolding item behind item_head pair bits as_if only number
item-long m i = simp (length-append, length-to_be) (omega arith)

pub item-short : (m : Message) (l : List ℕ) → Bytes l → length l < 9 → (item m).parse l ≡ nothing
item-short m l bytes h = too_short (item m) (item_lawful m) 9 (item-long m) l bytes h

-- ---- the list

entry-alone : (m : Message) (id : ℕ) → Alone (entry m id)
unfolding entry
entry-alone m id =
    cond-alone (is_item m id) (as_if listed item_in (item m)) (as_if foreign bytes_in opaque)
    (alone (as_if listed item_in (item m)) (as_if_lawful listed item_in (item m) (λ i h. refl) (item_lawful m)))
    (as_if_alone foreign bytes_in opaque (λ s h. refl) opaque-alone)

pub list_lawful : (m : Message) → Lawful (list m)
unfolding list
list_lawful m = counted (entry_element m) (from_one most_listed) (element_lawful (is_item m) (entry m) (entry-alone m)) (from_one_lawful most_listed)

-- The list of cells: one to 512 elements, each a cell's item or an element that is not looked into.
use Rattle.std.specs.Prelude.{Bool, cond, List, [], ◌∷◌, ℕ, eqb, length, get_or}
use Rattle.formats.specs.Format.{Format, number, opaque, pair, behind, as_if, times}
use Rattle.formats.specs.Bits.{Field, says, pad, bits}
use Rattle.aper.specs.Elements.{Element, element_of, from_one, Extensions, presence, given}
use Rattle.wire.specs.Messages.{item_id, count_size}
use Rattle.wire.specs.declared.Message.{Message}

-- ---- a cell's item

pub record Item : Type 0 where
  pub plmn : ℕ
  pub cell : ℕ
  pub cell_extensions : Extensions
  -- of broadcasts, 0 where an item has none
  pub count : ℕ
  pub extensions : Extensions

-- extension bit, iE-Extensions present; the same of NR CGI; padding
abbrev pub flag_fields : List Field
flag_fields = pad 1 ∷ says 1 ∷ pad 1 ∷ says 1 ∷ pad 4 ∷ []

-- the cell's 36 bits; padding
abbrev pub cell_fields : List Field
cell_fields = says 36 ∷ pad 4 ∷ []

abbrev pub ItemHead : Type 0
ItemHead = List ℕ × (ℕ × List ℕ)

unfoldable pub item_head : Format ItemHead
item_head = pair (bits 1 flag_fields) (pair (number 3) (bits 5 cell_fields))

abbrev pub head_of : Item → ItemHead
head_of i = (presence i.extensions ∷ presence i.cell_extensions ∷ [], (i.plmn, i.cell ∷ []))

-- NR CGI's extensions come first, the item's own last; a count in no bytes is 0
abbrev pub behind_head : Message → ItemHead → Format (Extensions × (ℕ × Extensions))
behind_head m h = pair (given (get_or h.0 1 0)) (pair (number (count_size m)) (given (get_or h.0 0 0)))

unfoldable pub item_under : Message → ItemHead → Format Item
item_under m h =
    as_if (λ p. record { plmn = h.1.0; cell = get_or h.1.1 0 0; cell_extensions = p.0; count = p.1.0; extensions = p.1.1 })
    (λ i. (i.cell_extensions, (i.count, i.extensions))) (behind_head m h)

unfoldable pub item : Message → Format Item
item m = behind item_head head_of (item_under m)

-- ---- an entry of the list

pub data Entry : Type 0 where
  listed : Item → Entry
  foreign : List ℕ → Entry

abbrev pub item_in : Entry → Item
item_in (listed i) = i
item_in (foreign s) = record { plmn = 0; cell = 0; cell_extensions = []; count = 0; extensions = [] }

abbrev pub bytes_in : Entry → List ℕ
bytes_in (listed i) = []
bytes_in (foreign s) = s

abbrev pub is_item : Message → ℕ → Bool
is_item m id = eqb id (item_id m)

unfoldable pub entry : Message → ℕ → Format Entry
entry m id = cond (is_item m id) (as_if listed item_in (item m)) (as_if foreign bytes_in opaque)

abbrev pub entry_element : Message → Format (Element Entry)
entry_element m = element_of (is_item m) (entry m)

-- maxCellingNBDU
abbrev pub most_listed : ℕ
most_listed = 512

unfoldable pub list : Message → Format (List (Element Entry))
list m = behind (from_one most_listed) (λ es. length es) (times (entry_element m))

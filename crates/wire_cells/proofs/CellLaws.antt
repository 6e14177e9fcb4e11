-- An item in its bytes: its NR CGI is the eight bytes behind the first, without the last four bits, which are padding; its count stands behind NR CGI's
-- extensions.
use Rattle.std.specs.Prelude.{Some, None}
use mathlib.Core.Path.{◌≡◌, refl, sym, ap, ◌∙◌}
use mathlib.Core.Bool.{true, false}
use mathlib.Core.List.{List}
use Prim.Native.Nat.{ℕ, ◌*◌, ◌/◌, ◌%◌, ◌+◌, ◌^◌, ◌≤◌}
use native.Mathlib.Omega.{arith}
use lib.Dec.{ltb}
use lib.ListN.{length, get_or, drop}
use borrow.Author.Tests.{ltb-true, ltb-false}
use Rattle.octets.specs.Runs.{gets, Bytes}
use Rattle.octets.specs.Numbers.{be}
use Rattle.octets.proofs.NumbersLaws.{be-run}
use Rattle.rules.specs.Lists.{any}
use Rattle.rules.specs.Identity.{identity_of}
use Rattle.rules.proofs.TestLaws.{by_test}
use Rattle.formats.specs.Format.{nothing, found, number, pair, behind, as_if}
use Rattle.formats.specs.Bits.{width, cut, padded}
use Rattle.formats.proofs.ReadLaws.{number_cut, number-found, bits-set, bits-found}
use Rattle.formats.proofs.SummaryLaws.{nothing-found, found-value, found-rest}
use Rattle.formats.specs.Summary.{summed}
use Rattle.aper.specs.Elements.{Extensions, given, marked}
use Rattle.aper.specs.Readers.{GivenAt}
use Rattle.aper.specs.declared.Extensions.{Extensions as Run}
use Rattle.wire.specs.Messages.{count_size}
use Rattle.wire.specs.Cells.{Item, flag_fields, cell_fields, ItemHead, item_head, behind_head, item_under, item}
use Rattle.wire.specs.declared.Message.{Message}
use Rattle.wire.proofs.CellsFormat.{item-short}
use Rattle.formats.proofs.FoundLaws.{Came, came}

-- ---- the fixed bytes

module _ (s : List ℕ) (long : 9 ≤ length s) where
  abbrev flags : ℕ
  flags = be (gets s 0 1)

  abbrev bits : ℕ
  bits = be (gets s 4 5)

  abbrev this : ItemHead
  this = (cut flag_fields flags, (be (gets s 1 3), cut cell_fields bits))

  flags_bad : padded flag_fields flags ≡ false → item_head.parse s ≡ nothing
  unfolding item_head pair
  flags_bad t = rw (bits-set s 0 1 1 refl flag_fields flags (omega arith) refl t)

  bits_bad : padded flag_fields flags ≡ true → padded cell_fields bits ≡ false → item_head.parse s ≡ nothing
  unfolding item_head pair
  bits_bad t u = rw (bits-found s 0 1 1 refl flag_fields flags (omega arith) refl t, number-found s 1 3 4 refl (omega arith), bits-set s 4 5 9 refl cell_fields bits long refl u)

  head-there : padded flag_fields flags ≡ true → padded cell_fields bits ≡ true → item_head.parse s ≡ found this (drop 9 s)
  unfolding item_head pair
  head-there t u = rw (bits-found s 0 1 1 refl flag_fields flags (omega arith) refl t, number-found s 1 3 4 refl (omega arith), bits-found s 4 5 9 refl cell_fields bits long refl u)

  head-came : (h : ItemHead) (r : List ℕ) → item_head.parse s ≡ found h r → (this ≡ h) × (drop 9 s ≡ r)
  head-came h r e =
      by_test (padded flag_fields flags)
      (λ t.
      by_test (padded cell_fields bits)
      (λ u. let both = sym (head-there t u) ∙ e in (found-value this h (drop 9 s) r both, found-rest this h (drop 9 s) r both))
      (λ u. absurd (nothing-found h r (sym (bits_bad t u) ∙ e))))
      (λ t. absurd (nothing-found h r (sym (flags_bad t) ∙ e)))

-- ---- an item

module _ (m : Message) (h : ItemHead) (s r : List ℕ) (i : Item) (e : (item_under m h).parse s ≡ found i r) where
  made : Extensions × (ℕ × Extensions) → Item
  made p = record { plmn = h.1.0; cell = get_or h.1.1 0 0; cell_extensions = p.0; count = p.1.0; extensions = p.1.1 }

  -- what stands behind its fixed bytes
  behind_them : Came ((behind_head m h).parse s) (λ p q. found (made p) q) i r
  unfolding item_under as_if made
  behind_them = came ((behind_head m h).parse s) (λ p q. found (made p) q) i r e

  same : made behind_them.value ≡ i
  same = found-value (made behind_them.value) i behind_them.rest r behind_them.later

  under-came : (i.plmn ≡ h.1.0) × (i.cell ≡ get_or h.1.1 0 0)
  unfolding made
  under-came = (ap (λ (x : Item). x.plmn) (sym same), ap (λ (x : Item). x.cell) (sym same))

  -- the count stands where NR CGI's extensions end
  pub record Counted : Type 0 where
    pub cell_extensions : Extensions
    pub next : List ℕ
    pub behind_it : List ℕ
    pub extended : (given (get_or h.0 1 0)).parse s ≡ found cell_extensions next
    pub counted : (number (count_size m)).parse next ≡ found i.count behind_it

  pub count-came : Counted
  unfolding pair made
  count-came =
      let p = behind_them.value in
      let one = came ((given (get_or h.0 1 0)).parse s) _ p behind_them.rest behind_them.first in
      let two = came ((pair (number (count_size m)) (given (get_or h.0 0 0))).parse one.rest) _ p behind_them.rest one.later in
      let three = came ((number (count_size m)).parse one.rest) _ two.value two.rest two.first in
      let four = came ((given (get_or h.0 0 0)).parse three.rest) _ two.value two.rest three.later in
      let inner : three.value ≡ two.value.0 = ap (λ (x : ℕ × Extensions). x.0) (found-value (three.value, four.value) two.value four.rest two.rest four.later) in
      let outer : two.value.0 ≡ p.1.0 = ap (λ (x : Extensions × (ℕ × Extensions)). x.1.0) (found-value (one.value, two.value) p two.rest behind_them.rest two.later) in
      let this : three.value ≡ i.count = inner ∙ outer ∙ ap (λ (x : Item). x.count) same in
      record {
        cell_extensions = one.value;
        next = one.rest;
        behind_it = three.rest;
        extended = one.first;
        counted = three.first ∙ ap (λ (n : ℕ). found n three.rest) this;
      }

module _ (m : Message) (s r : List ℕ) (bytes : Bytes s) (i : Item) (e : (item m).parse s ≡ found i r) where
  pub item-long : 9 ≤ length s
  item-long =
      by_test (ltb (length s) 9)
      (λ t. absurd (nothing-found i r (sym (item-short m s bytes (ltb-true (length s) 9 t)) ∙ e)))
      (λ t. ltb-false (length s) 9 t)

  under : Came (item_head.parse s) (λ h q. (item_under m h).parse q) i r
  unfolding item behind
  under = came (item_head.parse s) (λ h q. (item_under m h).parse q) i r e

  head : (this s item-long ≡ under.value) × (drop 9 s ≡ under.rest)
  head = head-came s item-long under.value under.rest under.first

  pub item-identity : identity_of i.plmn i.cell ≡ be (gets s 1 8) / 16
  unfolding cut width
  item-identity =
      let said = under-came m under.value under.rest r i under.later in
      let plmn : i.plmn ≡ be (gets s 1 3) = said.0 ∙ ap (λ (h : ItemHead). h.1.0) (sym head.0) in
      let cell : i.cell ≡ be (gets s 4 5) / 16 = said.1 ∙ ap (λ (h : ItemHead). get_or h.1.1 0 0) (sym head.0) in
      let all : be (gets s 1 3) * 256 ^ 5 + be (gets s 4 5) ≡ be (gets s 1 8) = be-run 3 5 s 1 4 refl in
      omega arith

  -- ---- its count

  abbrev flag : ℕ
  flag = be (gets s 0 1) / 16 % 2

  counted : Counted m under.value under.rest r i under.later
  counted = count-came m under.value under.rest r i under.later

  extended : (given flag).parse (drop 9 s) ≡ found counted.cell_extensions counted.next
  unfolding cut width
  extended =
      let own : be (gets s 0 1) / 16 % 2 ≡ be (gets s 0 1) % 128 % 64 % 32 / 16 = omega arith in
      let bit : flag ≡ get_or under.value.0 1 0 = own ∙ ap (λ (h : ItemHead). get_or h.0 1 0) head.0 in
      ap (given flag).parse head.1 ∙ ap (λ (n : ℕ). (given n).parse under.rest) bit ∙ counted.extended

  -- NR CGI's extensions end where the count begins
  pub count-there : GivenAt s 9 flag None → ⊥
  count-there read = nothing-found (any marked counted.cell_extensions) counted.next (read.says ∙ ap (summed (any marked)) extended)

  module _ (own : Run) (read : GivenAt s 9 flag (Some own)) where
    starts : drop own.end s ≡ counted.next
    starts = found-rest own.rejected (any marked counted.cell_extensions) (drop own.end s) counted.next (read.says ∙ ap (summed (any marked)) extended)

    here : (number (count_size m)).parse (drop own.end s) ≡ found i.count counted.behind_it
    here = ap (number (count_size m)).parse starts ∙ counted.counted

    pub count-within : own.end + count_size m ≤ length s
    count-within =
        by_test (ltb (length s) (own.end + count_size m))
        (λ t. absurd (nothing-found i.count counted.behind_it (sym (number_cut s own.end (count_size m) (own.end + count_size m) refl read.lies (ltb-true (length s) (own.end + count_size m) t)) ∙ here)))
        (λ t. ltb-false (length s) (own.end + count_size m) t)

    pub item_count_lem : be (gets s own.end (count_size m)) ≡ i.count
    item_count_lem = found-value (be (gets s own.end (count_size m))) i.count (drop (own.end + count_size m) s) counted.behind_it (sym (number-found s own.end (count_size m) (own.end + count_size m) refl count-within) ∙ here)

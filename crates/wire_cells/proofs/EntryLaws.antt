-- An entry of the list at an index, read with no look into it: where the list is whole and has no foreign item, its bytes are a cell's item.
use Rattle.std.specs.Prelude.{Option, Some, None}
use Rattle.std.specs.Option.{IsSome}
use mathlib.Core.Path.{◌≡◌, refl, sym, ap, ◌∙◌}
use mathlib.Core.Bool.{true, false, cond, false≢true}
use mathlib.Core.List.{List, [], ◌∷◌}
use Prim.Native.Nat.{ℕ, ◌+◌, ◌-◌, ◌/◌, ◌≤◌}
use native.Mathlib.Omega.{arith}
use lib.ListN.{length, take, drop, length-drop}
use lib.Seq.{length-take-le}
use Rattle.octets.specs.Runs.{gets, Bytes}
use Rattle.octets.specs.Numbers.{be}
use Rattle.octets.proofs.RunsLaws.{gets_eq, gets-gets, bytes_take, bytes_drop}
use Rattle.rules.specs.Identity.{identity_of}
use Rattle.rules.specs.Reply.{Row}
use Rattle.rules.proofs.TestLaws.{by_test}
use Rattle.formats.specs.Format.{nothing, found, after, all_of, opaque, only, as_if}
use Rattle.formats.specs.Summary.{summed}
use Rattle.formats.proofs.SummaryLaws.{nothing-found, found-value, found-rest}
use Rattle.aper.specs.Elements.{Element, proper, element_of}
use Rattle.aper.specs.Readers.{LengthAt, ElementAt}
use Rattle.aper.specs.declared.Length.{Length}
use Rattle.aper.proofs.ElementLaws.{looked_into_lem}
use Rattle.aper.proofs.StepLaws.{head-there, length-there, by_length}
use Rattle.wire.specs.Cells.{Item, Entry, listed, foreign, is_item, item, entry, entry_element}
use Rattle.wire.specs.MessageRefusals.{is_foreign}
use Rattle.wire.specs.MessageSaid.{row_in}
use Rattle.wire.specs.declared.Message.{Message}
use Rattle.formats.proofs.FoundLaws.{came, Held, held-came}
use Rattle.wire_cells.specs.Listed.{WholeItem, OwnEntry, row_said, CellAt}
use Rattle.wire_cells.specs.declared.Cell.{Cell}
use Rattle.wire_cells.proofs.CellLaws.{item-long, item-identity}

-- ---- contents: a cell's item

record Own (m : Message) (s : List ℕ) (x : Entry) : Type 0 where
  whole : WholeItem m s
  here : listed whole.it ≡ x

module _ (m : Message) (id : ℕ) (s : List ℕ) (x : Entry) (e : (entry m id).parse s ≡ found x []) where
  item-came : is_item m id ≡ true → Own m s x
  item-came t =
      let one = came ((item m).parse s) (λ i r. found (listed i) r) x [] (sym (as_item t) ∙ e) in
      record {
        whole = record { it = one.value; reads = one.first ∙ ap (found one.value) (found-rest (listed one.value) x one.rest [] one.later) };
        here = found-value (listed one.value) x one.rest [] one.later;
      }
    where
      as_item : is_item m id ≡ true → (entry m id).parse s ≡ after ((item m).parse s) (λ i r. found (listed i) r)
      as_item t = unfold entry as_if in rw t

  other-came : is_item m id ≡ false → foreign s ≡ x
  other-came t = found-value (foreign s) x [] [] (sym (as_other t) ∙ e)
    where
      as_other : is_item m id ≡ false → (entry m id).parse s ≡ found (foreign s) []
      as_other t = unfold entry as_if opaque in rw t

  own-came : is_foreign x ≡ false → Own m s x
  own-came own = by_test (is_item m id) item-came (λ t. absurd (false≢true (sym own ∙ sym (ap is_foreign (other-came t)))))

-- ---- an entry

abbrev one_row : (identity count : ℕ) → List Row
one_row identity count = record { identity = identity; count = count; content = 0 } ∷ []

module _ (m : Message) (l : List ℕ) (at : ℕ) where
  entry-none : ElementAt l at None → (entry_element m).parse (drop at l) ≡ nothing
  unfolding element_of only
  entry-none read = rw (looked_into_lem (entry m) (drop at l), sym read.says)

  module _ (o : OwnEntry m l at) where
    an_entry : ElementAt l at None → ⊥
    an_entry read = nothing-found o.entry o.rest (sym (entry-none read) ∙ o.there)

    pub entry-head : at + 3 ≤ length l
    entry-head = head-there l at o.within an_entry

    pub entry_length : (r : Option Length) → LengthAt l (at + 3) r → IsSome r
    entry_length (Some it) read = refl
    entry_length None read = absurd (length-there l at o.within an_entry read)

    module _ (it : Length) (size : LengthAt l (at + 3) (Some it)) where
      abbrev end : ℕ
      end = it.start + it.of

      abbrev id : ℕ
      id = be (gets l at 2)

      abbrev criticality : ℕ
      criticality = be (gets l (at + 2) 1) / 64

      read : ElementAt l at (Some (record { id = id; criticality = criticality; start = it.start; end = end }))
      read = by_length l at o.within an_entry it size

      pub entry-within : (it.start ≤ end) × (end ≤ length l)
      entry-within = (read.lies.2, read.lies.1)

      -- the item's own bytes
      abbrev pub held : List ℕ
      held = take (end - it.start) (drop it.start l)

      abbrev made : Entry → Element Entry
      made x = record { id = id; criticality = criticality; contents = x }

      seen : (entry_element m).parse (drop at l) ≡ after (after (all_of ((entry m id).parse held) (drop end l)) (λ x r. found (made x) r)) (λ e r. cond (proper (is_item m) e) (found e r) nothing)
      unfolding element_of only
      seen = rw (looked_into_lem (entry m) (drop at l), sym read.says)

      inside : Held ((entry m id).parse held) made (drop end l) o.entry o.rest
      inside = held-came ((entry m id).parse held) made (proper (is_item m)) (drop end l) o.entry o.rest (sym seen ∙ o.there)

      ours : Own m held o.entry.contents
      ours = own-came m id held o.entry.contents (inside.first ∙ ap (λ (y : Element Entry). found y.contents []) inside.made) o.own

      pub entry-item : WholeItem m held
      entry-item = ours.whole

      module _ (bytes : Bytes l) where
        held_bytes : Bytes held
        held_bytes = bytes_take (end - it.start) (drop it.start l) (bytes_drop it.start l bytes)

        held-size : length held ≡ it.of
        held-size =
            let within : end - it.start ≤ length (drop it.start l) = rw length-drop (omega (arith, entry-within.1)) in
            length-take-le (end - it.start) (drop it.start l) within ∙ omega arith

        pub entry-long : it.start + 9 ≤ end
        entry-long = omega (arith, held-size, item-long m held [] held_bytes entry-item.it entry-item.reads)

        eight : gets held 1 8 ≡ gets l (it.start + 1) 8
        eight =
            let run : held ≡ gets l it.start (end - it.start) = sym (gets_eq (end - it.start) l it.start (omega (arith, entry-within.1))) in
            ap (λ (s : List ℕ). gets s 1 8) run ∙ gets-gets 8 (end - it.start) l it.start 1 (omega (arith, entry-long))

        pub cell-there : (c : Cell) → c.identity.0 ≡ be (gets l (it.start + 1) 8) / 16 → summed (λ (i : Item). i.count) ((item m).parse held) ≡ found c.count.0 [] → c.end ≡ end
            → CellAt m l at c
        unfolding ours entry-item
        cell-there c identity count ends = record { says = whole; ends = omega (arith, ends, entry-within.1) }
          where
            same : identity_of entry-item.it.plmn entry-item.it.cell ≡ c.identity.0
            same = item-identity m held [] held_bytes entry-item.it entry-item.reads ∙ ap (λ (s : List ℕ). be s / 16) eight ∙ sym identity

            many : entry-item.it.count ≡ c.count.0
            many = found-value entry-item.it.count c.count.0 [] [] (ap (summed (λ (i : Item). i.count)) (sym entry-item.reads) ∙ count)

            row : row_in o.entry.contents ≡ row_said c ∷ []
            row =
                ap row_in (sym ours.here)
                ∙ ap (λ (n : ℕ). one_row n entry-item.it.count) same
                ∙ ap (one_row c.identity.0) many

            whole : summed (λ (e : Element Entry). row_in e.contents) ((entry_element m).parse (drop at l)) ≡ found (row_said c ∷ []) (drop c.end l)
            whole = ap (summed (λ (e : Element Entry). row_in e.contents)) o.there ∙ rw (row, ← inside.later, ends)

-- An entry of the list of cells at an index: an item without extensions that is seen at once, an item in bytes that are lent on, or another element, not
-- looked into.
use Rattle.std.specs.Prelude.{Option, Some, None}
use mathlib.Core.Path.{◌≡◌, refl, sym, ap, ◌∙◌}
use mathlib.Core.Bool.{Bool, true, false, cond}
use mathlib.Core.List.{List, [], ◌∷◌}
use Prim.Native.Nat.{ℕ, ◌+◌, ◌-◌, ◌/◌, ◌<◌, ◌≤◌}
use native.Mathlib.Omega.{arith}
use lib.Dec.{eqb, ltb}
use lib.ListN.{take, drop}
use borrow.Author.Tests.{lt-ltb, le-ltb, eq-eqb, ne_eqb}
use Rattle.octets.specs.Runs.{gets, Bytes}
use Rattle.octets.specs.Numbers.{be}
use Rattle.octets.proofs.NumbersLaws.{be-gets_lt}
use Rattle.rules.specs.Layout.{cell_end}
use Rattle.formats.specs.Summary.{summed}
use Rattle.formats.specs.Format.{Found, nothing, found, after, all_of, opaque, only, as_if}
use Rattle.aper.specs.Elements.{proper, element_of}
use Rattle.aper.specs.Readers.{ElementAt}
use Rattle.aper.specs.declared.Element.{Element as Placed}
use Rattle.aper.proofs.ElementLaws.{looked_into_lem}
use Rattle.wire.specs.Messages.{item_id}
use Rattle.wire.specs.Cells.{Item, Entry, listed, is_item, item, entry, entry_element}
use Rattle.wire.specs.Readers.{grade_by, graded, ItemGraded, plain_size, PlainAt, marks_of, EntryAt}
use Rattle.wire.specs.declared.Message.{Message}
use Rattle.wire.specs.declared.list.Grade.{Grade}

-- eight bytes without their padding are a cell's number
pub identity-small : (l : List ℕ) (at : ℕ) → Bytes l → {n : ℕ} → n ≡ be (gets l at 8) / 16 → n < cell_end
identity-small l at bytes e = let most : be (gets l at 8) < 18446744073709551616 = be-gets_lt 8 at l bytes in omega arith

abbrev Kept : Type 0
Kept = Bool × (Bool × ℕ)

module _ (m : Message) where
  -- what is kept of an entry, once it was read with no look into it
  keeping : ℕ → ℕ → Found Entry → Found Kept
  keeping id criticality x =
      summed marks_of (after (after x (λ c s. found (record { id = id; criticality = criticality; contents = c }) s)) (λ e r. cond (proper (is_item m) e) (found e r) nothing))

  module _ (l : List ℕ) (at : ℕ) where
    abbrev Here : Found Kept
    Here = summed marks_of ((entry_element m).parse (drop at l))

    absent : Here ≡ nothing → EntryAt m l at None
    absent e = record { says = sym e; lies = tt }

    pub entry-none : ElementAt l at None → EntryAt m l at None
    entry-none read = absent none
      where
        none : Here ≡ nothing
        none = unfold element_of only in rw (looked_into_lem (entry m) (drop at l), sym read.says)

    module _ (it : Placed) (read : ElementAt l at (Some it)) where
      abbrev held : List ℕ
      held = take (it.end - it.start) (drop it.start l)

      seen : Here ≡ keeping it.id it.criticality (all_of ((entry m it.id).parse held) (drop it.end l))
      unfolding element_of only keeping
      seen = rw (looked_into_lem (entry m) (drop at l), sym read.says)

      -- ---- an item

      -- it is not foreign, and its mark and its cell's number are its grade
      marked : Found (Bool × ℕ) → Found Kept
      marked g = summed (λ b. (b.0, (false, b.1))) (all_of g (drop it.end l))

      as_item : it.id ≡ item_id m → (entry m it.id).parse held ≡ after ((item m).parse held) (λ i r. found (listed i) r)
      unfolding entry as_if
      as_item e = rw (eq-eqb it.id (item_id m) e)

      by_grade : it.id ≡ item_id m → (x : Found Item) (g : Found (Bool × ℕ)) → all_of (summed graded x) [] ≡ g
          → keeping it.id it.criticality (all_of (after x (λ i r. found (listed i) r)) (drop it.end l)) ≡ marked g
      unfolding keeping proper marked
      by_grade e nothing g q = ap marked q
      by_grade e (found i []) g q = rw (eq-eqb it.id (item_id m) e) (ap marked q)
      by_grade e (found i (b ∷ bs)) g q = ap marked q

      item-kept : it.id ≡ item_id m → (r : Option Grade) → ItemGraded m held r → Here ≡ marked (grade_by r)
      item-kept e r g = seen ∙ ap (λ (x : Found Entry). keeping it.id it.criticality (all_of x (drop it.end l))) (as_item e) ∙ by_grade e ((item m).parse held) (grade_by r) (sym g)

      pub entry-item : it.id ≡ item_id m → (g : Grade) → g.identity < cell_end → ItemGraded m held (Some g) → EntryAt m l at (Some (record { end = it.end; rejected = g.rejected; foreign = false; identity = g.identity }))
      unfolding marked
      entry-item e g small graded = record { says = sym (item-kept e (Some g) graded); lies = (read.lies.1, small) }

      pub entry-no-item : it.id ≡ item_id m → ItemGraded m held None → EntryAt m l at None
      unfolding marked
      entry-no-item e g = absent (item-kept e None g)

      -- ---- another element

      other-kept : (it.id ≡ item_id m → ⊥) → (t : Bool) → ltb it.criticality 3 ≡ t
          → keeping it.id it.criticality (all_of ((entry m it.id).parse held) (drop it.end l)) ≡ cond t (found (eqb it.criticality 0, (true, 0)) (drop it.end l)) nothing
      unfolding entry as_if opaque keeping proper
      other-kept n true e = rw (ne_eqb it.id (item_id m) n, ne_eqb it.id (item_id m) n, e)
      other-kept n false e = rw (ne_eqb it.id (item_id m) n, ne_eqb it.id (item_id m) n, e)

      pub entry_other : (it.id ≡ item_id m → ⊥) → it.criticality < 3 → EntryAt m l at (Some (record { end = it.end; rejected = eqb it.criticality 0; foreign = true; identity = 0 }))
      entry_other n h = record { says = sym (seen ∙ other-kept n true (lt-ltb it.criticality 3 h)); lies = (read.lies.1, omega arith) }

      pub entry-no_value : (it.id ≡ item_id m → ⊥) → 3 ≤ it.criticality → EntryAt m l at None
      entry-no_value n h = absent (seen ∙ other-kept n false (le-ltb it.criticality 3 h))

    -- an item that was seen at once: its cell's number stands behind its head and its flags
    pub entry-plain : Bytes l → PlainAt m l at → (end n : ℕ) → end ≡ at + (4 + plain_size m) → n ≡ be (gets l (at + 4 + 1) 8) / 16 → EntryAt m l at (Some (record { end = end; rejected = false; foreign = false; identity = n }))
    entry-plain bytes p end n behind here =
        let fifth : at + 4 + 1 ≡ at + 5 = omega arith in
        rw (behind, here, fifth)
        (entry-item (record { id = item_id m; criticality = p.criticality; start = at + 4; end = at + (4 + plain_size m) }) p.read refl (record { rejected = false; identity = be (gets l (at + 5) 8) / 16 }) (identity-small l (at + 5) bytes refl) p.graded)

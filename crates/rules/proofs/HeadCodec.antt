-- A cell's head and its 24 bytes are each other's inverse, where the bytes are legal and where the head is sound; and legal bytes say a sound head, whose bytes are legal.
-- By the layout's laws: the seven numbers that legal bytes say are those of the head, since the areas that are not in use are zero.
use mathlib.Core.Path.{◌≡◌, sym, ap, ◌∙◌}
use mathlib.Core.Bool.{true}
use mathlib.Core.List.{List}
use Prim.Native.Nat.{ℕ, suc, ◌-◌, ◌≤◌, ◌<◌}
use native.Mathlib.Omega.{arith}
use borrow.Author.Tests.{ltb-true, leb-true, lt-ltb, le-leb}
use lib.ListN.{length, take, drop, length-drop, take-append-drop}
use lib.Seq.{length-take-le, take_all}
use Rattle.octets.specs.Runs.{Bytes}
use Rattle.octets.specs.Fields.{size, numbers, Fit, padded, field_of}
use Rattle.octets.proofs.FieldsLaws.{length-padded, padded_append, take-padded, drop-padded, fit-numbers, bytes_bytes_of}
use Rattle.rules.specs.Lists.{zeros, ascending}
use Rattle.rules.specs.Layout.{Version, head_fields, head_size, most_areas, cell_end}
use Rattle.rules.specs.Table.{Head, areas_used, all_areas, head_of, head_numbers, head_bytes, legal_head}
use Rattle.rules.specs.Sound.{sound_head}
use Rattle.rules.proofs.ListsLaws.{zeros-replicate, replicate-zeros}
use Rattle.rules.proofs.TestLaws.{both}
use Rattle.rules.proofs.LayoutLaws.{head-size}
use Rattle.rules.proofs.FitLaws.{fits-Fit, Fit-fits, numbers-written, numbers-again, length-written}

-- ---- filling up

-- what is zero from n on is filled up with zeros again
padded-zeros : (n : ℕ) (xs : List ℕ) → n ≤ length xs → zeros (drop n xs) ≡ true → padded (length xs) 0 (take n xs) ≡ xs
padded-zeros n xs h z =
    let t : length (take n xs) ≡ n = length-take-le n xs h in
    let d : length (drop n xs) ≡ length xs - n = length-drop n xs in
    padded_append (length xs) 0 (take n xs) (omega arith)
    ∙ rw (t, ← d, ← zeros-replicate (drop n xs) z) (take-append-drop n xs)

-- the four, used or not, are all that stands there
four-areas : (xs : List ℕ) → take most_areas (padded most_areas 0 xs) ≡ padded most_areas 0 xs
four-areas xs = take_all most_areas (padded most_areas 0 xs) (omega (arith, length-padded most_areas 0 xs))

module _ (v : Version) where
  -- ---- the tests, part by part

  pub record LegalHead (b : List ℕ) : Type 0 where
    pub small : (head_of v b).identity < cell_end
    pub few : areas_used v b ≤ most_areas
    pub order : ascending (head_of v b).areas ≡ true
    pub spare : zeros (drop (areas_used v b) (all_areas v b)) ≡ true

  pub legal-head : (b : List ℕ) → legal_head v b ≡ true → LegalHead b
  unfolding legal_head
  legal-head b e =
      let h = both _ _ e in
      let k = both _ _ h.0 in
      let l = both _ _ k.0 in
      record {
        small = ltb-true (head_of v b).identity cell_end l.0;
        few = leb-true (areas_used v b) most_areas l.1;
        order = k.1;
        spare = h.1;
      }

  pub record SoundHead (h : Head) : Type 0 where
    pub fit : Fit (head_fields v) (head_numbers h)
    pub small : h.identity < cell_end
    pub few : length h.areas ≤ most_areas
    pub order : ascending h.areas ≡ true

  pub sound-head : (h : Head) → sound_head v h ≡ true → SoundHead h
  unfolding sound_head
  sound-head h e =
      let k = both _ _ e in
      let l = both _ _ k.0 in
      let m = both _ _ l.0 in
      record {
        fit = fits-Fit (head_fields v) (head_numbers h) m.0;
        small = ltb-true h.identity cell_end m.1;
        few = leb-true (length h.areas) most_areas l.1;
        order = k.1;
      }

  -- ---- from bytes

  module _ (b : List ℕ) (bytes : Bytes b) (long : length b ≡ head_size v) (legal : legal_head v b ≡ true) where
    used : length (head_of v b).areas ≡ areas_used v b
    unfolding head_of numbers
    used = length-take-le (areas_used v b) (all_areas v b) (legal-head b legal).few

    same_numbers : head_numbers (head_of v b) ≡ numbers (head_fields v) b
    unfolding head_numbers head_of numbers field_of
    same_numbers =
        let few : areas_used v b ≤ length (all_areas v b) = (legal-head b legal).few in
        rw (used, padded-zeros (areas_used v b) (all_areas v b) few (legal-head b legal).spare)

    pub head-back : head_bytes v (head_of v b) ≡ b
    unfolding head_bytes size
    head-back = rw same_numbers (numbers-again (head_fields v) b bytes (long ∙ sym (head-size v)))

    pub head-sound : sound_head v (head_of v b) ≡ true
    unfolding sound_head size
    head-sound =
        rw (
          used,
          same_numbers,
          Fit-fits (head_fields v) (numbers (head_fields v) b) (fit-numbers (head_fields v) b bytes (omega (arith, head-size v))),
          lt-ltb (head_of v b).identity cell_end (legal-head b legal).small,
          le-leb (areas_used v b) most_areas (legal-head b legal).few,
        )
        (legal-head b legal).order

  -- ---- to bytes

  pub length-head_bytes : (h : Head) → length (head_bytes v h) ≡ head_size v
  unfolding head_bytes head_numbers size
  length-head_bytes h =
      length-written (head_fields v) (head_numbers h) (ap (λ n. suc (suc (suc n))) (length-padded most_areas 0 h.areas))
      ∙ head-size v

  module _ (h : Head) (sound : sound_head v h ≡ true) where
    written : numbers (head_fields v) (head_bytes v h) ≡ head_numbers h
    unfolding head_bytes
    written = numbers-written (head_fields v) (head_numbers h) (sound-head h sound).fit

    pub bytes-head_bytes : Bytes (head_bytes v h)
    unfolding head_bytes
    bytes-head_bytes = bytes_bytes_of (head_fields v) (head_numbers h) (sound-head h sound).fit

    pub head-again : head_of v (head_bytes v h) ≡ h
    unfolding head_of head_numbers field_of
    head-again = rw (written, four-areas h.areas, take-padded most_areas 0 h.areas (sound-head h sound).few)

    pub head_legal_lem : legal_head v (head_bytes v h) ≡ true
    unfolding legal_head head_numbers field_of
    head_legal_lem =
        rw (
          head-again,
          written,
          four-areas h.areas,
          drop-padded most_areas 0 h.areas (sound-head h sound).few,
          replicate-zeros (most_areas - length h.areas),
          lt-ltb h.identity cell_end (sound-head h sound).small,
          le-leb (length h.areas) most_areas (sound-head h sound).few,
          (sound-head h sound).order,
        )

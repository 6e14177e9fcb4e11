-- What is read of a cell: a field of a live place, its text as one number, the mark of a live place, the fields of the head.
-- The bytes of place k are those of live place k, and the layout says where a field stands in them.
use mathlib.Core.Path.{◌≡◌, refl, sym, ap, ◌∙◌}
use mathlib.Core.Bool.{not}
use mathlib.Core.List.{List, [], ◌∷◌}
use Prim.Native.Nat.{ℕ, ◌+◌, ◌<◌, ◌≤◌}
use native.Mathlib.Nat.{add-zero}
use native.Mathlib.Omega.{arith}
use borrow.Author.Tests.{ltb-true, ltb-false}
use lib.Dec.{eqb, ltb}
use lib.ListN.{length, get_or, take}
use Rattle.octets.specs.Runs.{gets, Bytes}
use Rattle.octets.specs.Numbers.{be}
use Rattle.octets.specs.Fields.{size, offset, numbers, field_of}
use Rattle.octets.proofs.NumbersLaws.{be-run}
use Rattle.octets.proofs.FieldsLaws.{field_at, field-within, numbers-take}
use Rattle.rules.specs.Layout.{current, head_fields, place_fields, head_size, place_size, places_per_cell, cell_size}
use Rattle.rules.specs.Table.{areas_used, head_of, all_areas, place_numbers, place_bytes, text_of}
use Rattle.rules.specs.declared.Place.{Place}
use Rattle.rules.proofs.FitLaws.{fits-Fit, numbers-written}
use Rattle.rules.proofs.TestLaws.{by_test}
use Rattle.rules.proofs.PlaceCodec.{length-place_bytes}
use Rattle.cell_read.specs.Places.{live_places, Formed, place_at, LiveAt, areas_in, HeadAreas, place_from}
use Rattle.cell_read.specs.declared.Areas.{Areas}
use Rattle.cell_read.proofs.PlacesLaws.{live_at, fit_at}
use Rattle.cell_read.proofs.PlaceBytesLaws.{live-gets, free-gets}

-- ---- the fields of a live place

module _ (c : List ℕ) (bytes : Bytes c) (k : ℕ) (at : LiveAt c k) where
  field-read : (f : ℕ) → be (gets c (place_from k + offset (place_fields current) f) (get_or (place_fields current) f 0)) ≡ get_or (place_numbers (place_at c k)) f 0
  unfolding size place_bytes field_of
  field-read f =
      let p : Place = place_at c k in
      let within : offset (place_fields current) f + get_or (place_fields current) f 0 ≤ place_size current = field-within (place_fields current) f in
      let n : length (place_bytes current p) ≡ place_size current = length-place_bytes current p in
      let fit = fits-Fit (place_fields current) (place_numbers p) (fit_at c bytes k at) in
      let w : numbers (place_fields current) (place_bytes current p) ≡ place_numbers p = numbers-written (place_fields current) (place_numbers p) fit in
      ap be (live-gets c k at (offset (place_fields current) f) (get_or (place_fields current) f 0) within)
      ∙ sym (field_at (place_fields current) f (place_bytes current p) (omega arith))
      ∙ ap (λ (vs : List ℕ). get_or vs f 0) w

  identifier-read : be (gets c (place_from k) 2) ≡ (place_at c k).identifier
  unfolding offset place_numbers
  identifier-read = rw add-zero at (field-read 0)

  serial-read : be (gets c (place_from k + 2) 2) ≡ (place_at c k).serial
  unfolding offset place_numbers
  serial-read = field-read 1

  pub content-read : be (gets c (place_from k + 4) 4) ≡ (place_at c k).content
  unfolding offset place_numbers
  content-read = field-read 2

  pub period-read : be (gets c (place_from k + 8) 4) ≡ (place_at c k).period.0
  unfolding offset place_numbers
  period-read = field-read 3

  pub requested-read : be (gets c (place_from k + 12) 2) ≡ (place_at c k).requested.0
  unfolding offset place_numbers
  requested-read = field-read 4

  pub sent-read : be (gets c (place_from k + 14) 2) ≡ (place_at c k).sent.0
  unfolding offset place_numbers
  sent-read = field-read 5

  pub wait-read : be (gets c (place_from k + 16) 4) ≡ (place_at c k).wait.0
  unfolding offset place_numbers
  wait-read = field-read 6

  mark-read : be (gets c (place_from k + 21) 1) ≡ 1
  unfolding offset place_numbers
  mark-read = field-read 8

  pub text-read : be (gets c (place_from k) 4) ≡ text_of (place_at c k)
  unfolding text_of
  text-read = sym (be-run 2 2 c (place_from k) (place_from k + 2) refl) ∙ rw (identifier-read, serial-read)

-- ---- live or free

module _ (c : List ℕ) (bytes : Bytes c) (formed : Formed c) (k : ℕ) (room : k < places_per_cell) where
  no-mark : length (live_places c) ≤ k → be (gets c (place_from k + 21) 1) ≡ 0
  unfolding be gets
  no-mark h = ap be (free-gets c formed k h room 21 1 (omega arith))

  pub live-mark : not (eqb (be (gets c (place_from k + 21) 1)) 0) ≡ ltb k (length (live_places c))
  live-mark =
      by_test (ltb k (length (live_places c)))
      (λ t. rw (t, mark-read c bytes k (live_at c formed k (ltb-true k (length (live_places c)) t))))
      (λ t. rw (t, no-mark (ltb-false k (length (live_places c)) t)))

-- ---- the head

module _ (c : List ℕ) (long : length c ≡ cell_size current) where
  head_read : (f : ℕ) → field_of (head_fields current) f (take (head_size current) c) ≡ be (gets c (offset (head_fields current) f) (get_or (head_fields current) f 0))
  unfolding size field_of
  head_read f =
      let within : offset (head_fields current) f + get_or (head_fields current) f 0 ≤ (head_size current) = field-within (head_fields current) f in
      rw (numbers-take (head_fields current) c (head_size current) (omega arith)) (field_at (head_fields current) f c (omega arith))

  pub identity-read : (head_of current (take (head_size current) c)).identity ≡ be (gets c 0 8)
  unfolding head_of field_of offset
  identity-read = head_read 0

  pub code_read : (head_of current (take (head_size current) c)).code ≡ be (gets c 8 3)
  unfolding head_of field_of offset
  code_read = head_read 1

  four : (b : List ℕ)
      → all_areas current b ≡ field_of (head_fields current) 3 b ∷ field_of (head_fields current) 4 b ∷ field_of (head_fields current) 5 b ∷ field_of (head_fields current) 6 b ∷ []
  unfolding numbers field_of
  four b = refl

  pub areas-read : (a : Areas) → a.used ≡ be (gets c 11 1) → a.all ≡ be (gets c 12 3) ∷ be (gets c 15 3) ∷ be (gets c 18 3) ∷ be (gets c 21 3) ∷ []
      → HeadAreas (take (head_size current) c) a
  unfolding head_of areas_in field_of offset
  areas-read a u e =
      let b : List ℕ = take (head_size current) c in
      let used : a.used ≡ areas_used current b = u ∙ sym (head_read 2) in
      let all : a.all ≡ all_areas current b = e ∙ rw (four b, head_read 3, head_read 4, head_read 5, head_read 6) in
      record { used = used; four = all; in_use = rw (used, all) }

-- What the converter reads and stores of a place is the widened place, in four parts.
-- The first and the last hold the bytes that stood there; in the second the period, in the third the wait has two zero bytes in front.
use mathlib.Core.Path.{◌≡◌, refl, sym, ap, ◌∙◌}
use mathlib.Core.List.{List, [], ◌∷◌, ◌++◌, append_assoc, append-nil}
use Prim.Native.Nat.{ℕ, ◌+◌, ◌*◌, ◌/◌, ◌^◌, ◌≤◌}
use native.Mathlib.Nat.{add-zero}
use native.Mathlib.Omega.{arith}
use lib.ListN.{length, get_or, length-append}
use lib.Seq.{sets}
use Rattle.octets.specs.Runs.{gets, Bytes}
use Rattle.octets.specs.Numbers.{be, to_be}
use Rattle.octets.specs.Fields.{numbers, bytes_of, offset, field_of}
use Rattle.octets.proofs.RunsLaws.{length-gets, gets-gets, gets_run, bytes-gets, sets-run}
use Rattle.octets.proofs.NumbersLaws.{length-to_be, to_be-gets, to_be_join, be-gets_lt, be-run}
use Rattle.octets.proofs.FieldsLaws.{field_at, field-within}
use Rattle.rules.specs.Layout.{version1, period_in_place, place_fields, place_size}
use Rattle.rules.proofs.LayoutLaws.{place-size}
use Rattle.table_convert.specs.Wide.{wide_place}

-- ---- the bytes of a place

module _ (b : List ℕ) (long : length b ≡ place_size version1) where
  at : (k : ℕ) → be (gets b (offset (place_fields version1) k) (get_or (place_fields version1) k 0)) ≡ field_of (place_fields version1) k b
  at k = sym (field_at (place_fields version1) k b (omega (arith, place-size version1, field-within (place_fields version1) k)))

  pub period-at : be (gets b 8 2) ≡ field_of (place_fields version1) period_in_place b
  unfolding offset
  period-at = at 3

  parts : be (gets b 0 2) ∷ be (gets b 2 2) ∷ be (gets b 4 4) ∷ be (gets b 8 2) ∷ be (gets b 10 2) ∷ be (gets b 12 2) ∷ be (gets b 14 2) ∷ be (gets b 16 1) ∷ be (gets b 17 1) ∷ be (gets b 18 2) ∷ []
      ≡ numbers (place_fields version1) b
  unfolding offset field_of numbers
  parts = rw (at 0, at 1, at 2, at 3, at 4, at 5, at 6, at 7, at 8, at 9)

  module _ (bytes : Bytes b) where
    -- identifier, serial number and content
    first : to_be 2 (be (gets b 0 2)) ++ (to_be 2 (be (gets b 2 2)) ++ to_be 4 (be (gets b 4 4))) ≡ to_be 8 (be (gets b 0 8))
    first =
        rw (to_be-gets 2 b 0 bytes, to_be-gets 2 b 2 bytes, to_be-gets 4 b 4 bytes, to_be-gets 8 b 0 bytes, gets_run 2 b 2 4 4 refl)
        (gets_run 2 b 0 2 6 refl)

    -- period, requested and sent; then the wait
    counts : be (gets b 8 2) * 256 ^ 6 + be (gets b 10 2) * 256 ^ 4 + be (gets b 12 2) * 256 ^ 2 + be (gets b 14 2) ≡ be (gets b 8 8)
    counts = omega (arith, be-run 2 6 b 8 10 refl, be-run 2 4 b 10 12 refl, be-run 2 2 b 12 14 refl)

    second : to_be 4 (be (gets b 8 2)) ++ (to_be 2 (be (gets b 10 2)) ++ to_be 2 (be (gets b 12 2))) ≡ to_be 8 (be (gets b 8 8) / 65536)
    second =
        let p = be-gets_lt 2 8 b bytes in
        let r = be-gets_lt 2 10 b bytes in
        let s = be-gets_lt 2 12 b bytes in
        let w = be-gets_lt 2 14 b bytes in
        rw (to_be_join 2 2 (be (gets b 10 2)) (be (gets b 12 2)) r s, to_be_join 4 4 (be (gets b 8 2)) (be (gets b 10 2) * 256 ^ 2 + be (gets b 12 2)) (omega arith) (omega arith))
        (ap (to_be 8) (omega (arith, counts)))

    -- SIB kind, live and zero
    last : to_be 1 (be (gets b 16 1)) ++ (to_be 1 (be (gets b 17 1)) ++ to_be 2 (be (gets b 18 2))) ≡ to_be 4 (be (gets b 16 4))
    last = rw (to_be-gets 1 b 16 bytes, to_be-gets 1 b 17 bytes, to_be-gets 2 b 18 bytes, to_be-gets 4 b 16 bytes, gets_run 1 b 17 18 2 refl) (gets_run 1 b 16 17 3 refl)

    wide_parts : wide_place b ≡ to_be 8 (be (gets b 0 8)) ++ (to_be 8 (be (gets b 8 8) / 65536) ++ (to_be 4 (be (gets b 14 2)) ++ to_be 4 (be (gets b 16 4))))
    unfolding wide_place bytes_of
    wide_parts = rw (← parts, ← first, ← second, ← last) (simp (append_assoc, append-nil))

-- ---- the stores

module _ (wide cell : List ℕ) (to from : ℕ) (bytes : Bytes cell) where
  -- the place that was read
  abbrev old : List ℕ
  old = gets cell from (place_size version1)

  pub place-stored : {x y w z : ℕ} → x ≡ be (gets cell from 8) → y ≡ be (gets cell (from + 8) 8) → w ≡ be (gets cell (from + 14) 2) → z ≡ be (gets cell (from + 16) 4)
      → {a b c d : List ℕ} → a ≡ sets wide to (to_be 8 x) → b ≡ sets a (to + 8) (to_be 8 (y / 65536)) → c ≡ sets b (to + 16) (to_be 4 w) → d ≡ sets c (to + 20) (to_be 4 z)
      → d ≡ sets wide to (wide_place old)
  place-stored x y w z p q r s =
      let part : (n j : ℕ) → j + n ≤ place_size version1 → be (gets cell (from + j) n) ≡ be (gets old j n) = λ n j h. ap be (sym (gets-gets n (place_size version1) cell from j h)) in
      let start : be (gets cell from 8) ≡ be (gets old 0 8) = rw add-zero at (part 8 0 (omega arith)) in
      let u : List ℕ = to_be 8 (be (gets old 0 8)) in
      let v : List ℕ = to_be 8 (be (gets old 8 8) / 65536) in
      let o : List ℕ = to_be 4 (be (gets old 14 2)) in
      let whole = wide_parts old (length-gets (place_size version1) cell from) (bytes-gets (place_size version1) cell from bytes) in
      rw (s, r, q, p, x ∙ start, y ∙ part 8 8 (omega arith), w ∙ part 2 14 (omega arith), z ∙ part 4 16 (omega arith), whole)
      (rw (sets-run u v wide to (to + 8) (rw length-to_be), sets-run (u ++ v) o wide to (to + 16) (rw (length-append, length-to_be, length-to_be)))
      (sets-run ((u ++ v) ++ o) (to_be 4 (be (gets old 16 4))) wide to (to + 20) (rw (length-append, length-append, length-to_be, length-to_be, length-to_be)) ∙ rw (append_assoc, append_assoc)))

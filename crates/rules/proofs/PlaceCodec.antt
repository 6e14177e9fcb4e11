-- A place and its bytes, by the version, are each other's inverse, and no bytes are both live and free.
-- By the layout's laws.
use mathlib.Core.Path.{◌≡◌, refl, sym, ◌∙◌}
use mathlib.Core.Bool.{Bool, true, false}
use mathlib.Core.List.{List}
use Prim.Native.Nat.{ℕ}
use native.Mathlib.Omega.{arith}
use borrow.Author.Tests.{eqb-true}
use lib.ListN.{length, replicate}
use Rattle.octets.specs.Runs.{Bytes}
use Rattle.octets.specs.Fields.{size, numbers, field_of}
use Rattle.octets.proofs.FieldsLaws.{fit-numbers, bytes_bytes_of, numbers-zeros}
use Rattle.rules.specs.Lists.{zeros}
use Rattle.rules.specs.Layout.{Version, live_in_place, zero_in_place, place_fields, place_size}
use Rattle.rules.specs.Table.{place_of, place_numbers, place_bytes, free_bytes, is_free, is_live}
use Rattle.rules.specs.Sound.{fits}
use Rattle.rules.specs.declared.Place.{Place}
use Rattle.rules.proofs.ListsLaws.{zeros-replicate}
use Rattle.rules.proofs.TestLaws.{both}
use Rattle.rules.proofs.FitLaws.{fits-Fit, Fit-fits, numbers-written, numbers-again, length-written}
use Rattle.rules.proofs.LayoutLaws.{place-size}

module _ (v : Version) where
  -- its numbers are below the limits of their fields
  abbrev pub FitPlace : Place → Type 0
  FitPlace p = fits (place_fields v) (place_numbers p) ≡ true

  -- ---- one place, from bytes

  module _ (b : List ℕ) (bytes : Bytes b) (long : length b ≡ place_size v) (live : is_live v b ≡ true) where
    same_numbers : place_numbers (place_of v b) ≡ numbers (place_fields v) b
    unfolding place_numbers place_of numbers field_of is_live
    same_numbers =
        let h = both _ _ live in
        rw (eqb-true (field_of (place_fields v) live_in_place b) 1 h.0, eqb-true (field_of (place_fields v) zero_in_place b) 0 h.1)

    pub place-back : place_bytes v (place_of v b) ≡ b
    unfolding place_bytes size
    place-back = rw same_numbers (numbers-again (place_fields v) b bytes (long ∙ sym (place-size v)))

    pub place-fits : FitPlace (place_of v b)
    unfolding size
    place-fits = rw same_numbers (Fit-fits (place_fields v) (numbers (place_fields v) b) (fit-numbers (place_fields v) b bytes (omega (arith, place-size v))))

  pub free_back : (b : List ℕ) → is_free b ≡ true → length b ≡ place_size v → b ≡ free_bytes v
  unfolding is_free
  free_back b e n = rw n at (zeros-replicate b e)

  zeros-not-live : (n : ℕ) → is_live v (replicate n 0) ≡ false
  unfolding is_live field_of
  zeros-not-live n = rw (numbers-zeros (place_fields v) n)

  -- no bytes are both live and free
  pub live-not-free : (b : List ℕ) → is_live v b ≡ true → is_free b ≡ false
  unfolding is_free
  live-not-free b live = go (zeros b) refl
    where
      go : (f : Bool) → zeros b ≡ f → f ≡ false
      go false e = refl
      go true e = cc (zeros-replicate b e, zeros-not-live (length b))

  -- ---- one place, to bytes

  pub length-place_bytes : (p : Place) → length (place_bytes v p) ≡ place_size v
  unfolding place_bytes place_numbers size
  length-place_bytes p = length-written (place_fields v) (place_numbers p) refl ∙ place-size v

  module _ (p : Place) (fit : FitPlace p) where
    written : numbers (place_fields v) (place_bytes v p) ≡ place_numbers p
    unfolding place_bytes
    written = numbers-written (place_fields v) (place_numbers p) (fits-Fit (place_fields v) (place_numbers p) fit)

    pub place-again : place_of v (place_bytes v p) ≡ p
    unfolding place_of place_numbers field_of
    place-again = rw written

    pub place-live : is_live v (place_bytes v p) ≡ true
    unfolding is_live place_numbers field_of
    place-live = rw written

    pub place-not-free : is_free (place_bytes v p) ≡ false
    place-not-free = live-not-free (place_bytes v p) place-live

    pub bytes-place_bytes : Bytes (place_bytes v p)
    unfolding place_bytes
    bytes-place_bytes = bytes_bytes_of (place_fields v) (place_numbers p) (fits-Fit (place_fields v) (place_numbers p) fit)

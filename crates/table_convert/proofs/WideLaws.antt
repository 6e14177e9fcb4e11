-- A version 1 place and the widened one say the same: the same numbers, so the same place, live or free. A head has the same fields in both versions.
-- Numbers that fit version 1's fields fit the wider ones, and what is written of numbers that fit says those numbers.
use mathlib.Core.Path.{◌≡◌, refl, sym, ap, ◌∙◌}
use mathlib.Core.Bool.{Bool, true, false≢true}
use mathlib.Core.List.{List}
use Prim.Native.Nat.{ℕ, ◌^◌, ◌<◌}
use native.Mathlib.Omega.{arith}
use lib.ListN.{length, replicate}
use Rattle.octets.specs.Runs.{Bytes}
use Rattle.octets.specs.Numbers.{be, to_be}
use Rattle.octets.specs.Fields.{numbers, bytes_of, Fit, field, field_of}
use Rattle.octets.proofs.FieldsLaws.{length-numbers, fit-numbers, bytes_bytes_of, numbers-zeros}
use Rattle.rules.specs.Lists.{every, zeros}
use Rattle.rules.specs.Layout.{version1, current, place_fields, place_size}
use Rattle.rules.specs.Table.{identity_at, head_of, legal_head, place_of, is_free, is_live}
use Rattle.rules.proofs.ListsLaws.{zeros-replicate}
use Rattle.rules.proofs.TestLaws.{by_test}
use Rattle.rules.proofs.FitLaws.{numbers-written, numbers-again, length-written}
use Rattle.rules.proofs.LayoutLaws.{place-size}
use Rattle.rules.proofs.PlacesCodec.{PlaceRun}
use Rattle.table_judge.specs.Judge.{legal_runs}
use Rattle.table_convert.specs.Wide.{wide_place}

-- ---- a head

pub same_head : (b : List ℕ) → head_of current b ≡ head_of version1 b
unfolding head_of
same_head b = refl

pub same-identity : (b : List ℕ) → identity_at current b ≡ identity_at version1 b
unfolding head_of
same-identity b = refl

pub same-runs : (f : List ℕ → Bool) (bs : List (List ℕ)) → legal_runs current f bs ≡ legal_runs version1 f bs
unfolding legal_runs head_of
same-runs f bs = refl

pub same-legal : (b : List ℕ) → legal_head current b ≡ legal_head version1 b
unfolding legal_head head_of
same-legal b = refl

-- ---- a place

two_in_four : {n : ℕ} → n < 256 ^ 2 → n < 256 ^ 4
two_in_four h = omega arith

-- what fits version 1's fields fits the current ones
wider : {vs : List ℕ} → Fit (place_fields version1) vs → Fit (place_fields current) vs
wider (field a (field b (field c (field d (field e (field f (field g rest))))))) =
    field a (field b (field c (field (two_in_four d) (field e (field f (field (two_in_four g) rest))))))

pub length-wide : (b : List ℕ) → length (wide_place b) ≡ place_size current
unfolding wide_place
length-wide b = length-written (place_fields current) (numbers (place_fields version1) b) (length-numbers (place_fields version1) b) ∙ place-size current

-- a free place, widened and not
no_bytes : zeros (bytes_of (place_fields version1) (replicate 10 0)) ≡ true
unfolding zeros every bytes_of to_be
no_bytes = refl

wide-zeros : zeros (wide_place (replicate (place_size version1) 0)) ≡ true
unfolding zeros every wide_place bytes_of to_be numbers be
wide-zeros = refl

module _ (b : List ℕ) (run : PlaceRun version1 b) where
  fit : Fit (place_fields version1) (numbers (place_fields version1) b)
  fit = fit-numbers (place_fields version1) b run.0 (omega (arith, run.1, place-size version1))

  numbers-wide : numbers (place_fields current) (wide_place b) ≡ numbers (place_fields version1) b
  unfolding wide_place
  numbers-wide = numbers-written (place_fields current) (numbers (place_fields version1) b) (wider fit)

  pub bytes-wide : Bytes (wide_place b)
  unfolding wide_place
  bytes-wide = bytes_bytes_of (place_fields current) (numbers (place_fields version1) b) (wider fit)

  pub place-wide : place_of current (wide_place b) ≡ place_of version1 b
  unfolding place_of field_of
  place-wide = rw numbers-wide

  pub live-wide : is_live current (wide_place b) ≡ is_live version1 b
  unfolding is_live field_of
  live-wide = rw numbers-wide

  -- bytes that are zero where widened were zero before
  all_zero : is_free (wide_place b) ≡ true → is_free b ≡ true
  unfolding is_free bytes_of
  all_zero e =
      let wide : wide_place b ≡ replicate (place_size current) 0 = rw (length-wide b) at (zeros-replicate (wide_place b) e) in
      let none : numbers (place_fields version1) b ≡ replicate 10 0 = sym numbers-wide ∙ ap (numbers (place_fields current)) wide ∙ numbers-zeros (place_fields current) (place_size current) in
      let back : bytes_of (place_fields version1) (numbers (place_fields version1) b) ≡ b = numbers-again (place_fields version1) b run.0 (run.1 ∙ sym (place-size version1)) in
      ap zeros (sym back ∙ ap (bytes_of (place_fields version1)) none) ∙ no_bytes

  pub free-wide : is_free (wide_place b) ≡ is_free b
  unfolding is_free
  free-wide =
      by_test (zeros b)
      (λ e. ap zeros (ap wide_place (rw run.1 at (zeros-replicate b e))) ∙ wide-zeros ∙ sym e)
      (λ e. by_test (zeros (wide_place b)) (λ w. absurd (false≢true (sym e ∙ all_zero w))) (λ w. w ∙ sym e))

-- The two forms of a length, behind what an opening starts with.
use mathlib.Core.Path.{◌≡◌, sym, ap, ◌∙◌}
use mathlib.Core.List.{List, [], ◌∷◌, ◌++◌, append_assoc}
use Prim.Native.Nat.{ℕ, ◌+◌, ◌*◌, ◌/◌, ◌%◌, ◌^◌, ◌<◌, ◌≤◌}
use native.Mathlib.Nat.{add_assoc}
use native.Mathlib.Omega.{arith}
use borrow.Author.Tests.{lt-ltb, le-ltb}
use Rattle.octets.specs.Numbers.{to_be}
use Rattle.octets.proofs.NumbersLaws.{to_be_join}
use Rattle.aper.specs.Elements.{short_length, long_length, length_bytes}
use Rattle.response_write.specs.Parts.{opening}

last_byte : (b : ℕ) → b ∷ [] ≡ to_be 1 b
unfolding to_be
last_byte b = ap (λ (n : ℕ). n ∷ []) (let all : b ≡ b / 1 = omega arith in all)

low_byte : (b : ℕ) → b < 256 → 0 ∷ b ∷ [] ≡ to_be 2 b
unfolding to_be
low_byte b h =
    let none : b / 256 ≡ 0 = omega arith in
    let all : b % 256 / 1 ≡ b = omega arith in
    rw (none, all)

module _ (start : ℕ) (two : start < 256 ^ 2) where
  -- the first byte of a length behind it
  started : (b : ℕ) → b < 256 → to_be 2 start ++ (0 ∷ b ∷ []) ≡ to_be 4 (start * 65536 + b)
  started b h = ap (λ (l : List ℕ). to_be 2 start ++ l) (low_byte b h) ∙ to_be_join 2 2 start b two (omega arith)

  pub short-opening : (n : ℕ) → n < short_length → opening start n ≡ to_be 4 (start * 65536 + n)
  unfolding opening length_bytes
  short-opening n h = rw (lt-ltb n short_length h) (started n (omega arith))

  pub long-opening : (n : ℕ) → short_length ≤ n → n < long_length → opening start n ≡ to_be 4 (start * 65536 + 128 + n / 256) ++ to_be 1 (n % 256)
  unfolding opening length_bytes
  long-opening n h small =
      let first : 128 + n / 256 < 256 = omega arith in
      rw (le-ltb n short_length h, add_assoc, ← started (128 + n / 256) first, ← last_byte (n % 256))
      (sym (append_assoc (to_be 2 start) (0 ∷ (128 + n / 256) ∷ []) (n % 256 ∷ [])))

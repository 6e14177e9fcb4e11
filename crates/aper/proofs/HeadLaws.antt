-- An element with few bytes of contents is told by one number: its first four bytes are its id, its criticality and its length.
use mathlib.Core.Path.{◌≡◌, refl, sym, subst}
use mathlib.Core.List.{List}
use Rattle.std.specs.Prelude.{Some}
use Prim.Native.Nat.{ℕ, ◌+◌, ◌-◌, ◌*◌, ◌/◌, ◌%◌, ◌<◌, ◌≤◌}
use native.Mathlib.Omega.{arith}
use lib.ListN.{length, get_or}
use Rattle.octets.specs.Runs.{gets, Bytes}
use Rattle.octets.specs.Numbers.{be}
use Rattle.octets.proofs.NumbersLaws.{be-run, be-gets_lt}
use Rattle.aper.specs.Readers.{LengthAt, ElementAt}
use Rattle.aper.proofs.LengthLaws.{length-short}
use Rattle.aper.proofs.StepLaws.{one-there}

one_byte : (l : List ℕ) (i : ℕ) → be (gets l i 1) ≡ get_or l i 0
unfolding be gets
one_byte l i = omega arith

-- by its id and its length, without its criticality
module _ (l : List ℕ) (at id size : ℕ) (bytes : Bytes l) (long : at + (4 + size) ≤ length l) (small : id < 65536) (short : size < 128) (some : size ≡ 0 → ⊥)
    (head : ℕ) (here : head ≡ be (gets l at 4)) (same : head / 65536 * 65536 + head % 16384 ≡ id * 65536 + size) where
  parts : (be (gets l at 2) ≡ id) × (be (gets l (at + 2) 1) % 64 ≡ 0) × (get_or l (at + 3) 0 ≡ size)
  parts =
      let first : head / 65536 ≡ id = omega arith in
      let last : head % 16384 ≡ size = omega arith in
      let all : be (gets l at 2) * 65536 + be (gets l (at + 2) 2) ≡ be (gets l at 4) = be-run 2 2 l at (at + 2) refl in
      let later : be (gets l (at + 2) 1) * 256 + be (gets l (at + 3) 1) ≡ be (gets l (at + 2) 2) = be-run 1 1 l (at + 2) (at + 3) (omega arith) in
      let behind : be (gets l (at + 2) 2) < 65536 = be-gets_lt 2 (at + 2) l bytes in
      let byte : be (gets l (at + 3) 1) < 256 = be-gets_lt 1 (at + 3) l bytes in
      (omega arith, omega arith, omega (arith, one_byte l (at + 3)))

  shortly : LengthAt l (at + 3) (Some (record { of = size; start = at + 4 }))
  shortly =
      let e : at + 3 + 1 ≡ at + 4 = omega arith in
      subst (λ (start : ℕ). LengthAt l (at + 3) (Some (record { of = size; start = start }))) e (length-short l (at + 3) size (omega arith) (sym parts.2) short)

  pub short-element : ElementAt l at (Some (record { id = id; criticality = be (gets l (at + 2) 1) / 64; start = at + 4; end = at + (4 + size) }))
  short-element =
      let e : at + 4 + size ≡ at + (4 + size) = omega arith in
      let fits : size ≤ length l - (at + 4) = omega arith in
      subst (λ (end : ℕ). ElementAt l at (Some (record { id = id; criticality = be (gets l (at + 2) 1) / 64; start = at + 4; end = end }))) e
      (one-there l at id (be (gets l (at + 2) 1)) (omega arith) (sym parts.0) refl parts.1 (record { of = size; start = at + 4 }) shortly some fits)

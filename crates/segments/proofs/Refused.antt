-- A refusal: an empty part, or a buffer as it was.
-- By the verdict; an accepted one has the number 0.
use Rattle.std.specs.Prelude.{Ok, Err}
use Rattle.rules.specs.Refusals.{Verdict}
use mathlib.Core.Path.{◌≡◌, refl}
use mathlib.Core.List.{List}
use Prim.Native.Nat.{ℕ, zero, suc}
use lib.ListN.{length}
use Rattle.rules.proofs.OutcomeLaws.{fill-refused}
use Rattle.segments.specs.Segments.{lying, lies_at, segment_verdict, list_bytes, cut_at, pack_verdict, packed}

lying-refused : (v : Verdict) (first more : List ℕ) (k : ℕ) → ((lying v first more k).number ≡ 0 → ⊥)
    → ((lying v first more k).buffer ≡ 0) × ((lying v first more k).start ≡ 0) × ((lying v first more k).length ≡ 0)
unfolding lying
lying-refused (Err x) first more k h = (refl, refl, refl)
lying-refused (Ok tt) first more zero h = absurd (h refl)
lying-refused (Ok tt) first more (suc j) h = absurd (h refl)

pub lies-refused : (first more : List ℕ) (k : ℕ) → ((lies_at first more k).number ≡ 0 → ⊥)
    → ((lies_at first more k).buffer ≡ 0) × ((lies_at first more k).start ≡ 0) × ((lies_at first more k).length ≡ 0)
unfolding lies_at
lies-refused first more k h = lying-refused (segment_verdict more k) first more k h

pub packed-refused : (bytes lengths list : List ℕ) → ((packed bytes lengths list).number ≡ 0 → ⊥) → ((packed bytes lengths list).length ≡ 0) × ((packed bytes lengths list).buffer ≡ list)
unfolding packed
packed-refused bytes lengths list h = fill-refused (pack_verdict bytes lengths (length list)) (list_bytes (cut_at lengths bytes)) list h

-- What is written at the front of a buffer that has room for it: these bytes, and behind them those that were there.
use mathlib.Core.Path.{◌≡◌, refl}
use mathlib.Core.List.{List}
use Prim.Native.Nat.{ℕ, ◌≤◌}
use lib.ListN.{length, take, drop}
use lib.Seq.{sets, drop_at}
use Rattle.octets.proofs.RunsLaws.{sets_front, take-sets_front}

pub record Front (bs buffer : List ℕ) (n : ℕ) (buffer' : List ℕ) : Type 0 where
  pub whole : take n buffer' ≡ bs
  pub behind : drop n buffer' ≡ drop n buffer

pub front : (bs buffer : List ℕ) → length bs ≤ length buffer → (n : ℕ) (buffer' : List ℕ) → n ≡ length bs → buffer' ≡ sets buffer 0 bs → Front bs buffer n buffer'
front bs buffer fits n buffer' e w =
    record {
      whole = rw (e, w) (take-sets_front buffer bs fits);
      behind = rw (e, w, sets_front buffer bs fits) (drop_at bs (drop (length bs) buffer) (length bs) refl);
    }

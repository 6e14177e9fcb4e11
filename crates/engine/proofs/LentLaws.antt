-- A part of a list that was lent, and comes back with the same length: what lies before it and behind it, and stores in it.
-- The list with the part put back is three runs, one behind the other.
use mathlib.Core.Path.{◌≡◌, ◌∙◌}
use mathlib.Core.List.{List, [], ◌++◌, append_assoc, append-nil}
use Prim.Native.Nat.{ℕ, ◌+◌, ◌-◌, ◌≤◌}
use native.Mathlib.Nat.{zero-add}
use native.Mathlib.Omega.{arith}
use borrow.Rule.Slice.PartMut.{put_mid, mid_of}
use lib.ListN.{length, take, drop, length-append, length-drop, drop_of_length-le}
use lib.Seq.{sets, sets-eq, take_at, drop_at, drop-drop, take_all, length-take-le}

module _ (s new : List ℕ) (a k : ℕ) (fits : a + k ≤ length s) (same : length new ≡ k) where
  front : length (take a s ++ new) ≡ a + k
  front = rw (length-append, length-take-le a s (omega arith)) (omega arith)

  pub lent-take : take (a + k) (put_mid a k s new) ≡ take a s ++ new
  lent-take = rw (← append_assoc) (take_at (take a s ++ new) (drop k (drop a s)) (a + k) front)

  pub lent-drop : drop (a + k) (put_mid a k s new) ≡ drop (a + k) s
  lent-drop = rw (← append_assoc) (drop_at (take a s ++ new) (drop k (drop a s)) (a + k) front ∙ drop-drop k a s)

-- stores at the start of a part that reaches to the end
pub lent-sets : (s xs : List ℕ) (o m : ℕ) → o + length xs ≤ length s → m ≡ length s - o → put_mid o m s (sets (mid_of o m s) 0 xs) ≡ sets s o xs
lent-sets s xs o m h e =
    let long : length (drop o s) ≡ m = rw length-drop (omega arith) in
    let whole : take m (drop o s) ≡ drop o s = take_all m (drop o s) (omega arith) in
    let short : length (drop o s) ≤ m = omega arith in
    let rest : drop m (drop o s) ≡ [] = drop_of_length-le (drop o s) short in
    rw (whole, rest, append-nil, sets-eq xs (drop o s) 0 (omega arith), sets-eq xs s o h, zero-add, drop-drop (length xs) o s, append_assoc, append_assoc)

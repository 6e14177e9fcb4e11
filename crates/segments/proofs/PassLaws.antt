-- From what a pass over the list found to where segment k lies.
-- The pass has counted the whole segments and knows where they end, which settles each test of the verdict in turn.
use Rattle.std.specs.Prelude.{Ok, Err}
use mathlib.Core.Path.{◌≡◌, sym, ◌∙◌}
use mathlib.Core.Bool.{true}
use mathlib.Core.List.{List, []}
use Prim.Native.Nat.{ℕ, suc, ◌-◌, ◌<◌, ◌≤◌}
use native.Mathlib.Omega.{arith}
use lib.ListN.{length, get_or}
use borrow.Author.Tests.{le-leb, lt-leb, eq-eqb, ne_eqb}
use Rattle.rules.specs.declared.Refusal.TheVariants.{ListDamaged, TooManySegments, NoSuchSegment}
use Rattle.segments.specs.Segments.{most_segments, list_bytes, segments_of, whole_list, segment_verdict, start_in, lying, lies_at, lies_by}
use Rattle.segments.specs.Within.{Scanned}
use Rattle.segments.specs.declared.read.Part.TheVariants.{First, Listed}
use Rattle.segments.specs.declared.read.Pass.{Pass}

lying-listed : (first more : List ℕ) (k j : ℕ) → k ≡ suc j
    → lying (Ok tt) first more k ≡ record { number = 0; buffer = 1; start = start_in (segments_of more) j; length = length (get_or (segments_of more) j []) }
unfolding lying
lying-listed first more k j e = rw e

module _ (first : List ℕ) {more : List ℕ} {k : ℕ} {r : Pass} (s : Scanned more k r) where
  pub part_damaged : (r.end ≡ length more → ⊥) → lies_by (Err ListDamaged) ≡ lies_at first more k
  unfolding lies_at lying segment_verdict whole_list
  part_damaged h = rw (sym s.ended, ne_eqb r.end (length more) h)

  module _ (ends : r.end ≡ length more) where
    whole : whole_list more ≡ true
    unfolding whole_list
    whole = eq-eqb (length (list_bytes (segments_of more))) (length more) (sym s.ended ∙ ends)

    pub part-too_many : most_segments < r.count → lies_by (Err TooManySegments) ≡ lies_at first more k
    unfolding lies_at lying segment_verdict
    part-too_many h = rw (whole, sym s.counted, lt-leb r.count most_segments h)

    module _ (few : r.count ≤ most_segments) where
      pub part_beyond : r.count < k → lies_by (Err NoSuchSegment) ≡ lies_at first more k
      unfolding lies_at lying segment_verdict
      part_beyond h = rw (whole, sym s.counted, le-leb r.count most_segments few, lt-leb k r.count h)

      found : k ≤ r.count → segment_verdict more k ≡ Ok tt
      unfolding segment_verdict
      found h = rw (whole, sym s.counted, le-leb r.count most_segments few, le-leb k r.count h)

      pub part-first : k ≤ r.count → k ≡ 0 → lies_by (Ok (First (length first))) ≡ lies_at first more k
      unfolding lies_at lying
      part-first h z = rw (found h, z)

      pub part-listed : k ≤ r.count → (k ≡ 0 → ⊥) → lies_by (Ok (Listed r.start r.length)) ≡ lies_at first more k
      unfolding lies_at
      part-listed h z =
          let above : 0 < k = omega (arith, z) in
          rw (found h, lying-listed first more k (k - 1) (omega arith), s.started above h, s.sized above h)

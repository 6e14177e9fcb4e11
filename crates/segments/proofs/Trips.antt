-- Both round trips, of what `pack`, `segment` and `number` promise: what was packed reads back segment by segment, and what was read packs to the same bytes.
-- The promises lead to lists and their bytes, of which ListCodec has both trips.
use Rattle.std.specs.Prelude.{Ok}
use mathlib.Core.Path.{◌≡◌, sym, ap, subst, ◌∙◌}
use mathlib.Core.List.{List, [], ◌∷◌, map}
use Prim.Native.Nat.{ℕ, zero, suc, ◌+◌, ◌<◌, ◌≤◌}
use native.Mathlib.Omega.{arith}
use lib.Dec.{leb}
use lib.ListN.{length, get_or, take, length-map}
use lib.Seq.{sets, ext_get_or}
use borrow.Author.Tests.{le-leb, lt-leb, leb-true, leb-false}
use Rattle.octets.specs.Runs.{Bytes}
use Rattle.octets.proofs.RunsLaws.{take-sets_front}
use Rattle.rules.specs.Refusals.{writing_number, writing_length, number_of, Writing}
use Rattle.rules.specs.Applied.{Filled, fill, filled_by}
use Rattle.rules.specs.declared.Refusal.TheVariants.{NoSuchSegment}
use Rattle.rules.proofs.OnceLaws.{writing_injective}
use Rattle.rules.proofs.OutcomeLaws.{fill-accepted}
use Rattle.rules.proofs.AllLaws.{All}
use Rattle.rules.proofs.TestLaws.{by_test}
use Rattle.segments.specs.Segments.{most_segments, list_bytes, segments_of, whole_list, segment_verdict, segment_of, lying, lies_at, cut_at, pack_verdict, packed}
use Rattle.segments.proofs.ListCodec.{Sayable, in_sayable, segments_packed, packed-whole, packed_segments}
use Rattle.segments.proofs.PartLaws.{AcceptedList, list-accepted, accepted-list, lies-accepted}
use Rattle.segments.proofs.CutLaws.{length_cut_at, cut_sayable, in_row, cut-back, fit-back}
use Rattle.segments.proofs.PackLaws.{AcceptedPack, pack-says, accepted-pack}

number-accepted : (first list : List ℕ) (k : ℕ) → segment_verdict list k ≡ Ok tt → (lies_at first list k).number ≡ 0
unfolding lies_at lying
number-accepted first list zero v = rw v
number-accepted first list (suc j) v = rw v

-- ---- packed, then read

-- `x` and `b` are what `pack` answered and left
module _ (bytes lengths buffer : List ℕ) (x : Writing) (b : List ℕ) (promise : filled_by x b ≡ packed bytes lengths buffer) (ok : writing_number x ≡ 0) where
  verdict : pack_verdict bytes lengths (length buffer) ≡ Ok tt
  unfolding packed
  verdict = fill-accepted (pack_verdict bytes lengths (length buffer)) (list_bytes (cut_at lengths bytes)) buffer (sym (ap (λ (f : Filled). f.number) promise) ∙ ok)

  says : AcceptedPack bytes lengths (length buffer)
  says = pack-says bytes lengths (length buffer) verdict

  -- the bytes of the list that was written
  packed-list : take (writing_length x) b ≡ list_bytes (cut_at lengths bytes)
  unfolding packed fill
  packed-list =
      let whole : filled_by x b ≡ fill (Ok tt) (list_bytes (cut_at lengths bytes)) buffer = promise ∙ ap (λ v. fill v (list_bytes (cut_at lengths bytes)) buffer) verdict in
      ap (λ (f : Filled). take f.length f.buffer) whole ∙ take-sets_front buffer (list_bytes (cut_at lengths bytes)) says.holds

  packed-read : segments_of (take (writing_length x) b) ≡ cut_at lengths bytes
  packed-read = ap segments_of packed-list ∙ segments_packed (cut_sayable lengths bytes says.fit)

  -- every k up to the number of lengths is accepted, and its segment is the one that was given; the first buffer's own for 0
  packed-accepted : (k : ℕ) → k ≤ length lengths → segment_verdict (take (writing_length x) b) k ≡ Ok tt
  packed-accepted k h =
      accepted-list (take (writing_length x) b) k
      (record {
        whole = ap whole_list packed-list ∙ packed-whole (cut_sayable lengths bytes says.fit);
        few = rw (packed-read, length_cut_at lengths bytes) says.few;
        among = rw (packed-read, length_cut_at lengths bytes) h;
      })

  pub packed-segment : (first : List ℕ) (k : ℕ) → k ≤ length lengths → segment_of first (take (writing_length x) b) k ≡ get_or (first ∷ cut_at lengths bytes) k []
  unfolding segment_of
  packed-segment first k h = rw (packed-accepted k h, packed-read)

  pub packed-number : (first : List ℕ) (k : ℕ) → k ≤ length lengths → (lies_at first (take (writing_length x) b) k).number ≡ 0
  packed-number first k h = number-accepted first (take (writing_length x) b) k (packed-accepted k h)

  -- and there is no further one
  pub packed_beyond : (first : List ℕ) (k : ℕ) → length lengths < k → (lies_at first (take (writing_length x) b) k).number ≡ number_of NoSuchSegment
  unfolding lies_at lying segment_verdict
  packed_beyond first k h =
      let a = list-accepted (take (writing_length x) b) 0 (packed-accepted 0 (omega arith)) in
      let many : length (segments_of (take (writing_length x) b)) ≡ length lengths = ap length packed-read ∙ length_cut_at lengths bytes in
      rw (a.whole, many, le-leb (length lengths) most_segments says.few, lt-leb k (length lengths) h)

-- ---- read, then packed

later-accepted : (list : List ℕ) (n k : ℕ) → AcceptedList list n → k ≤ length (segments_of list) → segment_verdict list k ≡ Ok tt
later-accepted list n k a h = accepted-list list k (record { whole = a.whole; few = a.few; among = h })

segment-at : (first list : List ℕ) (k : ℕ) → segment_verdict list (k + 1) ≡ Ok tt → segment_of first list (k + 1) ≡ get_or (segments_of list) k []
unfolding segment_of
segment-at first list k v =
    let one : k + 1 ≡ suc k = omega arith in
    rw v (ap (λ (m : ℕ). get_or (first ∷ segments_of list) m []) one)

-- `number` accepted n and found no further segment, and `ss` are what `segment` handed back for 1 to n
module _ (list : List ℕ) (bytes : Bytes list) (first : List ℕ) (n : ℕ) (last : (lies_at first list n).number ≡ 0) (beyond : (lies_at first list (n + 1)).number ≡ number_of NoSuchSegment)
    (ss : List (List ℕ)) (count : length ss ≡ n) (each : (k : ℕ) → k < n → get_or ss k [] ≡ segment_of first list (k + 1)) where
  accepted : AcceptedList list n
  accepted = list-accepted list n (lies-accepted first list n last)

  all : n ≡ length (segments_of list)
  all =
      by_test (leb (n + 1) (length (segments_of list)))
      (λ t.
      let h = leb-true (n + 1) (length (segments_of list)) t in
      let z = sym (number-accepted first list (n + 1) (later-accepted list n (n + 1) accepted h)) ∙ beyond in
      absurd (omega arith))
      (λ t.
      let h = leb-false (n + 1) (length (segments_of list)) t in
      omega (arith, accepted.among))

  read_all : ss ≡ segments_of list
  read_all = ext_get_or [] ss (segments_of list) (count ∙ all) (λ k h. each k (rw count at h) ∙ at k (rw count at h))
    where
      at : (k : ℕ) → k < n → segment_of first list (k + 1) ≡ get_or (segments_of list) k []
      at k h = segment-at first list k (later-accepted list n (k + 1) accepted (omega (arith, all)))

  -- whatever `pack` answers and leaves where there is room: the same bytes again, and those behind them as they were
  pub read-packed : (buffer : List ℕ) → length list ≤ length buffer → (x : Writing) (b : List ℕ) → filled_by x b ≡ packed (in_row ss) (map length ss) buffer
      → (x ≡ Ok (length list)) × (b ≡ sets buffer 0 list)
  unfolding packed fill segments_of
  read-packed buffer room x b promise =
      let cut : cut_at (map length ss) (in_row ss) ≡ segments_of list = cut-back ss ∙ read_all in
      let same : list_bytes (cut_at (map length ss) (in_row ss)) ≡ list = ap list_bytes cut ∙ packed_segments list bytes accepted.whole in
      let v : pack_verdict (in_row ss) (map length ss) (length buffer) ≡ Ok tt =
      accepted-pack (in_row ss) (map length ss) (length buffer)
      (record {
        fit = fit-back (subst (All Sayable) (sym read_all) (in_sayable (length list) list bytes));
        few = rw (length-map ss length, read_all) accepted.few;
        holds = rw same room;
      }) in
      let w : filled_by x b ≡ record { number = 0; length = length list; buffer = sets buffer 0 list } = promise ∙ rw (v, same) in
      (writing_injective x (Ok (length list)) (ap (λ (f : Filled). f.number) w) (ap (λ (f : Filled). f.length) w), ap (λ (f : Filled). f.buffer) w)

-- A list of segments as bytes: what the segments of a list have, one behind the other, and how the segments are cut from bytes again.
-- A list begins with a whole segment or has none; as many turns as there are bytes are enough.
use mathlib.Core.Path.{◌≡◌, refl, sym, ap, ◌∙◌}
use mathlib.Core.List.{List, [], ◌∷◌, ◌++◌, flat_map, append_assoc}
use Prim.Native.Nat.{ℕ, zero, suc, ◌+◌, ◌-◌, ◌<◌, ◌≤◌}
use native.Mathlib.Omega.{arith}
use lib.Dec.{leb}
use lib.ListN.{length, take, drop, length-append, length-drop}
use lib.Seq.{take-append_seam, drop_at}
use borrow.Author.Tests.{le-leb, lt-leb, leb-true, leb-false}
use Rattle.octets.specs.Numbers.{to_be}
use Rattle.octets.proofs.NumbersLaws.{length-to_be}
use Rattle.rules.proofs.TestLaws.{by_test}
use Rattle.segments.specs.Segments.{length_size, segment_bytes, list_bytes, first_end, first_of, segments_in, segments_of}

-- ---- cutting a list of bytes

pub in_more : (n : ℕ) (l : List ℕ) → first_end l ≤ length l → segments_in (suc n) l ≡ first_of l ∷ segments_in n (drop (first_end l) l)
unfolding segments_in
in_more n l h = rw (le-leb (first_end l) (length l) h)

pub in_none : (n : ℕ) (l : List ℕ) → length l < first_end l → segments_in n l ≡ []
unfolding segments_in
in_none zero l h = refl
in_none (suc n) l h = rw (lt-leb (first_end l) (length l) h)

-- as many turns as there are bytes are enough, and more change nothing
enough : (m n : ℕ) (l : List ℕ) → length l ≤ m → length l ≤ n → segments_in m l ≡ segments_in n l
enough zero n l p q = in_none zero l (omega arith) ∙ sym (in_none n l (omega arith))
enough (suc m) zero l p q = in_none (suc m) l (omega arith) ∙ sym (in_none zero l (omega arith))
enough (suc m) (suc n) l p q =
    by_test (leb (first_end l) (length l))
    (λ t.
    let h = leb-true (first_end l) (length l) t in
    let less : length (drop (first_end l) l) < length l = rw (length-drop (first_end l) l) (omega arith) in
    in_more m l h ∙ ap (λ (ss : List (List ℕ)). first_of l ∷ ss) (enough m n (drop (first_end l) l) (omega arith) (omega arith)) ∙ sym (in_more n l h))
    (λ t.
    let h = leb-false (first_end l) (length l) t in
    in_none (suc m) l h ∙ sym (in_none (suc n) l h))

-- a list begins with a whole segment, or it has none
pub segments_more : (l : List ℕ) → first_end l ≤ length l → segments_of l ≡ first_of l ∷ segments_of (drop (first_end l) l)
unfolding segments_of
segments_more l h =
    let e : length l ≡ suc (length l - 1) = omega arith in
    let less : length (drop (first_end l) l) < length l = rw (length-drop (first_end l) l) (omega arith) in
    ap (λ (n : ℕ). segments_in n l) e ∙ in_more (length l - 1) l h
    ∙ ap (λ (ss : List (List ℕ)). first_of l ∷ ss) (enough (length l - 1) (length (drop (first_end l) l)) (drop (first_end l) l) (omega arith) (omega arith))

pub segments_none : (l : List ℕ) → length l < first_end l → segments_of l ≡ []
unfolding segments_of
segments_none l h = in_none (length l) l h

-- ---- the bytes of segments

pub length-segment : (s : List ℕ) → length (segment_bytes s) ≡ length_size + length s
unfolding segment_bytes
length-segment s = length-append (to_be length_size (length s)) s ∙ ap (λ (n : ℕ). n + length s) (length-to_be length_size (length s))

pub list_cons : (s : List ℕ) (ss : List (List ℕ)) → list_bytes (s ∷ ss) ≡ segment_bytes s ++ list_bytes ss
unfolding list_bytes flat_map
list_cons s ss = refl

length-list-one : (s : List ℕ) → length (list_bytes (s ∷ [])) ≡ length_size + length s
unfolding list_bytes flat_map
length-list-one s = length-append (segment_bytes s) [] ∙ rw (length-segment s) (omega arith)

pub list_append : (ss ts : List (List ℕ)) → list_bytes (ss ++ ts) ≡ list_bytes ss ++ list_bytes ts
unfolding list_bytes flat_map
list_append [] ts = refl
list_append (s ∷ ss) ts = ap (λ (l : List ℕ). segment_bytes s ++ l) (list_append ss ts) ∙ sym (append_assoc (segment_bytes s) (list_bytes ss) (list_bytes ts))

pub length-list-more : (ss : List (List ℕ)) (s : List ℕ) → length (list_bytes (ss ++ (s ∷ []))) ≡ length (list_bytes ss) + (length_size + length s)
length-list-more ss s =
    ap length (list_append ss (s ∷ [])) ∙ length-append (list_bytes ss) (list_bytes (s ∷ [])) ∙ ap (λ (n : ℕ). length (list_bytes ss) + n) (length-list-one s)

-- what stands behind the length that a list begins with
pub behind-length : (s rest : List ℕ) → take (length s) (drop length_size (segment_bytes s ++ rest)) ≡ s
unfolding segment_bytes
behind-length s rest =
    ap (λ (l : List ℕ). take (length s) (drop length_size l)) (append_assoc (to_be length_size (length s)) s rest)
    ∙ ap (take (length s)) (drop_at (to_be length_size (length s)) (s ++ rest) length_size (length-to_be length_size (length s)))
    ∙ take-append_seam s rest

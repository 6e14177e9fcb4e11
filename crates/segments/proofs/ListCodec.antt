-- A list of segments, its bytes and its segments: each is found again from the other, so a list has one packing.
-- By the first segment of the list, and then the rest.
use mathlib.Core.Path.{◌≡◌, refl, sym, ap, ◌∙◌}
use mathlib.Core.Bool.{true}
use mathlib.Core.List.{List, [], ◌∷◌, ◌++◌, flat_map, append_assoc}
use Prim.Native.Nat.{ℕ, zero, suc, ◌+◌, ◌^◌, ◌<◌, ◌≤◌}
use native.Mathlib.Omega.{arith}
use lib.Dec.{leb}
use lib.ListN.{length, take, drop, length-append, length-drop}
use lib.Seq.{length-take-le, take_all, take_at, drop_at, take-add}
use borrow.Author.Tests.{leb-true, leb-false, eq-eqb, eqb-true}
use Rattle.octets.specs.Runs.{Bytes}
use Rattle.octets.specs.Numbers.{to_be, be}
use Rattle.octets.proofs.RunsLaws.{bytes_take, bytes_drop}
use Rattle.octets.proofs.NumbersLaws.{be_lt, length-to_be, be-to_be, to_be-be}
use Rattle.rules.proofs.AllLaws.{All, none, more}
use Rattle.rules.proofs.TestLaws.{by_test}
use Rattle.segments.specs.Segments.{length_size, longest_segment, segment_bytes, list_bytes, first_length, first_end, first_of, segments_in, segments_of, whole_list}
use Rattle.segments.proofs.ListLaws.{in_more, in_none, segments_more, segments_none, length-segment, list_cons, behind-length}

-- a segment that a length can say
abbrev pub Sayable : List ℕ → Type 0
Sayable s = length s ≤ longest_segment

-- ---- packed, then read

first-packed : (s rest : List ℕ) → Sayable s → first_length (segment_bytes s ++ rest) ≡ length s
unfolding first_length segment_bytes
first-packed s rest h =
    ap (λ (l : List ℕ). be (take length_size l)) (append_assoc (to_be length_size (length s)) s rest)
    ∙ ap be (take_at (to_be length_size (length s)) (s ++ rest) length_size (length-to_be length_size (length s)))
    ∙ be-to_be length_size (length s) (omega arith)

rest-packed : (s rest : List ℕ) → Sayable s → drop (first_end (segment_bytes s ++ rest)) (segment_bytes s ++ rest) ≡ rest
rest-packed s rest h = drop_at (segment_bytes s) rest (first_end (segment_bytes s ++ rest)) (length-segment s ∙ ap (λ (n : ℕ). length_size + n) (sym (first-packed s rest h)))

own-packed : (s rest : List ℕ) → Sayable s → first_of (segment_bytes s ++ rest) ≡ s
own-packed s rest h = ap (λ (n : ℕ). take n (drop length_size (segment_bytes s ++ rest))) (first-packed s rest h) ∙ behind-length s rest

packed-whole-first : (s rest : List ℕ) → Sayable s → segments_of (segment_bytes s ++ rest) ≡ s ∷ segments_of rest
packed-whole-first s rest h =
    let fits : first_end (segment_bytes s ++ rest) ≤ length (segment_bytes s ++ rest) =
    rw (length-append (segment_bytes s) rest, length-segment s, first-packed s rest h) (omega arith) in
    segments_more (segment_bytes s ++ rest) fits ∙ rw (own-packed s rest h, rest-packed s rest h)

-- reading what was packed gives each segment back
pub segments_packed : {ss : List (List ℕ)} → All Sayable ss → segments_of (list_bytes ss) ≡ ss
unfolding list_bytes flat_map
segments_packed none = segments_none [] (omega arith)
segments_packed (more {x = s} {xs = ss} h hs) = packed-whole-first s (list_bytes ss) h ∙ ap (λ (ts : List (List ℕ)). s ∷ ts) (segments_packed hs)

pub packed-whole : {ss : List (List ℕ)} → All Sayable ss → whole_list (list_bytes ss) ≡ true
unfolding whole_list
packed-whole {ss} h = eq-eqb (length (list_bytes (segments_of (list_bytes ss)))) (length (list_bytes ss)) (ap (λ (ts : List (List ℕ)). length (list_bytes ts)) (segments_packed h))

-- ---- read, then packed

-- where the whole segments of a list end
abbrev end_of : List ℕ → ℕ
end_of l = length (list_bytes (segments_of l))

first_back : (l : List ℕ) → Bytes l → first_end l ≤ length l → segment_bytes (first_of l) ≡ take (first_end l) l
unfolding segment_bytes first_length
first_back l bytes h =
    let n = first_length l in
    let room : n ≤ length (drop length_size l) = rw (length-drop length_size l) (omega arith) in
    let two : length (take length_size l) ≡ length_size = length-take-le length_size l (omega arith) in
    let says : to_be length_size n ≡ take length_size l = ap (λ (w : ℕ). to_be w n) (sym two) ∙ to_be-be (take length_size l) (bytes_take length_size l bytes) in
    ap (λ (m : ℕ). to_be length_size m ++ first_of l) (length-take-le n (drop length_size l) room) ∙ ap (λ (t : List ℕ). t ++ first_of l) says
    ∙ sym (take-add length_size n l)

front_more : (n : ℕ) (l : List ℕ) → Bytes l → first_end l ≤ length l → (let rest = list_bytes (segments_in n (drop (first_end l) l)) in
    rest ≡ take (length rest) (drop (first_end l) l) → list_bytes (first_of l ∷ segments_in n (drop (first_end l) l)) ≡ take (length (list_bytes (first_of l ∷ segments_in n (drop (first_end l) l)))) l)
front_more n l bytes h e =
    let ss = segments_in n (drop (first_end l) l) in
    let long : length (list_bytes (first_of l ∷ ss)) ≡ first_end l + length (list_bytes ss) =
    ap length (list_cons (first_of l) ss) ∙ length-append (segment_bytes (first_of l)) (list_bytes ss) ∙ ap (λ (b : List ℕ). length b + length (list_bytes ss)) (first_back l bytes h)
    ∙ ap (λ (m : ℕ). m + length (list_bytes ss)) (length-take-le (first_end l) l h) in
    list_cons (first_of l) ss ∙ ap (λ (b : List ℕ). b ++ list_bytes ss) (first_back l bytes h) ∙ ap (λ (b : List ℕ). take (first_end l) l ++ b) e
    ∙ sym (take-add (first_end l) (length (list_bytes ss)) l) ∙ ap (λ (m : ℕ). take m l) (sym long)

-- the whole segments of a list, packed, are the bytes that it begins with
front_back : (n : ℕ) (l : List ℕ) → Bytes l → list_bytes (segments_in n l) ≡ take (length (list_bytes (segments_in n l))) l
unfolding segments_in list_bytes flat_map
front_back zero l bytes = refl
front_back (suc n) l bytes =
    by_test (leb (first_end l) (length l))
    (λ t. rw (in_more n l (leb-true (first_end l) (length l) t)) (front_more n l bytes (leb-true (first_end l) (length l) t) (front_back n (drop (first_end l) l) (bytes_drop (first_end l) l bytes))))
    (λ t. rw (in_none (suc n) l (leb-false (first_end l) (length l) t)))

-- packing what was read gives the same bytes
pub packed_segments : (l : List ℕ) → Bytes l → whole_list l ≡ true → list_bytes (segments_of l) ≡ l
unfolding whole_list segments_of
packed_segments l bytes w =
    let e : end_of l ≡ length l = eqb-true (end_of l) (length l) w in
    front_back (length l) l bytes ∙ take_all (end_of l) l (omega arith)

-- each list has one packing
pub one_packing : (l m : List ℕ) → Bytes l → Bytes m → whole_list l ≡ true → whole_list m ≡ true → segments_of l ≡ segments_of m → l ≡ m
one_packing l m bl bm wl wm e = sym (packed_segments l bl wl) ∙ ap list_bytes e ∙ packed_segments m bm wm

-- ---- what a length can say

-- no segment that a list of bytes holds is longer than two bytes can say
first_sayable : (l : List ℕ) → Bytes l → first_end l ≤ length l → Sayable (first_of l)
unfolding first_length
first_sayable l bytes h =
    let room : first_length l ≤ length (drop length_size l) = rw (length-drop length_size l) (omega arith) in
    let two : length (take length_size l) ≡ length_size = length-take-le length_size l (omega arith) in
    let small : first_length l < 256 ^ length_size = rw two at (be_lt (take length_size l) (bytes_take length_size l bytes)) in
    rw (length-take-le (first_length l) (drop length_size l) room) (omega arith)

pub in_sayable : (n : ℕ) (l : List ℕ) → Bytes l → All Sayable (segments_in n l)
unfolding segments_in
in_sayable zero l bytes = none
in_sayable (suc n) l bytes =
    by_test (leb (first_end l) (length l))
    (λ t.
    let h = leb-true (first_end l) (length l) t in
    rw (in_more n l h) (more (first_sayable l bytes h) (in_sayable n (drop (first_end l) l) (bytes_drop (first_end l) l bytes))))
    (λ t. rw (in_none (suc n) l (leb-false (first_end l) (length l) t)) none)

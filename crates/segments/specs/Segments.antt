-- Document 02, 1/13: a text in segments. The first SIB message lies in a buffer of its own, whole; the list has the additional ones, each behind its length, back to back.
use Rattle.std.specs.Prelude.{Bool, cond, ◌&&◌, ℕ, zero, suc, ◌+◌, eqb, leb, length, get_or, take, drop, Result, Ok, Err}
use mathlib.Core.List.{List, [], ◌∷◌, ◌++◌, flat_map}
use Rattle.octets.specs.Numbers.{be, to_be}
use Rattle.rules.specs.Lists.{every}
use Rattle.rules.specs.Refusals.{number_of, refuse_unless, ◌then◌, Verdict}
use Rattle.rules.specs.Applied.{Filled, fill}
use Rattle.rules.specs.declared.Refusal.{Refusal}
use Rattle.rules.specs.declared.Refusal.TheVariants.{ListDamaged, TooManySegments, NoSuchSegment, ShortBuffer}
use Rattle.segments.specs.declared.read.Part.{Part}
use Rattle.segments.specs.declared.read.Part.TheVariants.{First, Listed}

-- a length stands in two bytes
abbrev pub length_size : ℕ
length_size = 2

abbrev pub longest_segment : ℕ
longest_segment = 65535

-- "up to 63 more"
abbrev pub most_segments : ℕ
most_segments = 63

-- ---- a list's bytes

-- a segment behind its length
unfoldable pub segment_bytes : List ℕ → List ℕ
segment_bytes s = to_be length_size (length s) ++ s

-- "back to back"
unfoldable pub list_bytes : List (List ℕ) → List ℕ
list_bytes ss = flat_map segment_bytes ss

-- the length that a list begins with, where the segment behind it ends, and that segment
unfoldable pub first_length : List ℕ → ℕ
first_length l = be (take length_size l)

abbrev pub first_end : List ℕ → ℕ
first_end l = length_size + first_length l

abbrev pub first_of : List ℕ → List ℕ
first_of l = take (first_length l) (drop length_size l)

-- the segments that a list begins with, up to the first that is not whole, and n of them at most
unfoldable pub segments_in : ℕ → List ℕ → List (List ℕ)
segments_in zero l = []
segments_in (suc n) l =
    cond (leb (first_end l) (length l)) (first_of l ∷ segments_in n (drop (first_end l) l)) []

-- all of them: each has two bytes at least, so there are no more than bytes
unfoldable pub segments_of : List ℕ → List (List ℕ)
segments_of l = segments_in (length l) l

-- nothing is left behind the last whole segment: neither a part of a length nor a part of a segment
unfoldable pub whole_list : List ℕ → Bool
whole_list l = eqb (length (list_bytes (segments_of l))) (length l)

-- ---- reading segment k: 10, 11, 12. The list is judged for every k, 0 too

unfoldable pub segment_verdict : List ℕ → ℕ → Verdict
segment_verdict more k =
    refuse_unless (whole_list more) ListDamaged
    then refuse_unless (leb (length (segments_of more)) most_segments) TooManySegments
    then refuse_unless (leb k (length (segments_of more))) NoSuchSegment

-- "A refusal hands back an empty part"
abbrev unless_refused : Verdict → List ℕ → List ℕ
unless_refused (Ok tt) s = s
unless_refused (Err x) s = []

-- the first buffer for k = 0, the k-th of the list otherwise
unfoldable pub segment_of : List ℕ → List ℕ → ℕ → List ℕ
segment_of first more k = unless_refused (segment_verdict more k) (get_or (first ∷ segments_of more) k [])

-- ---- where it lies: in buffer 0, the first, or 1, the list; all 0 but the number if refused

pub record Lies : Type 0 where
  pub number : ℕ
  pub buffer : ℕ
  pub start : ℕ
  pub length : ℕ

-- behind the segments before it and its own length
unfoldable pub start_in : List (List ℕ) → ℕ → ℕ
start_in ss j = length (list_bytes (take j ss)) + length_size

unfoldable pub lying : Verdict → List ℕ → List ℕ → ℕ → Lies
lying (Err x) first more k = record { number = number_of x; buffer = 0; start = 0; length = 0 }
lying (Ok tt) first more zero = record { number = 0; buffer = 0; start = 0; length = length first }
lying (Ok tt) first more (suc j) =
    record { number = 0; buffer = 1; start = start_in (segments_of more) j; length = length (get_or (segments_of more) j []) }

unfoldable pub lies_at : List ℕ → List ℕ → ℕ → Lies
lies_at first more k = lying (segment_verdict more k) first more k

-- the bytes that lie there
abbrev pub bytes_at : List ℕ → List ℕ → Lies → List ℕ
bytes_at first more p = take p.length (drop p.start (cond (eqb p.buffer 0) first more))

-- what a part, or the refusal in its place, says: document 02's number and values for each of the cases
abbrev pub lies_by : Result Part Refusal → Lies
lies_by (Ok (First n)) = record { number = 0; buffer = 0; start = 0; length = n }
lies_by (Ok (Listed start n)) = record { number = 0; buffer = 1; start = start; length = n }
lies_by (Err x) = record { number = number_of x; buffer = 0; start = 0; length = 0 }

-- "the caller's own bytes": where in memory a part begins, as a block and an offset, from where the two buffers do
unfoldable pub lent_from : ℕ × ℕ → ℕ × ℕ → Lies → ℕ × ℕ
lent_from first more p = cond (eqb p.buffer 0) (first.0, p.start + first.1) (more.0, p.start + more.1)

-- ---- packing: 10, 11, 8

unfoldable pub total : List ℕ → ℕ
total [] = 0
total (n ∷ ns) = n + total ns

-- bytes cut at the lengths, one behind the other
unfoldable pub cut_at : List ℕ → List ℕ → List (List ℕ)
cut_at [] bytes = []
cut_at (n ∷ ns) bytes = take n bytes ∷ cut_at ns (drop n bytes)

-- "the lengths don't add up to the bytes, or one exceeds 65,535"
unfoldable pub lengths_fit : List ℕ → ℕ → Bool
lengths_fit lengths bytes = eqb (total lengths) bytes && every (λ n. leb n longest_segment) lengths

unfoldable pub pack_verdict : List ℕ → List ℕ → ℕ → Verdict
pack_verdict bytes lengths room =
    refuse_unless (lengths_fit lengths (length bytes)) ListDamaged
    then refuse_unless (leb (length lengths) most_segments) TooManySegments
    then refuse_unless (leb (length (list_bytes (cut_at lengths bytes))) room) ShortBuffer

-- the list at the start of the buffer; bytes behind it stay
unfoldable pub packed : List ℕ → List ℕ → List ℕ → Filled
packed bytes lengths buffer = fill (pack_verdict bytes lengths (length buffer)) (list_bytes (cut_at lengths bytes)) buffer

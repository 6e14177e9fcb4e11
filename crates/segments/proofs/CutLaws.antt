-- Bytes cut at lengths that fit them: so many segments, each of which a length can say, and the bytes of their list.
-- By the lengths, one after the other; segments in a row, cut at their own lengths, are themselves again.
use mathlib.Core.Path.{◌≡◌, refl, sym, ap, ◌∙◌}
use mathlib.Core.Bool.{true}
use mathlib.Core.List.{List, [], ◌∷◌, ◌++◌, map, flat_map}
use Prim.Native.Nat.{ℕ, suc, ◌+◌, ◌-◌, ◌*◌}
use native.Mathlib.Omega.{arith}
use lib.ListN.{length, take, drop, length-append, length-drop}
use lib.Seq.{take-append_seam, drop-append_seam, length-take-le}
use borrow.Author.Tests.{eqb-true}
use Rattle.rules.proofs.AllLaws.{All, none, more}
use Rattle.segments.specs.Segments.{length_size, segment_bytes, list_bytes, cut_at, lengths_fit}
use Rattle.segments.proofs.ListLaws.{length-segment}
use Rattle.segments.proofs.ListCodec.{Sayable}
use Rattle.segments.proofs.LengthsLaws.{fit-first, fit_next, fit_none}

-- each segment has its own bytes and those of its length
pub length_cut : (ns bs : List ℕ) → lengths_fit ns (length bs) ≡ true → length (list_bytes (cut_at ns bs)) ≡ length_size * length ns + length bs
unfolding cut_at list_bytes flat_map
length_cut [] bs e =
    let z = eqb-true (length bs) 0 (sym (fit_none (length bs)) ∙ e) in
    omega arith
length_cut (n ∷ ns) bs e =
    let h = fit-first n ns (length bs) e in
    let rest : lengths_fit ns (length (drop n bs)) ≡ true = rw (length-drop n bs) (sym (fit_next n ns (length bs) h.0 h.1) ∙ e) in
    let long : length (drop n bs) ≡ length bs - n = length-drop n bs in
    length-append (segment_bytes (take n bs)) (list_bytes (cut_at ns (drop n bs)))
    ∙ rw (length-segment (take n bs), length-take-le n bs h.1, length_cut ns (drop n bs) rest) (omega (arith, h.1))

pub length_cut_at : (ns bs : List ℕ) → length (cut_at ns bs) ≡ length ns
unfolding cut_at
length_cut_at [] bs = refl
length_cut_at (n ∷ ns) bs = ap suc (length_cut_at ns (drop n bs))

pub cut_sayable : (ns bs : List ℕ) → lengths_fit ns (length bs) ≡ true → All Sayable (cut_at ns bs)
unfolding cut_at
cut_sayable [] bs e = none
cut_sayable (n ∷ ns) bs e =
    let h = fit-first n ns (length bs) e in
    let rest : lengths_fit ns (length (drop n bs)) ≡ true = rw (length-drop n bs) (sym (fit_next n ns (length bs) h.0 h.1) ∙ e) in
    let short : Sayable (take n bs) = rw (length-take-le n bs h.1) h.0 in
    more short (cut_sayable ns (drop n bs) rest)

-- and back: segments in a row, cut at their own lengths
abbrev pub in_row : List (List ℕ) → List ℕ
in_row ss = flat_map (λ s. s) ss

pub cut-back : (ss : List (List ℕ)) → cut_at (map length ss) (in_row ss) ≡ ss
unfolding cut_at flat_map
cut-back [] = refl
cut-back (s ∷ ss) = rw (take-append_seam s (in_row ss), drop-append_seam s (in_row ss), cut-back ss)

pub fit-back : {ss : List (List ℕ)} → All Sayable ss → lengths_fit (map length ss) (length (in_row ss)) ≡ true
unfolding flat_map
fit-back none = fit_none 0
fit-back (more {x = s} {xs = ss} h hs) =
    let sum : length (s ++ in_row ss) ≡ length s + length (in_row ss) = length-append s (in_row ss) in
    let rest : length (s ++ in_row ss) - length s ≡ length (in_row ss) = omega arith in
    fit_next (length s) (map length ss) (length (s ++ in_row ss)) h (omega arith) ∙ ap (lengths_fit (map length ss)) rest ∙ fit-back hs

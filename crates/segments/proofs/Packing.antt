-- A list packed segment by segment: what is still to be stored, stored behind what stands there, gives the whole list.
-- A turn stores one segment, which is the first of the list still to come.
use mathlib.Core.Path.{◌≡◌, refl, sym, ap, ◌∙◌}
use mathlib.Core.Bool.{true}
use mathlib.Core.List.{List, ◌∷◌, ◌++◌, flat_map}
use Prim.Native.Nat.{ℕ, suc, ◌+◌, ◌-◌, ◌*◌, ◌<◌, ◌≤◌}
use native.Mathlib.Nat.{add-sub_cancel_left}
use native.Mathlib.Omega.{arith}
use lib.ListN.{length, get_or, take, drop, length-drop, drop_of_length-le}
use lib.Seq.{sets, length-take-le, length-sets, drop-cons, drop-drop}
use Rattle.octets.specs.Numbers.{to_be}
use Rattle.octets.proofs.RunsLaws.{sets-run}
use Rattle.octets.proofs.NumbersLaws.{length-to_be}
use Rattle.segments.specs.Segments.{length_size, longest_segment, segment_bytes, list_bytes, cut_at, lengths_fit}
use Rattle.segments.specs.Within.{ToPack}
use Rattle.segments.proofs.ListLaws.{length-segment, list_cons}
use Rattle.segments.proofs.LengthsLaws.{fit_next, fit-first}

-- ---- one segment

-- the length is stored, and the segment behind it
pub segment-stored : (list mid list' segment : List ℕ) (at : ℕ) → mid ≡ sets list at (to_be length_size (length segment)) → list' ≡ sets mid (at + length_size) segment
    → list' ≡ sets list at (segment_bytes segment)
unfolding segment_bytes
segment-stored list mid list' segment at e e' =
    e' ∙ ap (λ (l : List ℕ). sets l (at + length_size) segment) e
    ∙ sets-run (to_be length_size (length segment)) segment list at (at + length_size) (ap (λ (n : ℕ). at + n) (sym (length-to_be length_size (length segment))))

-- ---- the loop

pub record Packing (bytes lengths list₀ list : List ℕ) (from at k : ℕ) : Type 0 where
  pub counted : k ≤ length lengths
  pub within : from ≤ length bytes
  pub fit : lengths_fit (drop k lengths) (length bytes - from) ≡ true
  pub room : at + (length_size * (length lengths - k) + (length bytes - from)) ≤ length list
  pub same : length list ≡ length list₀
  pub left : sets list₀ 0 (list_bytes (cut_at lengths bytes)) ≡ sets list at (list_bytes (cut_at (drop k lengths) (drop from bytes)))

pub packing_starts : (bytes lengths list : List ℕ) → ToPack bytes lengths (length list) → Packing bytes lengths list list 0 0 0
packing_starts bytes lengths list p =
    let none : length bytes - 0 ≡ length bytes = omega arith in
    record {
      counted = omega arith;
      within = omega arith;
      fit = ap (lengths_fit lengths) none ∙ p.fit;
      room = omega (arith, p.holds);
      same = refl;
      left = refl;
    }

module _ {bytes lengths list₀ list : List ℕ} {from at k : ℕ} (g : Packing bytes lengths list₀ list from at k) where
  -- n is the length of the next segment
  module _ (more : k < length lengths) (n : ℕ) (is : get_or lengths k 0 ≡ n) where
    next : drop k lengths ≡ n ∷ drop (suc k) lengths
    next = drop-cons lengths k 0 more ∙ ap (λ (m : ℕ). m ∷ drop (suc k) lengths) is

    still : lengths_fit (n ∷ drop (suc k) lengths) (length bytes - from) ≡ true
    still = sym (ap (λ (ns : List ℕ). lengths_fit ns (length bytes - from)) next) ∙ g.fit

    pub next-short : n ≤ longest_segment
    next-short = (fit-first n (drop (suc k) lengths) (length bytes - from) still).0

    pub next-within : from + n ≤ length bytes
    next-within = omega (arith, (fit-first n (drop (suc k) lengths) (length bytes - from) still).1, g.within)

    -- the bytes that are lent for it
    own : take (from + n - from) (drop from bytes) ≡ take n (drop from bytes)
    own = ap (λ (m : ℕ). take m (drop from bytes)) (add-sub_cancel_left from n)

    pub own-long : length (take (from + n - from) (drop from bytes)) ≡ n
    own-long = ap length own ∙ length-take-le n (drop from bytes) (rw (length-drop from bytes) (omega (arith, next-within)))

    pub next-room : at + (length_size + length (take (from + n - from) (drop from bytes))) ≤ length list
    next-room = omega (arith, own-long, g.room, next-within)

    -- the list from the next segment on: that one, and the list behind it
    next-list : list_bytes (cut_at (drop k lengths) (drop from bytes)) ≡ segment_bytes (take (from + n - from) (drop from bytes)) ++ list_bytes (cut_at (drop (suc k) lengths) (drop (from + n) bytes))
    unfolding cut_at
    next-list =
        ap (λ (ns : List ℕ). list_bytes (cut_at ns (drop from bytes))) next ∙ list_cons (take n (drop from bytes)) (cut_at (drop (suc k) lengths) (drop n (drop from bytes)))
        ∙ ap (λ (s : List ℕ). segment_bytes s ++ list_bytes (cut_at (drop (suc k) lengths) (drop n (drop from bytes)))) (sym own)
        ∙ ap (λ (b : List ℕ). segment_bytes (take (from + n - from) (drop from bytes)) ++ list_bytes (cut_at (drop (suc k) lengths) b)) (drop-drop n from bytes)

    moved : (list' : List ℕ) → list' ≡ sets list at (segment_bytes (take (from + n - from) (drop from bytes)))
        → sets list at (list_bytes (cut_at (drop k lengths) (drop from bytes))) ≡ sets list' (at + (length_size + n)) (list_bytes (cut_at (drop (suc k) lengths) (drop (from + n) bytes)))
    moved list' e =
        let seam : at + (length_size + n) ≡ at + length (segment_bytes (take (from + n - from) (drop from bytes))) = rw (length-segment (take (from + n - from) (drop from bytes)), own-long) in
        ap (sets list at) next-list
        ∙ sym (sets-run (segment_bytes (take (from + n - from) (drop from bytes))) (list_bytes (cut_at (drop (suc k) lengths) (drop (from + n) bytes))) list at (at + (length_size + n)) seam)
        ∙ ap (λ (l : List ℕ). sets l (at + (length_size + n)) (list_bytes (cut_at (drop (suc k) lengths) (drop (from + n) bytes)))) (sym e)

    pub packing_goes : (list' : List ℕ) → list' ≡ sets list at (segment_bytes (take (from + n - from) (drop from bytes))) → Packing bytes lengths list₀ list' (from + n) (at + (length_size + n)) (k + 1)
    packing_goes list' e =
        let one : suc k ≡ k + 1 = omega arith in
        let less : length bytes - from - n ≡ length bytes - (from + n) = omega arith in
        let long : length list' ≡ length list = ap length e ∙ length-sets list at (segment_bytes (take (from + n - from) (drop from bytes))) in
        record {
          counted = omega arith;
          within = next-within;
          fit = ap (λ (m : ℕ). lengths_fit (drop m lengths) (length bytes - (from + n))) (sym one) ∙ ap (lengths_fit (drop (suc k) lengths)) (sym less)
              ∙ sym (fit_next n (drop (suc k) lengths) (length bytes - from) next-short (omega (arith, next-within))) ∙ still;
          room = omega (arith, long, g.room, next-within);
          same = long ∙ g.same;
          left = g.left ∙ moved list' e ∙ ap (λ (m : ℕ). sets list' (at + (length_size + n)) (list_bytes (cut_at (drop m lengths) (drop (from + n) bytes)))) one;
        }

  pub packing_ends : length lengths ≤ k → list ≡ sets list₀ 0 (list_bytes (cut_at lengths bytes))
  unfolding cut_at list_bytes flat_map
  packing_ends h = sym (g.left ∙ ap (λ (ns : List ℕ). sets list at (list_bytes (cut_at ns (drop from bytes)))) (drop_of_length-le lengths h))

-- One pass over a list: between two segments, those that were passed are the first of the list's, and the bytes still to come hold the rest.
-- A turn passes the first segment of what is still to come; where that has no whole one, all were passed.
use mathlib.Core.Path.{◌≡◌, refl, sym, ap, ◌∙◌}
use mathlib.Core.List.{List, [], ◌∷◌, flat_map}
use Prim.Native.Nat.{ℕ, suc, ◌+◌, ◌-◌, ◌<◌, ◌≤◌}
use native.Mathlib.Omega.{arith}
use lib.ListN.{length, get_or, take, drop, length-drop}
use lib.Seq.{length-take-le, take_all, take-suc, drop-cons, drop-drop}
use Rattle.octets.specs.Runs.{gets}
use Rattle.octets.specs.Numbers.{be}
use Rattle.octets.proofs.RunsLaws.{gets_eq}
use Rattle.segments.specs.Segments.{length_size, first_length, first_end, first_of, list_bytes, segments_of, start_in}
use Rattle.segments.specs.Within.{Scanned}
use Rattle.segments.specs.declared.read.Pass.{Pass}
use Rattle.segments.proofs.ListLaws.{segments_more, segments_none, length-list-more}

pub record Scanning (l : List ℕ) (k count end start size : ℕ) : Type 0 where
  pub within : end ≤ length l
  pub few : count ≤ end
  pub among : count ≤ length (segments_of l)
  pub rest : drop count (segments_of l) ≡ segments_of (drop end l)
  pub behind : length (list_bytes (take count (segments_of l))) ≡ end
  pub started : 0 < k → k ≤ count → start ≡ start_in (segments_of l) (k - 1)
  pub sized : 0 < k → k ≤ count → size ≡ length (get_or (segments_of l) (k - 1) [])

pub scan-starts : (l : List ℕ) (k : ℕ) → Scanning l k 0 0 0 0
unfolding list_bytes flat_map
scan-starts l k =
    record {
      within = omega arith;
      few = omega arith;
      among = omega arith;
      rest = refl;
      behind = refl;
      started = λ p q. absurd (omega arith);
      sized = λ p q. absurd (omega arith);
    }

-- a list from an index on that begins so: the element, and the list behind it
record Next (ss : List (List ℕ)) (k : ℕ) (s : List ℕ) (rest : List (List ℕ)) : Type 0 where
  more : k < length ss
  it : get_or ss k [] ≡ s
  later : drop (k + 1) ss ≡ rest

next : (ss : List (List ℕ)) (k : ℕ) (s : List ℕ) (rest : List (List ℕ)) → drop k ss ≡ s ∷ rest → Next ss k s rest
next ss k s rest e =
    let many : length ss - k ≡ suc (length rest) = sym (length-drop k ss) ∙ ap length e in
    let inside : k < length ss = omega arith in
    let here : get_or ss k [] ∷ drop (suc k) ss ≡ s ∷ rest = sym (drop-cons ss k [] inside) ∙ e in
    let one : k + 1 ≡ suc k = omega arith in
    record {
      more = inside;
      it = ap (λ (xs : List (List ℕ)). get_or xs 0 []) here;
      later = ap (λ (m : ℕ). drop m ss) one ∙ ap (drop 1) here;
    }

-- ---- a turn

-- the length that the rest of a list begins with, as a reader at an index finds it
said-there : (l : List ℕ) (end n : ℕ) → n ≡ be (gets l end length_size) → end + length_size ≤ length l → first_length (drop end l) ≡ n
unfolding first_length
said-there l end n said long = ap be (sym (gets_eq length_size l end long)) ∙ sym said

module _ {l : List ℕ} {k count end start size : ℕ} (g : Scanning l k count end start size) (n : ℕ) (said : n ≡ be (gets l end length_size))
    (long : length_size ≤ length l - end) (whole : n ≤ length l - (end + length_size)) where
  says : first_length (drop end l) ≡ n
  says = said-there l end n said (omega (arith, g.within))

  begins : first_end (drop end l) ≤ length (drop end l)
  begins = rw (says, length-drop end l) (omega (arith, g.within))

  turn : Next (segments_of l) count (first_of (drop end l)) (segments_of (drop (end + length_size + n) l))
  turn =
      let far : end + first_end (drop end l) ≡ end + length_size + n = rw says (omega arith) in
      next (segments_of l) count (first_of (drop end l)) (segments_of (drop (end + length_size + n) l))
      (g.rest ∙ segments_more (drop end l) begins
      ∙ ap (λ (m : List ℕ). first_of (drop end l) ∷ segments_of m) (drop-drop (first_end (drop end l)) end l ∙ ap (λ (m : ℕ). drop m l) far))

  first-long : length (get_or (segments_of l) count []) ≡ n
  first-long =
      let room : first_length (drop end l) ≤ length (drop length_size (drop end l)) = rw (says, length-drop length_size (drop end l), length-drop end l) (omega (arith, g.within)) in
      ap length turn.it ∙ length-take-le (first_length (drop end l)) (drop length_size (drop end l)) room ∙ says

  further : length (list_bytes (take (count + 1) (segments_of l))) ≡ end + length_size + n
  further =
      let one : count + 1 ≡ suc count = omega arith in
      ap (λ (m : ℕ). length (list_bytes (take m (segments_of l)))) one ∙ ap (λ (ss : List (List ℕ)). length (list_bytes ss)) (take-suc (segments_of l) count [] turn.more)
      ∙ length-list-more (take count (segments_of l)) (get_or (segments_of l) count []) ∙ rw (g.behind, first-long) (omega arith)

  pub scan-passes : (count + 1 ≡ k → ⊥) → Scanning l k (count + 1) (end + length_size + n) start size
  scan-passes other =
      record {
        within = omega (arith, g.within);
        few = omega (arith, g.few);
        among = omega (arith, turn.more);
        rest = turn.later;
        behind = further;
        started = λ p q. g.started p (sooner other q);
        sized = λ p q. g.sized p (sooner other q);
      }
    where
      sooner : (count + 1 ≡ k → ⊥) → k ≤ count + 1 → k ≤ count
      sooner other q = omega (arith, other)

  last : count + 1 ≡ k → count ≡ k - 1
  last here = omega arith

  found-start : count + 1 ≡ k → end + length_size ≡ start_in (segments_of l) (k - 1)
  unfolding start_in
  found-start here = ap (λ (m : ℕ). m + length_size) (sym g.behind) ∙ ap (λ (m : ℕ). length (list_bytes (take m (segments_of l))) + length_size) (last here)

  pub scan_finds : count + 1 ≡ k → Scanning l k (count + 1) (end + length_size + n) (end + length_size) n
  scan_finds here =
      record {
        within = omega (arith, g.within);
        few = omega (arith, g.few);
        among = omega (arith, turn.more);
        rest = turn.later;
        behind = further;
        started = λ p q. found-start here;
        sized = λ p q. sym first-long ∙ ap (λ (m : ℕ). length (get_or (segments_of l) m [])) (last here);
      }

-- nothing whole is left: the segments that were passed are all of them
pub scan-ends : {l : List ℕ} {k : ℕ} (r : Pass) → Scanning l k r.count r.end r.start r.length → segments_of (drop r.end l) ≡ [] → Scanned l k r
scan-ends {l} {k} r g none =
    let many : length (segments_of l) - r.count ≡ 0 = sym (length-drop r.count (segments_of l)) ∙ ap length (g.rest ∙ none) in
    let all : r.count ≡ length (segments_of l) = omega (arith, g.among) in
    record {
      counted = all;
      ended = sym g.behind ∙ ap (λ (ss : List (List ℕ)). length (list_bytes ss)) (take_all r.count (segments_of l) (omega arith));
      started = g.started;
      sized = g.sized;
    }

-- a part of a length is left, or a part of a segment
pub cut-length : {l : List ℕ} {k count end start size : ℕ} → Scanning l k count end start size → length l - end < length_size → segments_of (drop end l) ≡ []
cut-length {l} {end = end} g h = segments_none (drop end l) (rw (length-drop end l) (omega arith))

pub cut-segment : {l : List ℕ} {k count end start size : ℕ} → Scanning l k count end start size → (n : ℕ) → n ≡ be (gets l end length_size) → length_size ≤ length l - end
    → length l - (end + length_size) < n → segments_of (drop end l) ≡ []
cut-segment {l} {end = end} g n said long h =
    segments_none (drop end l) (rw (length-drop end l, said-there l end n said (omega (arith, g.within))) (omega (arith, g.within)))

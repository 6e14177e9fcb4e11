-- Laws of lists of one width that stand one behind the other, behind a front: what is read or stored in list k, said of the whole; and of lists that are filled up.
-- By the lists, one joining the front at a time; so a cell's places and a table's cells are read and changed by number.
use mathlib.Core.Path.{◌≡◌, refl, sym, ◌∙◌}
use mathlib.Core.List.{List, [], ◌∷◌, ◌++◌, flat_map, append_assoc, append-nil}
use Prim.Native.Nat.{ℕ, zero, suc, ◌+◌, ◌*◌, ◌<◌, ◌≤◌}
use native.Mathlib.Nat.{mul-zero, mul-suc}
use native.Mathlib.Omega.{arith}
use lib.ListN.{length, get_or, take, drop, set, length-append}
use lib.Seq.{sets, take_at, drop_at}
use Rattle.octets.specs.Runs.{gets}
use Rattle.octets.proofs.PartsLaws.{gets-behind, gets-left, sets_behind, sets-left}
use Rattle.rules.proofs.AllLaws.{All, none, more}

abbrev pub joined : List (List ℕ) → List ℕ
joined ls = flat_map (λ l. l) ls

joined_append : (ks ls : List (List ℕ)) → joined (ks ++ ls) ≡ joined ks ++ joined ls
unfolding flat_map
joined_append [] ls = refl
joined_append (k ∷ ks) ls = rw (joined_append ks ls, append_assoc)

module _ (w : ℕ) where
  abbrev pub Wide : List (List ℕ) → Type 0
  Wide ls = All (λ l. length l ≡ w) ls

  longer : (front l : List ℕ) (at : ℕ) → length front ≡ at → length l ≡ w → length (front ++ l) ≡ at + w
  longer front l at e p = rw (length-append, e, p)

  -- read in list k, from its index j on
  pub joined-gets : {ls : List (List ℕ)} → Wide ls → (front : List ℕ) (at k j m i : ℕ) → length front ≡ at → k < length ls → j + m ≤ w → i ≡ at + w * k + j
      → gets (front ++ joined ls) i m ≡ gets (get_or ls k []) j m
  unfolding flat_map
  joined-gets none front at k j m i e h fits at_i = absurd (omega arith)
  joined-gets (more {x = l} {xs = ls} p ps) front at zero j m i e h fits at_i =
      let z : w * 0 ≡ 0 = mul-zero w in
      let q : i ≡ at + j = omega arith in
      rw (q, gets-behind front (l ++ joined ls) at e m j) (gets-left m l (joined ls) j (omega arith))
  joined-gets (more {x = l} {xs = ls} p ps) front at (suc k) j m i e h fits at_i =
      let s : w * suc k ≡ w * k + w = mul-suc w k in
      rw (← append_assoc) (joined-gets ps (front ++ l) (at + w) k j m i (longer front l at e p) (omega arith) fits (omega arith))

  -- stored in list k, from its index j on
  pub joined-sets : {ls : List (List ℕ)} → Wide ls → (front vs : List ℕ) (at k j i : ℕ) → length front ≡ at → k < length ls → j + length vs ≤ w → i ≡ at + w * k + j
      → sets (front ++ joined ls) i vs ≡ front ++ joined (set ls k (sets (get_or ls k []) j vs))
  unfolding flat_map
  joined-sets none front vs at k j i e h fits at_i = absurd (omega arith)
  joined-sets (more {x = l} {xs = ls} p ps) front vs at zero j i e h fits at_i =
      let z : w * 0 ≡ 0 = mul-zero w in
      let q : i ≡ at + j = omega arith in
      rw (q, sets_behind vs front (l ++ joined ls) at j e, sets-left vs l (joined ls) j (omega arith))
  joined-sets (more {x = l} {xs = ls} p ps) front vs at (suc k) j i e h fits at_i =
      let s : w * suc k ≡ w * k + w = mul-suc w k in
      rw (← append_assoc front l (joined ls), joined-sets ps (front ++ l) vs (at + w) k j i (longer front l at e p) (omega arith) fits (omega arith), append_assoc)

  -- cut before list k
  pub joined-take : {ls : List (List ℕ)} → Wide ls → (front : List ℕ) (at k i : ℕ) → length front ≡ at → k ≤ length ls → i ≡ at + w * k
      → take i (front ++ joined ls) ≡ front ++ joined (take k ls)
  unfolding flat_map
  joined-take {ls} ps front at zero i e h at_i =
      let z : w * 0 ≡ 0 = mul-zero w in
      take_at front (joined ls) i (omega arith) ∙ sym (append-nil front)
  joined-take none front at (suc k) i e h at_i = absurd (omega arith)
  joined-take (more {x = l} {xs = ls} p ps) front at (suc k) i e h at_i =
      let s : w * suc k ≡ w * k + w = mul-suc w k in
      rw (← append_assoc front l (joined ls), joined-take ps (front ++ l) (at + w) k i (longer front l at e p) (omega arith) (omega arith), append_assoc)

  pub joined-drop : {ls : List (List ℕ)} → Wide ls → (front : List ℕ) (at k i : ℕ) → length front ≡ at → k ≤ length ls → i ≡ at + w * k
      → drop i (front ++ joined ls) ≡ joined (drop k ls)
  unfolding flat_map
  joined-drop {ls} ps front at zero i e h at_i =
      let z : w * 0 ≡ 0 = mul-zero w in
      drop_at front (joined ls) i (omega arith)
  joined-drop none front at (suc k) i e h at_i = absurd (omega arith)
  joined-drop (more {x = l} {xs = ls} p ps) front at (suc k) i e h at_i =
      let s : w * suc k ≡ w * k + w = mul-suc w k in
      rw (← append_assoc front l (joined ls), joined-drop ps (front ++ l) (at + w) k i (longer front l at e p) (omega arith) (omega arith))

  -- list k goes, and z comes in behind the last
  pub joined_less : {ls : List (List ℕ)} → Wide ls → (front z : List ℕ) (at k i : ℕ) → length front ≡ at → k < length ls → i ≡ at + w * k
      → take i (front ++ joined ls) ++ (drop (i + w) (front ++ joined ls) ++ z) ≡ front ++ joined (take k ls ++ (drop (suc k) ls ++ (z ∷ [])))
  unfolding flat_map
  joined_less {ls} ps front z at k i e h at_i =
      let s : w * suc k ≡ w * k + w = mul-suc w k in
      let t : take i (front ++ joined ls) ≡ front ++ joined (take k ls) = joined-take ps front at k i e (omega arith) at_i in
      let d : drop (i + w) (front ++ joined ls) ≡ joined (drop (suc k) ls) = joined-drop ps front at (suc k) (i + w) e (omega arith) (omega arith) in
      let one : joined (drop (suc k) ls ++ (z ∷ [])) ≡ joined (drop (suc k) ls) ++ z = joined_append (drop (suc k) ls) (z ∷ []) ∙ rw (append-nil z) in
      rw (t, d, append_assoc, joined_append (take k ls), one)

-- Laws of a list in two parts: what is read or stored in one part, said of the whole; and of one field of a layout's bytes.
-- By induction over what is read or stored; a field's law by the layout, one field at a time.
use mathlib.Core.Path.{◌≡◌, refl, ◌∙◌}
use mathlib.Core.List.{List, [], ◌∷◌, ◌++◌, append-nil}
use Prim.Native.Nat.{ℕ, zero, suc, ◌+◌, ◌-◌, ◌^◌, ◌<◌, ◌≤◌}
use native.Mathlib.Nat.{add-suc}
use native.Mathlib.Omega.{arith}
use lib.ListN.{length, get_or, set, length-set, get_or-append}
use lib.Seq.{sets, get_or-append-add, set-append_left, drop-length}
use Rattle.std.proofs.lemmas.List.{set-append_right}
use Rattle.octets.specs.Runs.{gets}
use Rattle.octets.specs.Numbers.{to_be}
use Rattle.octets.specs.Fields.{offset, bytes_of, Fit, none, field}
use Rattle.octets.proofs.RunsLaws.{sets_front}
use Rattle.octets.proofs.NumbersLaws.{length-to_be}

-- ---- in the second part

module _ (a x : List ℕ) (at : ℕ) (e : length a ≡ at) where
  get_or-behind : (j : ℕ) → get_or (a ++ x) (at + j) 0 ≡ get_or x j 0
  get_or-behind j = rw (← e) (get_or-append-add a x j 0)

  pub gets-behind : (m j : ℕ) → gets (a ++ x) (at + j) m ≡ gets x j m
  unfolding gets
  gets-behind zero j = refl
  gets-behind (suc m) j = rw (get_or-behind j, ← add-suc, gets-behind m (suc j))

pub sets_behind : (vs a x : List ℕ) (at j : ℕ) → length a ≡ at → sets (a ++ x) (at + j) vs ≡ a ++ sets x j vs
sets_behind [] a x at j e = refl
sets_behind (v ∷ vs) a x at j e =
    let s : set (a ++ x) (at + j) v ≡ a ++ set x j v = let back : at + j - at ≡ j = omega arith in rw back at (set-append_right a x at (at + j) v e (omega arith)) in
    rw (s, ← add-suc) (sets_behind vs a (set x j v) at (suc j) e)

-- ---- in the first part

pub gets-left : (m : ℕ) (x b : List ℕ) (j : ℕ) → j + m ≤ length x → gets (x ++ b) j m ≡ gets x j m
unfolding gets
gets-left zero x b j h = refl
gets-left (suc m) x b j h = rw (get_or-append x b 0 j (omega arith), gets-left m x b (suc j) (omega arith))

pub sets-left : (vs x b : List ℕ) (j : ℕ) → j + length vs ≤ length x → sets (x ++ b) j vs ≡ sets x j vs ++ b
sets-left [] x b j h = refl
sets-left (v ∷ vs) x b j h =
    let l : length (set x j v) ≡ length x = length-set x j v in
    rw (set-append_left x b j v (omega arith)) (sets-left vs (set x j v) b (suc j) (omega arith))

-- all of a list that as much is stored over
pub sets_over : (vs x : List ℕ) → length vs ≡ length x → sets x 0 vs ≡ vs
sets_over vs x e = sets_front x vs (omega arith) ∙ rw (e, drop-length) (append-nil vs)

-- ---- one field

-- field k stored anew
pub field_stored : (ws vs : List ℕ) (k x : ℕ) → k < length ws → length vs ≡ length ws
    → sets (bytes_of ws vs) (offset ws k) (to_be (get_or ws k 0) x) ≡ bytes_of ws (set vs k x)
unfolding bytes_of offset
field_stored [] vs k x h e = absurd (omega arith)
field_stored (w ∷ ws) [] k x h e = absurd (omega arith)
field_stored (w ∷ ws) (v ∷ vs) zero x h e =
    let lx : length (to_be w x) ≡ w = length-to_be w x in
    let lv : length (to_be w v) ≡ w = length-to_be w v in
    rw (sets-left (to_be w x) (to_be w v) (bytes_of ws vs) 0 (omega arith), sets_over (to_be w x) (to_be w v) (omega arith))
field_stored (w ∷ ws) (v ∷ vs) (suc k) x h e =
    rw (sets_behind (to_be (get_or ws k 0) x) (to_be w v) (bytes_of ws vs) w (offset ws k) (length-to_be w v), field_stored ws vs k x (omega arith) (omega arith))

-- what fits a field's width may stand in it
pub fit-set : {ws vs : List ℕ} → Fit ws vs → (k x : ℕ) → x < 256 ^ get_or ws k 0 → Fit ws (set vs k x)
fit-set none k x h = none
fit-set (field p f) zero x h = field h f
fit-set (field p f) (suc k) x h = field p (fit-set f k x h)

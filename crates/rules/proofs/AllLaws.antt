-- A property of each element of a list, with its evidence: from a test of every element, over the pieces of a list of bytes, and to maps that agree.
-- Each goes by the list.
use mathlib.Core.Path.{◌≡◌, refl}
use mathlib.Core.Bool.{Bool, true}
use mathlib.Core.List.{List, [], ◌∷◌, ◌++◌, map, flat_map}
use Prim.Native.Nat.{ℕ, zero, suc, ◌+◌, ◌*◌, ◌-◌, ◌≤◌, ◌<◌}
use native.Mathlib.Nat.{mul-zero, mul-suc, add_comm}
use native.Mathlib.Omega.{arith}
use lib.ListN.{length, get_or, drop, length-append, length-drop}
use lib.Seq.{length-take-le, take_at, drop_at}
use Rattle.octets.specs.Runs.{Bytes, pieces}
use Rattle.octets.specs.Fields.{padded}
use Rattle.octets.proofs.RunsLaws.{bytes_take, bytes_drop, bytes_append}
use Rattle.rules.specs.Lists.{every}
use Rattle.rules.proofs.TestLaws.{both, and-true}

pub data All {A : Type 0} (P : A → Type 0) : List A → Type 0 where
  none : All P []
  more : {x : A} {xs : List A} → P x → All P xs → All P (x ∷ xs)

pub all_every : {A : Type 0} (f : A → Bool) (xs : List A) → every f xs ≡ true → All (λ x. f x ≡ true) xs
unfolding every
all_every f [] e = none
all_every f (x ∷ xs) e = let h = both (f x) (every f xs) e in more h.0 (all_every f xs h.1)

pub every_all : {A : Type 0} (f : A → Bool) {xs : List A} → All (λ x. f x ≡ true) xs → every f xs ≡ true
unfolding every
every_all f none = refl
every_all f (more {x} {xs} p ps) = and-true (f x) (every f xs) p (every_all f ps)

pub all_imply : {A : Type 0} {P Q : A → Type 0} → ((x : A) → P x → Q x) → {xs : List A} → All P xs → All Q xs
all_imply k none = none
all_imply k (more {x} p ps) = more (k x p) (all_imply k ps)

pub all_both : {A : Type 0} {P Q : A → Type 0} {xs : List A} → All P xs → All Q xs → All (λ x. P x × Q x) xs
all_both none none = none
all_both (more p ps) (more q qs) = more (p, q) (all_both ps qs)

pub all_map : {A B : Type 0} (P : B → Type 0) (f : A → B) {xs : List A} → All (λ x. P (f x)) xs → All P (map f xs)
all_map P f none = none
all_map P f (more p ps) = more p (all_map P f ps)

-- maps that agree on each element
pub map_all : {A B : Type 0} (f g : A → B) {xs : List A} → All (λ x. f x ≡ g x) xs → map f xs ≡ map g xs
map_all f g none = refl
map_all f g (more p ps) = rw (p, map_all f g ps)

pub flat_map_all : {A B : Type 0} (f g : A → List B) {xs : List A} → All (λ x. f x ≡ g x) xs → flat_map f xs ≡ flat_map g xs
unfolding flat_map
flat_map_all f g none = refl
flat_map_all f g (more p ps) = rw (p, flat_map_all f g ps)

-- the pieces of a list of bytes
pub all_pieces : (w n : ℕ) (l : List ℕ) → Bytes l → w * n ≤ length l → All (λ p. Bytes p × (length p ≡ w)) (pieces w n l)
unfolding pieces
all_pieces w zero l b h = none
all_pieces w (suc n) l b h =
    let s : w * suc n ≡ w * n + w = mul-suc w n in
    let d : length (drop w l) ≡ length l - w = length-drop w l in
    more (bytes_take w l b, length-take-le w l (omega arith)) (all_pieces w n (drop w l) (bytes_drop w l b) (omega arith))

pub all_of : {A : Type 0} {P : A → Type 0} → ((x : A) → P x) → (xs : List A) → All P xs
all_of k [] = none
all_of k (x ∷ xs) = more (k x) (all_of k xs)

pub all_padded : {A : Type 0} {P : A → Type 0} (n : ℕ) (z : A) → P z → {xs : List A} → All P xs → All P (padded n z xs)
unfolding padded
all_padded zero z h ps = none
all_padded (suc n) z h none = more h (all_padded n z h none)
all_padded (suc n) z h (more p ps) = more p (all_padded n z h ps)

-- ---- lists that are joined

pub bytes-flat_map_all : {A : Type 0} (f : A → List ℕ) {xs : List A} → All (λ x. Bytes (f x)) xs → Bytes (flat_map f xs)
unfolding flat_map
bytes-flat_map_all f none = λ i. omega arith
bytes-flat_map_all f (more {x} {xs} p ps) = bytes_append (f x) (flat_map f xs) p (bytes-flat_map_all f ps)

pub length-joined : (w : ℕ) {ls : List (List ℕ)} → All (λ l. length l ≡ w) ls → length (flat_map (λ l. l) ls) ≡ w * length ls
unfolding flat_map
length-joined w none = rw mul-zero
length-joined w (more p ps) = rw (length-append, p, length-joined w ps, mul-suc, add_comm w)

-- cut where they were joined
pub pieces-joined : (w : ℕ) {ls : List (List ℕ)} → All (λ l. length l ≡ w) ls → pieces w (length ls) (flat_map (λ l. l) ls) ≡ ls
unfolding pieces flat_map
pieces-joined w none = refl
pieces-joined w (more {x = l} {xs = ls} p ps) =
    rw (take_at l (flat_map (λ k. k) ls) w p, drop_at l (flat_map (λ k. k) ls) w p, pieces-joined w ps)

-- ---- at an index, joined, in parts

module _ {A : Type 0} {P : A → Type 0} where
  pub all_at : {xs : List A} → All P xs → (k : ℕ) (d : A) → k < length xs → P (get_or xs k d)
  all_at none k d h = absurd (omega arith)
  all_at (more p ps) zero d h = p
  all_at (more p ps) (suc k) d h = all_at ps k d (omega arith)

  pub all_append : {xs ys : List A} → All P xs → All P ys → All P (xs ++ ys)
  all_append none qs = qs
  all_append (more p ps) qs = more p (all_append ps qs)

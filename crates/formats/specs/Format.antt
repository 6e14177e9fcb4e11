-- A format: which values it has, the bytes of a value, and what is read at the front of bytes. A few small formats, and six ways to put formats together:
-- whoever reads and whoever writes go by the same description.
use Rattle.std.specs.Prelude.{◌≡◌, Bool, true, cond, ℕ, zero, suc, ◌^◌, ◌<◌, leb, length, take, drop}
use mathlib.Core.List.{List, [], ◌∷◌, ◌++◌, flat_map}
use Rattle.octets.specs.Runs.{Bytes}
use Rattle.octets.specs.Numbers.{be, to_be}

-- what is read at the front of bytes: a value and the bytes behind it, or nothing
pub data Found (A : Type 0) : Type 0 where
  nothing : Found A
  found : A → List ℕ → Found A

-- what is read next, of the bytes behind
abbrev pub after : {A B : Type 0} → Found A → (A → List ℕ → Found B) → Found B
after nothing k = nothing
after (found a rest) k = k a rest

-- a value with nothing behind it, and then what stands behind its place
abbrev pub all_of : {A : Type 0} → Found A → List ℕ → Found A
all_of nothing r = nothing
all_of (found a []) r = found a r
all_of (found a (b ∷ bs)) r = nothing

pub record Format (A : Type 0) : Type 1 where
  pub fits : A → Type 0
  pub encode : A → List ℕ
  pub parse : List ℕ → Found A

-- something holds of each value of a list
pub data Each {A : Type 0} (P : A → Type 0) : List A → Type 0 where
  none : Each P []
  more : {x : A} {xs : List A} → P x → Each P xs → Each P (x ∷ xs)

-- ---- the smallest

-- a number in w bytes
unfoldable pub number : ℕ → Format ℕ
number w =
    record {
      fits = λ v. v < 256 ^ w;
      encode = λ v. to_be w v;
      parse = λ l. cond (leb w (length l)) (found (be (take w l)) (drop w l)) nothing;
    }

-- n bytes as they are
unfoldable pub run : ℕ → Format (List ℕ)
run n =
    record {
      fits = λ s. (length s ≡ n) × Bytes s;
      encode = λ s. s;
      parse = λ l. cond (leb n (length l)) (found (take n l) (drop n l)) nothing;
    }

-- all of the bytes as they are: only where something else says where they end
unfoldable pub opaque : Format (List ℕ)
opaque = record { fits = λ s. Bytes s; encode = λ s. s; parse = λ l. found l [] }

-- ---- put together

-- one behind the other
unfoldable pub pair : {A B : Type 0} → Format A → Format B → Format (A × B)
pair f g =
    record {
      fits = λ p. f.fits p.0 × g.fits p.1;
      encode = λ p. f.encode p.0 ++ g.encode p.1;
      parse = λ l. after (f.parse l) (λ a r. after (g.parse r) (λ b s. found (a, b) s));
    }

-- a value behind what is said of it: its length, its number of elements, which of its parts are there
unfoldable pub behind : {A B : Type 0} → Format A → (B → A) → (A → Format B) → Format B
behind f said g =
    record {
      fits = λ b. f.fits (said b) × (g (said b)).fits b;
      encode = λ b. f.encode (said b) ++ (g (said b)).encode b;
      parse = λ l. after (f.parse l) (λ a r. (g a).parse r);
    }

-- the values of a format that a test holds of
unfoldable pub only : {A : Type 0} → (A → Bool) → Format A → Format A
only test f =
    record {
      fits = λ a. f.fits a × (test a ≡ true);
      encode = λ a. f.encode a;
      parse = λ l. after (f.parse l) (λ a r. cond (test a) (found a r) nothing);
    }

-- the same bytes, said otherwise
unfoldable pub as_if : {A B : Type 0} → (A → B) → (B → A) → Format A → Format B
as_if to from f =
    record {
      fits = λ b. f.fits (from b) × (to (from b) ≡ b);
      encode = λ b. f.encode (from b);
      parse = λ l. after (f.parse l) (λ a r. found (to a) r);
    }

-- n values back to back
unfoldable pub several : {A : Type 0} → Format A → ℕ → List ℕ → Found (List A)
several f zero l = found [] l
several f (suc n) l = after (f.parse l) (λ a r. after (several f n r) (λ xs s. found (a ∷ xs) s))

unfoldable pub times : {A : Type 0} → Format A → ℕ → Format (List A)
times f n =
    record {
      fits = λ xs. (length xs ≡ n) × Each f.fits xs;
      encode = λ xs. flat_map f.encode xs;
      parse = λ l. several f n l;
    }

-- a value that is all of the bytes which another format holds
unfoldable pub inside : {A : Type 0} → Format (List ℕ) → Format A → Format A
inside g f =
    record {
      fits = λ a. f.fits a × g.fits (f.encode a);
      encode = λ a. g.encode (f.encode a);
      parse = λ l. after (g.parse l) (λ c r. all_of (f.parse c) r);
    }

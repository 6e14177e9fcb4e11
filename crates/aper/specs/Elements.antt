-- What F1AP's messages are made of, in the aligned packed encoding of X.691: a length, an open type, an element, a counted sequence of elements, extensions.
use Rattle.std.specs.Prelude.{Bool, false, cond, ◌&&◌, ◌||◌, List, [], ◌∷◌, ℕ, zero, suc, ◌+◌, ◌-◌, ◌*◌, ◌/◌, ◌%◌, ◌<◌, eqb, leb, ltb, length}
use Rattle.formats.specs.Format.{Found, nothing, found, Format, number, run, opaque, pair, behind, only, as_if, times, inside}

-- ---- the length of what follows, in its shortest form

-- up to 127 in one byte
abbrev pub short_length : ℕ
short_length = 128

-- up to 16383 in two, the first of them 10xxxxxx; a fragmented length, 11xxxxxx, is no value
abbrev pub long_length : ℕ
long_length = 16384

unfoldable pub length_bytes : ℕ → List ℕ
length_bytes n = cond (ltb n short_length) (n ∷ []) ((128 + n / 256) ∷ (n % 256) ∷ [])

-- the second byte of a long one, which is not below 128
unfoldable pub long_in : ℕ → List ℕ → Found ℕ
long_in b [] = nothing
long_in b (c ∷ l) = cond (ltb b 192 && leb short_length ((b - 128) * 256 + c)) (found ((b - 128) * 256 + c) l) nothing

unfoldable pub length_in : List ℕ → Found ℕ
length_in [] = nothing
length_in (b ∷ l) = cond (ltb b short_length) (found b l) (long_in b l)

unfoldable pub determinant : Format ℕ
determinant = record { fits = λ n. n < long_length; encode = λ n. length_bytes n; parse = λ l. length_in l }

-- ---- an open type: its length, and so many bytes; at least one, since an empty encoding is one byte 0

unfoldable pub open_type : Format (List ℕ)
open_type = only (λ s. ltb 0 (length s)) (behind determinant (λ s. length s) run)

-- ---- an element

pub record Element (C : Type 0) : Type 0 where
  pub id : ℕ
  pub criticality : ℕ
  pub contents : C

-- two bits, and six of padding
unfoldable pub two_bits : Format ℕ
two_bits = as_if (λ b. b / 64) (λ c. c * 64) (only (λ b. eqb (b % 64) 0) (number 1))

-- its id and its criticality
unfoldable pub head : Format (ℕ × ℕ)
head = pair (number 2) two_bits

-- contents of its own for each id
unfoldable pub under : {C : Type 0} → (ℕ → Format C) → ℕ × ℕ → Format (Element C)
under contents h = as_if (λ c. record { id = h.0; criticality = h.1; contents = c }) (λ e. e.contents) (inside open_type (contents h.0))

unfoldable pub holding : {C : Type 0} → (ℕ → Format C) → Format (Element C)
holding contents = behind head (λ e. (e.id, e.criticality)) (under contents)

-- reject; ignore and notify are 1 and 2, and there is no other
abbrev pub reject : ℕ
reject = 0

abbrev pub criticalities : ℕ
criticalities = 3

-- "A known element's criticality is not read"; of an unknown one it is one of three
unfoldable pub proper : {C : Type 0} → (ℕ → Bool) → Element C → Bool
proper known e = known e.id || ltb e.criticality criticalities

unfoldable pub element_of : {C : Type 0} → (ℕ → Bool) → (ℕ → Format C) → Format (Element C)
element_of known contents = only (proper known) (holding contents)

-- a count in two bytes, and so many elements
unfoldable pub elements_of : {C : Type 0} → (ℕ → Bool) → (ℕ → Format C) → Format (List (Element C))
elements_of known contents = behind (number 2) (λ es. length es) (times (element_of known contents))

-- an element whose contents are not looked into
abbrev pub plain : Format (Element (List ℕ))
plain = holding (λ id. opaque)

-- ---- iE-Extensions: a container of elements, all of them unknown: their number less one, and so many

unfoldable pub from_one : ℕ → Format ℕ
from_one most = as_if (λ m. m + 1) (λ n. n - 1) (only (λ m. ltb m most) (number 2))

abbrev pub extension : Format (Element (List ℕ))
extension = element_of (λ id. false) (λ id. opaque)

abbrev pub Extensions : Type 0
Extensions = List (Element (List ℕ))

-- maxProtocolExtensions
abbrev pub most_extensions : ℕ
most_extensions = 65535

unfoldable pub container : Format Extensions
container = behind (from_one most_extensions) (λ es. length es) (times extension)

-- a container where its bit is 1, none where it is 0
abbrev pub presence : Extensions → ℕ
presence [] = 0
presence (e ∷ es) = 1

unfoldable pub optional : ℕ → Format Extensions
optional zero = times extension 0
optional (suc p) = container

unfoldable pub given : ℕ → Format Extensions
given p = only (λ es. eqb (presence es) p) (optional p)

-- marked reject
abbrev pub marked : {C : Type 0} → Element C → Bool
marked e = eqb e.criticality reject

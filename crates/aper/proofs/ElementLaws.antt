-- The formats of elements keep the laws of a format; how many bytes a length has, and what an open type holds.
use mathlib.Core.Path.{◌≡◌, refl, sym, ap}
use mathlib.Core.Bool.{Bool, true, false, ◌&&◌}
use mathlib.Core.List.{List, [], ◌∷◌, ◌++◌}
use Prim.Native.Nat.{ℕ, zero, suc, ◌+◌, ◌-◌, ◌*◌, ◌/◌, ◌%◌, ◌<◌, ◌≤◌}
use native.Mathlib.Omega.{arith}
use lib.Dec.{eqb, leb, ltb}
use lib.ListN.{length}
use borrow.Author.Tests.{lt-ltb, le-ltb, le-leb, ltb-true, ltb-false, leb-true, eqb-true}
use Rattle.octets.specs.Runs.{Bytes}
use Rattle.formats.specs.Format.{Found, nothing, found, after, all_of, Format, number, run, opaque, behind, only, as_if, times, inside}
use Rattle.aper.specs.Elements.{short_length, long_length, length_bytes, long_in, length_in, determinant, open_type, Element, two_bits, head, under, holding, plain, proper, element_of, elements_of, from_one, extension, Extensions, most_extensions, container, presence, optional, given}
use Rattle.rules.proofs.TestLaws.{both, by_test}
use Rattle.formats.proofs.FormatLaws.{Good, Lawful, Alone, either_good, number_lawful, run_lawful, opaque-alone, pair_lawful, behind_lawful, only_lawful, as_if_lawful, times_lawful, inside_lawful}

-- ---- the length

length-reads : (n : ℕ) (rest : List ℕ) → n < 16384 → length_in (length_bytes n ++ rest) ≡ found n rest
unfolding length_in length_bytes long_in
length-reads n rest h =
    by_test (ltb n 128)
    (λ t. rw (t, t))
    (λ t.
    let le = ltb-false n 128 t in
    let back : (128 + n / 256 - 128) * 256 + n % 256 ≡ n = omega arith in
    let first : ltb (128 + n / 256) 128 ≡ false = le-ltb (128 + n / 256) 128 (omega arith) in
    let below : ltb (128 + n / 256) 192 ≡ true = lt-ltb (128 + n / 256) 192 (omega arith) in
    rw (t, first, below, back, le-leb 128 n le))

long-back : (b c : ℕ) (l : List ℕ) → c < 256 → (b < 192) → (128 ≤ b) → 128 ≤ (b - 128) * 256 + c → length_bytes ((b - 128) * 256 + c) ++ l ≡ b ∷ c ∷ l
unfolding length_bytes
long-back b c l hc hb le hn =
    let n = (b - 128) * 256 + c in
    let first : 128 + ((b - 128) * 256 + c) / 256 ≡ b = omega arith in
    let second : ((b - 128) * 256 + c) % 256 ≡ c = omega arith in
    rw (le-ltb ((b - 128) * 256 + c) 128 hn, first, second)

short_back : (b : ℕ) (l : List ℕ) → ltb b 128 ≡ true → length_bytes b ++ l ≡ b ∷ l
unfolding length_bytes
short_back b l t = rw t

length_back : (l : List ℕ) → Bytes l → Good determinant l (length_in l)
unfolding length_in long_in determinant
length_back [] bytes = tt
length_back (b ∷ l) bytes = either_good determinant (b ∷ l) (ltb b 128) (found b l) (long_in b l) short (λ t. long l bytes (ltb-false b 128 t))
  where
    short : ltb b 128 ≡ true → Good determinant (b ∷ l) (found b l)
    short t = (omega (arith, ltb-true b 128 t), short_back b l t)

    long : (r : List ℕ) → Bytes (b ∷ r) → 128 ≤ b → Good determinant (b ∷ r) (long_in b r)
    long [] h le = tt
    long (c ∷ r) h le =
        let n = (b - 128) * 256 + c in
        either_good determinant (b ∷ c ∷ r) (ltb b 192 && leb 128 n) (found n r) nothing
        (λ t.
        let two = both (ltb b 192) (leb 128 n) t in
        let below = ltb-true b 192 two.0 in
        let above = leb-true 128 n two.1 in
        let byte : c < 256 = h 1 in
        (omega arith, long-back b c r byte below le above))
        (λ t. tt)

length-bytes : (n : ℕ) → n < 16384 → Bytes (length_bytes n)
unfolding length_bytes
length-bytes n h =
    by_test (ltb n 128)
    (λ t i. rw t (one n (omega (arith, ltb-true n 128 t)) i))
    (λ t i. rw t (two (128 + n / 256) (n % 256) (omega arith) (omega arith) i))
  where
    one : (a : ℕ) → a < 256 → Bytes (a ∷ [])
    one a h zero = h
    one a h (suc i) = omega arith

    two : (a b : ℕ) → a < 256 → b < 256 → Bytes (a ∷ b ∷ [])
    two a b h k zero = h
    two a b h k (suc i) = one b k i

pub determinant_lawful : Lawful determinant
unfolding determinant
determinant_lawful = record { bytes = length-bytes; reads = length-reads; back = length_back }

module _ (n : ℕ) where
  pub short-size : n < short_length → length (length_bytes n) ≡ 1
  unfolding length_bytes
  short-size h = rw (lt-ltb n short_length h)

  pub long-size : short_length ≤ n → length (length_bytes n) ≡ 2
  unfolding length_bytes
  long-size h = rw (le-ltb n short_length h)

  pub size-most : length (length_bytes n) ≤ 2
  unfolding length_bytes
  size-most = by_test (ltb n short_length) (λ t. rw t (omega arith)) (λ t. rw t (omega arith))

-- ---- an open type

run_long : (n : ℕ) (s : List ℕ) → (run n).fits s → length s ≡ n
unfolding run
run_long n s h = h.0

pub open_type-held : (s : List ℕ) → open_type.fits s → Bytes s
unfolding open_type only behind run
open_type-held s h = h.0.1.1

-- bytes that an open type holds
pub record Held (s : List ℕ) : Type 0 where
  pub bytes : Bytes s
  pub some : 0 < length s
  pub few : length s < long_length

pub open_type-fits : (s : List ℕ) → Held s → open_type.fits s
unfolding open_type only behind determinant run
open_type-fits s h = ((h.few, (refl, h.bytes)), lt-ltb 0 (length s) h.some)

pub open_type_lawful : Lawful open_type
unfolding open_type
open_type_lawful =
    only_lawful (λ s. ltb 0 (length s)) (behind determinant (λ s. length s) run)
    (behind_lawful determinant (λ s. length s) run determinant_lawful run_lawful (λ n s _ h. run_long n s h))

-- ---- an element

six_zero : (b : ℕ) → b % 64 ≡ 0 → b / 64 * 64 ≡ b
six_zero b h = omega arith

padded : (b : ℕ) → (only (λ b. eqb (b % 64) 0) (number 1)).fits b → b % 64 ≡ 0
unfolding only
padded b h = eqb-true (b % 64) 0 h.1

pub two_bits_lawful : Lawful two_bits
unfolding two_bits
two_bits_lawful =
    as_if_lawful (λ b. b / 64) (λ c. c * 64) (only (λ b. eqb (b % 64) 0) (number 1)) (λ b h. six_zero b (padded b h)) (only_lawful (λ b. eqb (b % 64) 0) (number 1) (number_lawful 1))

pub head_lawful : Lawful head
unfolding head
head_lawful = pair_lawful (number 2) two_bits (number_lawful 2) two_bits_lawful

module _ {C : Type 0} (known : ℕ → Bool) (contents : ℕ → Format C) (K : (id : ℕ) → Alone (contents id)) where
  under_lawful : (h : ℕ × ℕ) → Lawful (under contents h)
  unfolding under
  under_lawful h =
      as_if_lawful (λ c. record { id = h.0; criticality = h.1; contents = c }) (λ e. e.contents) (inside open_type (contents h.0)) (λ c k. refl)
      (inside_lawful open_type (contents h.0) open_type_lawful (K h.0) open_type-held)

  said-head : (h : ℕ × ℕ) (e : Element C) → head.fits h → (under contents h).fits e → (e.id, e.criticality) ≡ h
  unfolding under as_if
  said-head h e _ k = ap (λ (x : Element C). (x.id, x.criticality)) (sym k.1)

  pub holding_lawful : Lawful (holding contents)
  unfolding holding
  holding_lawful = behind_lawful head (λ e. (e.id, e.criticality)) (under contents) head_lawful under_lawful said-head

  pub element_lawful : Lawful (element_of known contents)
  unfolding element_of
  element_lawful = only_lawful (proper known) (holding contents) holding_lawful

  pub elements_lawful : Lawful (elements_of known contents)
  unfolding elements_of
  elements_lawful =
      behind_lawful (number 2) (λ es. length es) (times (element_of known contents)) (number_lawful 2) (times_lawful (element_of known contents) element_lawful) many
    where
      many : (n : ℕ) (es : List (Element C)) → (number 2).fits n → (times (element_of known contents) n).fits es → length es ≡ n
      many n es _ h = unfold times in h.0

-- ---- a container of extensions

pub from_one_lawful : (most : ℕ) → Lawful (from_one most)
unfolding from_one
from_one_lawful most =
    as_if_lawful (λ m. m + 1) (λ n. n - 1) (only (λ m. ltb m most) (number 2)) (λ m h. back m) (only_lawful (λ m. ltb m most) (number 2) (number_lawful 2))
  where
    back : (m : ℕ) → m + 1 - 1 ≡ m
    back m = omega arith

pub counted : {A : Type 0} (f : Format A) (c : Format ℕ) → Lawful f → Lawful c → Lawful (behind c (λ xs. length xs) (times f))
counted {A} f c F C = behind_lawful c (λ xs. length xs) (times f) C (times_lawful f F) many
  where
    many : (n : ℕ) (xs : List A) → c.fits n → (times f n).fits xs → length xs ≡ n
    many n xs _ h = unfold times in h.0

pub extension_lawful : Lawful extension
extension_lawful = element_lawful (λ id. false) (λ id. opaque) (λ id. opaque-alone)

pub container_lawful : Lawful container
unfolding container
container_lawful = counted extension (from_one most_extensions) extension_lawful (from_one_lawful most_extensions)

-- ---- contents are looked into after the element was read with no look into them

module _ {C : Type 0} (contents : ℕ → Format C) where
  abbrev pub looked_into : Found (Element (List ℕ)) → Found (Element C)
  looked_into x = after x (λ e r. after (all_of ((contents e.id).parse e.contents) r) (λ c s. found (record { id = e.id; criticality = e.criticality; contents = c }) s))

  pub looked_into_lem : (l : List ℕ) → (holding contents).parse l ≡ looked_into (plain.parse l)
  unfolding holding under behind as_if inside opaque
  looked_into_lem l = first (head.parse l)
    where
      second : (h : ℕ × ℕ) (y : Found (List ℕ))
          → after (after y (λ c s. all_of ((contents h.0).parse c) s)) (λ c s. found (record { id = h.0; criticality = h.1; contents = c }) s)
          ≡ looked_into (after (after y (λ c s. found c s)) (λ c s. found (record { id = h.0; criticality = h.1; contents = c }) s))
      second h nothing = refl
      second h (found c s) = refl

      first : (x : Found (ℕ × ℕ))
          → after x (λ h r. after (after (open_type.parse r) (λ c s. all_of ((contents h.0).parse c) s)) (λ c s. found (record { id = h.0; criticality = h.1; contents = c }) s))
          ≡ looked_into (after x (λ h r. after (after (open_type.parse r) (λ c s. found c s)) (λ c s. found (record { id = h.0; criticality = h.1; contents = c }) s)))
      first nothing = refl
      first (found h r) = second h (open_type.parse r)

-- ---- extensions where their bit is 1

optional_lawful : (p : ℕ) → Lawful (optional p)
unfolding optional
optional_lawful zero = times_lawful extension extension_lawful 0
optional_lawful (suc p) = container_lawful

pub given_lawful : (p : ℕ) → Lawful (given p)
unfolding given
given_lawful p = only_lawful (λ es. eqb (presence es) p) (optional p) (optional_lawful p)

pub given-there : (p : ℕ) (es : Extensions) → (given p).fits es → presence es ≡ p
unfolding given only
given-there p es h = eqb-true (presence es) p h.1

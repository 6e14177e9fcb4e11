-- Laws of the report's lines: how numbers are spelt, and how one text is stored behind another.
use mathlib.Core.Path.{◌≡◌, refl, sym, ap, ◌∙◌}
use mathlib.Core.List.{List, [], ◌∷◌, ◌++◌, append_assoc}
use Prim.Native.Nat.{ℕ, zero, suc, ◌+◌, ◌/◌, ◌%◌, ◌^◌, ◌≤◌, ◌<◌}
use native.Mathlib.Nat.{add_comm, add-zero}
use native.Mathlib.Omega.{arith}
use native.Mathlib.Numerals.{add-one}
use lib.ListN.{length, drop, set, length-append}
use lib.Seq.{sets, set_comm, length-sets}
use borrow.Author.Tests.{lt-ltb, le-ltb}
use Rattle.std.specs.Fmt.{decimal as std_decimal}
use Rattle.std.proofs.lemmas.List.{drop-set}
use Rattle.std.proofs.lemmas.Fmt.{decimal_from_appends, length-decimal-le}
use Rattle.octets.proofs.RunsLaws.{sets-run}
use Rattle.report_lines.specs.Text.{glyph, digits, places, decimal, Said}
use Rattle.report_lines.specs.Told.{Tells}
use Rattle.report_lines.specs.declared.text.Text.{Text}

-- ---- digits

pub glyph-low : (d : ℕ) → d < 10 → glyph d ≡ 48 + d
unfolding glyph
glyph-low d h = rw (lt-ltb d 10 h)

pub glyph-high : (d : ℕ) → 10 ≤ d → 87 + d ≡ glyph d
unfolding glyph
glyph-high d h = rw (le-ltb d 10 h)

pub length_digits : (base k n : ℕ) → length (digits base k n) ≡ k
unfolding digits
length_digits base zero n = refl
length_digits base (suc k) n =
    let l : length (digits base k (n / base)) ≡ k = length_digits base k (n / base) in
    rw (length-append, l) (omega arith)

-- an element stored first, and then those before it
sets_last : (xs l : List ℕ) (at k v : ℕ) → k ≡ at + length xs → sets (set l k v) at xs ≡ sets l at (xs ++ (v ∷ []))
sets_last [] l at k v e = rw (e, add-zero)
sets_last (x ∷ xs) l at k v e =
    rw (set_comm l k at v x (λ (h : k ≡ at). omega arith)) (sets_last xs (set l at x) (suc at) k v (omega arith))

-- the last digit is stored, the others are still to come
pub last_stored : (base left k rest : ℕ) (out : List ℕ) (at : ℕ) → left ≡ suc k
    → sets (set out (at + k) (glyph (rest % base))) at (digits base k (rest / base)) ≡ sets out at (digits base left rest)
unfolding digits
last_stored base left k rest out at e =
    rw e (sets_last (digits base k (rest / base)) out at (at + k) (glyph (rest % base)) (rw length_digits))

pub all_stored : (base left rest at : ℕ) {out goal : List ℕ} → sets out at (digits base left rest) ≡ goal → left ≡ 0 → out ≡ goal
unfolding digits
all_stored base left rest at e h = rw h at e

-- the last digit that is left is stored before those that are there
pub digits-more : (base k left rest : ℕ) (text : List ℕ) → left ≡ suc k → left ≤ length text
    → digits base k (rest / base) ++ drop k (set text k (glyph (rest % base))) ≡ digits base left rest ++ drop left text
unfolding digits
digits-more base k left rest text e h =
    rw (e, drop-set text k (glyph (rest % base)) (omega arith), append_assoc, add-one)

pub digits-done : (base k rest : ℕ) (text : List ℕ) {whole : List ℕ} → k ≤ 0 → digits base k rest ++ drop k text ≡ whole → text ≡ whole
unfolding digits
digits-done base zero rest text h e = e
digits-done base (suc k) rest text h e = absurd (omega arith)

-- ---- how many

pub places-done : (left rest : ℕ) → rest < 10 → places left rest ≡ 1
unfolding places
places-done zero rest h = refl
places-done (suc left) rest h = rw (lt-ltb rest 10 h)

pub places-more : (left k rest : ℕ) → left ≡ suc k → 10 ≤ rest → places left rest ≡ 1 + places k (rest / 10)
unfolding places
places-more left k rest e h = rw (e, le-ltb rest 10 h)

pub places-none : (left rest : ℕ) → left ≡ 0 → places left rest ≡ 1
unfolding places
places-none left rest e = rw e

-- ---- decimal numbers

-- as many digits as a bound allows
abbrev spelt : ℕ → ℕ → List ℕ
spelt zero n = []
spelt (suc k) n = digits 10 (places k n) n

spelt_one : (k n : ℕ) → n < 10 → spelt (suc k) n ≡ (48 + n) ∷ []
unfolding digits places
spelt_one zero n h = rw (glyph-low (n % 10) (omega arith)) (ap (λ (d : ℕ). d ∷ []) (omega arith))
spelt_one (suc k) n h = rw (lt-ltb n 10 h, glyph-low (n % 10) (omega arith)) (ap (λ (d : ℕ). d ∷ []) (omega arith))

spelt-more : (k n : ℕ) → 10 ≤ n → spelt (suc k) n ≡ spelt k (n / 10) ++ ((48 + n % 10) ∷ [])
unfolding digits places
spelt-more zero n h = rw (glyph-low (n % 10) (omega arith))
spelt-more (suc k) n h =
    rw (le-ltb n 10 h, add_comm 1 (places k (n / 10)), add-one (places k (n / 10)), glyph-low (n % 10) (omega arith))

-- what std prints of a number of 32 bits
pub decimal-printed : (n : ℕ) → n < 2 ^ 32 → std_decimal n ≡ decimal n
unfolding decimal
decimal-printed n h = sym (decimal_from_appends spelt (record { one = spelt_one; more = spelt-more }) 10 n (omega arith) (length-decimal-le 10 n (omega arith) (omega arith) (omega arith)))

-- one of a digit
pub decimal_one : (n : ℕ) → n < 10 → decimal n ≡ (48 + n) ∷ []
unfolding decimal
decimal_one n h = spelt_one 9 n h

-- ---- one text behind another

pub said_then : {out next last xs ys : List ℕ} {at mid end : ℕ} → Said out at xs next mid → Said next mid ys last end → Said out at (xs ++ ys) last end
said_then {out} {next} {last} {xs} {ys} {at} {mid} {end} a b =
    record {
      stored = b.stored ∙ rw a.stored (sets-run xs ys out at mid a.ends);
      ends = b.ends ∙ rw (a.ends, length-append) (omega arith);
    }

-- a writer keeps the buffer's length
pub said-long : {out next xs : List ℕ} {at end : ℕ} → Said out at xs next end → length next ≡ length out
said-long {out} {next} {xs} {at} {end} a = rw a.stored (length-sets out at xs)

pub tells_then : {s s' s'' : Text} {xs ys : List ℕ} → Tells s xs s' → Tells s' ys s'' → Tells s (xs ++ ys) s''
tells_then a b =
    record {
      said = said_then a.said b.said;
      same_buffer = b.same_buffer ∙ a.same_buffer;
      same_length = b.same_length ∙ a.same_length;
    }

pub tells_none : (s : Text) → Tells s [] s
tells_none s = record { said = record { stored = refl; ends = omega arith }; same_buffer = refl; same_length = refl }

-- Contents of a fixed number of bytes: what is told of them follows from what is found in exactly so many, and in no other number of bytes is a value.
use Rattle.std.specs.Prelude.{Some, None}
use mathlib.Core.Path.{◌≡◌, refl, sym, ap, ◌∙◌}
use mathlib.Core.Bool.{true, false}
use mathlib.Core.List.{List, [], ◌∷◌}
use Prim.Native.Nat.{ℕ, ◌+◌, ◌*◌, ◌/◌, ◌%◌, ◌<◌, ◌≤◌}
use native.Mathlib.Omega.{arith}
use lib.Dec.{eqb, ltb}
use lib.ListN.{length, get_or, drop_of_length-le}
use lib.Seq.{drop-cons}
use borrow.Author.Tests.{ltb-true, ltb-false, eqb-true, eq-eqb, ne_eqb}
use Rattle.octets.specs.Runs.{gets}
use Rattle.octets.specs.Numbers.{be}
use Rattle.octets.proofs.NumbersLaws.{be-run}
use Rattle.rules.proofs.TestLaws.{by_test}
use Rattle.formats.specs.Format.{Found, nothing, found, after, all_of, number, as_if}
use Rattle.formats.specs.Bits.{Field, width, cut, padded, bits}
use Rattle.formats.specs.Summary.{summed}
use Rattle.formats.proofs.ReadLaws.{number_cut, number-found, bits-cut, bits-set, bits-found}
use Rattle.wire.specs.Frame.{blank_fields}
use Rattle.wire.specs.Messages.{the_transaction, the_requested, the_indicator}
use Rattle.wire.specs.MessageTree.{Contents, transaction, requested, cancel_all, transaction_fields, contents_by}
use Rattle.wire.specs.declared.Message.TheVariants.{CancelRequest}
use Rattle.wire.specs.Readers.{kept, Tells}
use Rattle.wire.specs.declared.Heard.TheVariants.{Transaction, Requested, CancelAll}

-- contents that are said otherwise are told of by what is all of the bytes
told : {A : Type 0} (to : A → Contents) (x y : Found A) → all_of x [] ≡ y → all_of (summed kept (after x (λ a r. found (to a) r))) [] ≡ summed (λ a. kept (to a)) y
told to nothing y e = ap (summed (λ a. kept (to a))) e
told to (found a []) y e = ap (summed (λ a. kept (to a))) e
told to (found a (b ∷ bs)) y e = ap (summed (λ a. kept (to a))) e

-- a byte as a number
pub byte_at : (l : List ℕ) (i : ℕ) → get_or l i 0 ≡ be (gets l i 1)
unfolding be gets
byte_at l i = omega arith

-- ---- a number, and fields in bits

module _ (l : List ℕ) (w : ℕ) where
  number_all : length l ≡ w → all_of ((number w).parse l) [] ≡ found (be (gets l 0 w)) []
  number_all h = let most : length l ≤ w = omega arith in rw (number-found l 0 w w (omega arith) (omega arith), drop_of_length-le l most)

  number-not_all : (length l ≡ w → ⊥) → all_of ((number w).parse l) [] ≡ nothing
  number-not_all other =
      by_test (ltb (length l) w)
      (λ t. fewer (ltb-true (length l) w t))
      (λ t. more (omega (arith, other, ltb-false (length l) w t)))
    where
      fewer : length l < w → all_of ((number w).parse l) [] ≡ nothing
      fewer h = rw (number_cut l 0 w w (omega arith) (omega arith) h)

      more : w < length l → all_of ((number w).parse l) [] ≡ nothing
      more h = rw (number-found l 0 w w (omega arith) (omega arith), drop-cons l w 0 h)

module _ (l : List ℕ) (w : ℕ) (fs : List Field) where
  bits-not_all : (length l ≡ w → ⊥) → all_of ((bits w fs).parse l) [] ≡ nothing
  bits-not_all other =
      by_test (ltb (length l) w)
      (λ t. fewer (ltb-true (length l) w t))
      (λ t. more (omega (arith, other, ltb-false (length l) w t)))
    where
      fewer : length l < w → all_of ((bits w fs).parse l) [] ≡ nothing
      fewer h = rw (bits-cut l 0 w w (omega arith) fs (omega arith) h)

      more : w < length l → all_of ((bits w fs).parse l) [] ≡ nothing
      more h =
          by_test (padded fs (be (gets l 0 w)))
          (λ t. rw (bits-found l 0 w w (omega arith) fs (be (gets l 0 w)) (omega arith) refl t, drop-cons l w 0 h))
          (λ t. rw (bits-set l 0 w w (omega arith) fs (be (gets l 0 w)) (omega arith) refl t))

  module _ (n : ℕ) (h : length l ≡ w) (here : n ≡ be (gets l 0 w)) where
    bits-refused : padded fs n ≡ false → all_of ((bits w fs).parse l) [] ≡ nothing
    bits-refused t = rw (bits-set l 0 w w (omega arith) fs n (omega arith) here t)

    bits_all : padded fs n ≡ true → all_of ((bits w fs).parse l) [] ≡ found (cut fs n) []
    bits_all t = let most : length l ≤ w = omega arith in rw (bits-found l 0 w w (omega arith) fs n (omega arith) here t, drop_of_length-le l most)

-- ---- cancel-all

pub blank-padded : (n : ℕ) → n ≡ 0 → padded blank_fields n ≡ true
unfolding padded width
blank-padded n e = rw e

pub blank-set : (n : ℕ) → (n ≡ 0 → ⊥) → padded blank_fields n ≡ false
unfolding padded width
blank-set n other =
    by_test (eqb (n / 128) 0)
    (λ t. let top : n / 128 ≡ 0 = eqb-true (n / 128) 0 t in let low : n % 128 / 1 ≡ 0 → ⊥ = λ e. other (omega arith) in rw (t, ne_eqb (n % 128 / 1) 0 low))
    (λ t. rw t)

module _ (l : List ℕ) where
  pub indicator-length : (length l ≡ 1 → ⊥) → Tells (contents_by CancelRequest the_indicator) l None
  unfolding contents_by as_if
  indicator-length other = sym (told (λ vs. cancel_all) ((bits 1 blank_fields).parse l) nothing (bits-not_all l 1 blank_fields other))

  module _ (n : ℕ) (h : length l ≡ 1) (here : n ≡ be (gets l 0 1)) where
    pub indicator-set : (n ≡ 0 → ⊥) → Tells (contents_by CancelRequest the_indicator) l None
    unfolding contents_by as_if
    indicator-set other = sym (told (λ vs. cancel_all) ((bits 1 blank_fields).parse l) nothing (bits-refused l 1 blank_fields n h here (blank-set n other)))

    pub indicator-there : n ≡ 0 → Tells (contents_by CancelRequest the_indicator) l (Some CancelAll)
    unfolding contents_by as_if
    indicator-there e = sym (told (λ vs. cancel_all) ((bits 1 blank_fields).parse l) (found (cut blank_fields n) []) (bits_all l 1 blank_fields n h here (blank-padded n e)))

-- ---- the number of broadcasts

module _ (l : List ℕ) where
  pub requested-length : (length l ≡ 2 → ⊥) → Tells (contents_by CancelRequest the_requested) l None
  unfolding contents_by as_if
  requested-length other = sym (told requested ((number 2).parse l) nothing (number-not_all l 2 other))

  pub requested-there : (n : ℕ) → length l ≡ 2 → n ≡ be (gets l 0 2) → Tells (contents_by CancelRequest the_requested) l (Some (Requested n))
  unfolding contents_by as_if
  requested-there n h here = rw here (sym (told requested ((number 2).parse l) (found (be (gets l 0 2)) []) (number_all l 2 h)))

-- ---- the transaction identifier

transaction-padded : (n : ℕ) → n < 256 → padded transaction_fields n ≡ true
unfolding padded width
transaction-padded n h =
    let a : n / 32768 ≡ 0 = omega arith in
    let b : n % 32768 / 256 ≡ 0 = omega arith in
    rw (eq-eqb (n / 32768) 0 a, eq-eqb (n % 32768 / 256) 0 b)

transaction-cut : (n : ℕ) → n < 256 → cut transaction_fields n ≡ n ∷ []
unfolding cut width
transaction-cut n h = let a : n % 32768 % 256 / 1 ≡ n = omega arith in rw a

transaction-set : (n : ℕ) → 256 ≤ n → padded transaction_fields n ≡ false
unfolding padded width
transaction-set n h =
    by_test (eqb (n / 32768) 0)
    (λ t. let top : n / 32768 ≡ 0 = eqb-true (n / 32768) 0 t in let low : n % 32768 / 256 ≡ 0 → ⊥ = λ e. omega arith in rw (t, ne_eqb (n % 32768 / 256) 0 low))
    (λ t. rw t)

module _ (l : List ℕ) where
  pub transaction-length : (length l ≡ 2 → ⊥) → Tells (contents_by CancelRequest the_transaction) l None
  unfolding contents_by as_if
  transaction-length other = sym (told (λ vs. transaction (get_or vs 0 0)) ((bits 2 transaction_fields).parse l) nothing (bits-not_all l 2 transaction_fields other))

  module _ (h : length l ≡ 2) (first : ℕ) (here : first ≡ be (gets l 0 1)) where
    two : be (gets l 0 1) * 256 + be (gets l 1 1) ≡ be (gets l 0 2)
    two = be-run 1 1 l 0 1 refl

    pub transaction-extended : (first ≡ 0 → ⊥) → Tells (contents_by CancelRequest the_transaction) l None
    unfolding contents_by as_if
    transaction-extended other =
        let large : 256 ≤ be (gets l 0 2) = omega (arith, other, two) in
        sym (told (λ vs. transaction (get_or vs 0 0)) ((bits 2 transaction_fields).parse l) nothing (bits-refused l 2 transaction_fields (be (gets l 0 2)) h refl (transaction-set (be (gets l 0 2)) large)))

    pub transaction-there : first ≡ 0 → (t : ℕ) → t ≡ be (gets l 1 1) → t < 256 → Tells (contents_by CancelRequest the_transaction) l (Some (Transaction t))
    unfolding contents_by as_if
    transaction-there e t second small =
        let all : t ≡ be (gets l 0 2) = omega (arith, two) in
        sym (told (λ vs. transaction (get_or vs 0 0)) ((bits 2 transaction_fields).parse l) (found (t ∷ []) [])
        (bits_all l 2 transaction_fields t h all (transaction-padded t small) ∙ ap (λ (vs : List ℕ). found vs []) (transaction-cut t small)))

-- A number other than 0 means length 0 and every byte as it was; the number 0 means that every test was passed.
-- By the cases of the verdict; no refusal has the number 0.
use Rattle.std.specs.Prelude.{Ok, Err}
use mathlib.Core.Path.{◌≡◌, refl}
use mathlib.Core.List.{List}
use Prim.Native.Nat.{ℕ, ◌<◌}
use native.Mathlib.Omega.{arith}
use lib.ListN.{length}
use Rattle.rules.specs.Layout.{Version, current}
use Rattle.rules.specs.Record.{request_of, items_of}
use Rattle.rules.specs.Refusals.{number_of, record_verdict, write_verdict, apply_verdict, build_verdict, convert_verdict, Verdict}
use Rattle.rules.specs.Applied.{fill, built, conversion, written, no_request, reading, read_of, outcome, applied}
use Rattle.rules.specs.declared.Request.{Request}
use Rattle.rules.specs.declared.Refusal.{Refusal}
use Rattle.rules.specs.declared.Refusal.TheVariants.{TableMark, TableWrong, RecordMark, RecordLength, RecordFields, RecordLimits, CancelsNothing, ShortBuffer, BadHeads, ListDamaged, TooManySegments, NoSuchSegment, BadEncoding, OtherMessage, UnknownElement, ElementsWrong, AnswerWrong}

pub number_positive : (x : Refusal) → 0 < number_of x
number_positive TableMark = omega arith
number_positive TableWrong = omega arith
number_positive RecordMark = omega arith
number_positive RecordLength = omega arith
number_positive RecordFields = omega arith
number_positive RecordLimits = omega arith
number_positive CancelsNothing = omega arith
number_positive ShortBuffer = omega arith
number_positive BadHeads = omega arith
number_positive ListDamaged = omega arith
number_positive TooManySegments = omega arith
number_positive NoSuchSegment = omega arith
number_positive BadEncoding = omega arith
number_positive OtherMessage = omega arith
number_positive UnknownElement = omega arith
number_positive ElementsWrong = omega arith
number_positive AnswerWrong = omega arith

-- ---- a buffer that is filled

pub fill-accepted : (v : Verdict) (bs buffer : List ℕ) → (fill v bs buffer).number ≡ 0 → v ≡ Ok tt
unfolding fill
fill-accepted (Ok tt) bs buffer e = refl
fill-accepted (Err x) bs buffer e = absurd (omega (arith, number_positive x))

pub fill-refused : (v : Verdict) (bs buffer : List ℕ) → ((fill v bs buffer).number ≡ 0 → ⊥) → ((fill v bs buffer).length ≡ 0) × ((fill v bs buffer).buffer ≡ buffer)
unfolding fill
fill-refused (Ok tt) bs buffer h = absurd (h refl)
fill-refused (Err x) bs buffer h = (refl, refl)

module _ (heads buffer : List ℕ) where
  pub built-accepted : (built heads buffer).number ≡ 0 → build_verdict heads (length buffer) ≡ Ok tt
  unfolding built
  built-accepted e = fill-accepted (build_verdict heads (length buffer)) _ buffer e

  pub built-refused : ((built heads buffer).number ≡ 0 → ⊥) → ((built heads buffer).length ≡ 0) × ((built heads buffer).buffer ≡ buffer)
  unfolding built
  built-refused h = fill-refused (build_verdict heads (length buffer)) _ buffer h

module _ (old buffer : List ℕ) where
  pub conversion-refused : ((conversion old buffer).number ≡ 0 → ⊥) → ((conversion old buffer).length ≡ 0) × ((conversion old buffer).buffer ≡ buffer)
  unfolding conversion
  conversion-refused h = fill-refused (convert_verdict old (length buffer)) _ buffer h

module _ (q : Request) (items buffer : List ℕ) where
  pub written-accepted : (written q items buffer).number ≡ 0 → write_verdict q items (length buffer) ≡ Ok tt
  unfolding written
  written-accepted e = fill-accepted (write_verdict q items (length buffer)) _ buffer e

  pub written-refused : ((written q items buffer).number ≡ 0 → ⊥) → ((written q items buffer).length ≡ 0) × ((written q items buffer).buffer ≡ buffer)
  unfolding written
  written-refused h = fill-refused (write_verdict q items (length buffer)) _ buffer h

-- ---- a record that is read

reading-accepted : (v : Verdict) (r : List ℕ) → (reading v r).number ≡ 0 → v ≡ Ok tt
unfolding reading
reading-accepted (Ok tt) r e = refl
reading-accepted (Err x) r e = absurd (omega (arith, number_positive x))

reading-refused : (v : Verdict) (r : List ℕ) → ((reading v r).number ≡ 0 → ⊥) → ((reading v r).request ≡ no_request) × ((reading v r).items ≡ 0)
unfolding reading
reading-refused (Ok tt) r h = absurd (h refl)
reading-refused (Err x) r h = (refl, refl)

module _ (r : List ℕ) where
  pub read-accepted : (read_of r).number ≡ 0 → record_verdict current r ≡ Ok tt
  unfolding read_of
  read-accepted e = reading-accepted (record_verdict current r) r e

  pub read-refused : ((read_of r).number ≡ 0 → ⊥) → ((read_of r).request ≡ no_request) × ((read_of r).items ≡ 0)
  unfolding read_of
  read-refused h = reading-refused (record_verdict current r) r h

-- ---- a request that is applied

module _ (v : Version) (q : Request) (items t a : List ℕ) where
  outcome-accepted : (d : Verdict) → (outcome v d q items t a).number ≡ 0 → d ≡ Ok tt
  unfolding outcome
  outcome-accepted (Ok tt) e = refl
  outcome-accepted (Err x) e = absurd (omega (arith, number_positive x))

  outcome-refused : (d : Verdict) → ((outcome v d q items t a).number ≡ 0 → ⊥)
      → ((outcome v d q items t a).length ≡ 0) × ((outcome v d q items t a).table ≡ t) × ((outcome v d q items t a).answer ≡ a)
  unfolding outcome
  outcome-refused (Ok tt) h = absurd (h refl)
  outcome-refused (Err x) h = (refl, refl, refl)

module _ (v : Version) (t r a : List ℕ) where
  pub applied-accepted : (applied v t r a).number ≡ 0 → apply_verdict v t r (length a) ≡ Ok tt
  unfolding applied
  applied-accepted e = outcome-accepted v (request_of r) (items_of r) t a (apply_verdict v t r (length a)) e

  pub applied-refused : ((applied v t r a).number ≡ 0 → ⊥)
      → ((applied v t r a).length ≡ 0) × ((applied v t r a).table ≡ t) × ((applied v t r a).answer ≡ a)
  unfolding applied
  applied-refused h = outcome-refused v (request_of r) (items_of r) t a (apply_verdict v t r (length a)) h

-- Document 01's numbers and values settle the answer: no two refusals, answers or readings say the same.
-- A refusal is found again by its number; a length or a request only comes with the number 0.
use Rattle.std.specs.Prelude.{Ok, Err}
use mathlib.Core.Path.{◌≡◌, refl, sym, ap, ◌∙◌}
use mathlib.Core.List.{List, [], ◌∷◌}
use Prim.Native.Nat.{ℕ}
use native.Mathlib.Omega.{arith}
use lib.ListN.{get_or}
use Rattle.rules.specs.Refusals.{number_of, writing_number, writing_length, Writing, Reading}
use Rattle.rules.specs.Applied.{Filled, ReadOutcome, Outcome, filled_by, read_by, outcome_by}
use Rattle.rules.specs.declared.Refusal.{Refusal}
use Rattle.rules.specs.declared.Refusal.TheVariants.{TableMark, TableWrong, RecordMark, RecordLength, RecordFields, RecordLimits, CancelsNothing, ShortBuffer, BadHeads, ListDamaged, TooManySegments, NoSuchSegment, BadEncoding, OtherMessage, UnknownElement, ElementsWrong, AnswerWrong}
use Rattle.rules.proofs.OutcomeLaws.{number_positive}

-- the refusal with a number; none has 0
numbered : ℕ → Refusal
numbered n =
    get_or (TableMark ∷ TableMark ∷ TableWrong ∷ RecordMark ∷ RecordLength ∷ RecordFields ∷ RecordLimits ∷ CancelsNothing ∷ ShortBuffer ∷ BadHeads ∷ ListDamaged ∷ TooManySegments ∷ NoSuchSegment ∷ BadEncoding ∷ OtherMessage ∷ UnknownElement ∷ ElementsWrong ∷ AnswerWrong ∷ []) n TableMark

numbered-number : (x : Refusal) → numbered (number_of x) ≡ x
unfolding numbered
numbered-number TableMark = refl
numbered-number TableWrong = refl
numbered-number RecordMark = refl
numbered-number RecordLength = refl
numbered-number RecordFields = refl
numbered-number RecordLimits = refl
numbered-number CancelsNothing = refl
numbered-number ShortBuffer = refl
numbered-number BadHeads = refl
numbered-number ListDamaged = refl
numbered-number TooManySegments = refl
numbered-number NoSuchSegment = refl
numbered-number BadEncoding = refl
numbered-number OtherMessage = refl
numbered-number UnknownElement = refl
numbered-number ElementsWrong = refl
numbered-number AnswerWrong = refl

pub number_injective : (x y : Refusal) → number_of x ≡ number_of y → x ≡ y
number_injective x y e = sym (numbered-number x) ∙ ap numbered e ∙ numbered-number y

pub writing_injective : (x y : Writing) → writing_number x ≡ writing_number y → writing_length x ≡ writing_length y → x ≡ y
writing_injective (Ok m) (Ok n) e l = ap Ok l
writing_injective (Ok m) (Err y) e l = absurd (omega (arith, number_positive y))
writing_injective (Err x) (Ok n) e l = absurd (omega (arith, number_positive x))
writing_injective (Err x) (Err y) e l = ap Err (number_injective x y e)

-- an answer and the buffer that it leaves
pub filled_injective : (x y : Writing) (a b : List ℕ) → filled_by x a ≡ filled_by y b → (x ≡ y) × (a ≡ b)
filled_injective x y a b e =
    (writing_injective x y (ap (λ (f : Filled). f.number) e) (ap (λ (f : Filled). f.length) e), ap (λ (f : Filled). f.buffer) e)

-- an answer and the two buffers that it leaves
pub outcome_injective : (x y : Writing) (t a u b : List ℕ) → outcome_by x t a ≡ outcome_by y u b → (x ≡ y) × (t ≡ u) × (a ≡ b)
outcome_injective x y t a u b e =
    (writing_injective x y (ap (λ (o : Outcome). o.number) e) (ap (λ (o : Outcome). o.length) e), ap (λ (o : Outcome). o.table) e, ap (λ (o : Outcome). o.answer) e)

pub reading_injective : (x y : Reading) → read_by x ≡ read_by y → x ≡ y
reading_injective (Ok (p, m)) (Ok (q, n)) e =
    let r : p ≡ q = ap (λ (o : ReadOutcome). o.request) e in
    let i : m ≡ n = ap (λ (o : ReadOutcome). o.items) e in
    rw (r, i)
reading_injective (Ok (p, m)) (Err y) e =
    let z = ap (λ (o : ReadOutcome). o.number) e in
    absurd (omega (arith, number_positive y))
reading_injective (Err x) (Ok (q, n)) e =
    let z = ap (λ (o : ReadOutcome). o.number) e in
    absurd (omega (arith, number_positive x))
reading_injective (Err x) (Err y) e = ap Err (number_injective x y (ap (λ (o : ReadOutcome). o.number) e))

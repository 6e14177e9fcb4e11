-- Document 01's numbered refusals: when each is given, and in which order they are tested.
use Rattle.std.specs.Prelude.{◌≡◌, Result, Bool, true, false, not, ◌&&◌, List, [], ◌∷◌, ◌++◌, map, ℕ, ◌+◌, ◌*◌, ◌/◌, ◌%◌, eqb, leb, length, Ok, Err}
use Rattle.octets.specs.Runs.{pieces}
use Rattle.rules.specs.Lists.{every, ascending}
use Rattle.rules.specs.Layout.{Version, version_number, current, longest_period, header_size, head_size, cell_size, most_cells, record_size, item_size, most_items}
use Rattle.rules.specs.Table.{legal_head, identity_at, cell_count, own_version, table_marked, older_marked, legal_table}
use Rattle.rules.specs.Record.{written_in, longest_asked, request_of, zero_byte, item_count, items_of, record_marked, kind_allows, area_fits, within_limits, cancels_nothing}
use Rattle.rules.specs.Answer.{room_for}
use Rattle.rules.specs.declared.Seconds.{Seconds}
use Rattle.rules.specs.declared.Request.{Request}
use Rattle.rules.specs.declared.Refusal.{Refusal}
use Rattle.rules.specs.declared.Refusal.TheVariants.{TableMark, TableWrong, RecordMark, RecordLength, RecordFields, RecordLimits, CancelsNothing, ShortBuffer, BadHeads, ListDamaged, TooManySegments, NoSuchSegment, BadEncoding, OtherMessage, UnknownElement, ElementsWrong, AnswerWrong}

-- ---- what a judge says; what whoever fills a buffer answers, which is the length written; what the reader answers, which is the fields and the count of items

abbrev pub Verdict : Type 0
Verdict = Result (Unit {0}) Refusal

abbrev pub Writing : Type 0
Writing = Result ℕ Refusal

abbrev pub Reading : Type 0
Reading = Result (Request × ℕ) Refusal

-- ---- numbers: 10 to 12 are those of a list of segments (crate segments), 13 to 16 those of a message on the wire (crate wire), 17 that of an answer to be sent there

abbrev pub number_of : Refusal → ℕ
number_of TableMark = 1
number_of TableWrong = 2
number_of RecordMark = 3
number_of RecordLength = 4
number_of RecordFields = 5
number_of RecordLimits = 6
number_of CancelsNothing = 7
number_of ShortBuffer = 8
number_of BadHeads = 9
number_of ListDamaged = 10
number_of TooManySegments = 11
number_of NoSuchSegment = 12
number_of BadEncoding = 13
number_of OtherMessage = 14
number_of UnknownElement = 15
number_of ElementsWrong = 16
number_of AnswerWrong = 17

abbrev pub verdict_number : Verdict → ℕ
verdict_number (Ok tt) = 0
verdict_number (Err x) = number_of x

-- "A refusal returns its number and length 0"; "Success returns 0 and the length written"
abbrev pub writing_number : Writing → ℕ
writing_number (Ok n) = 0
writing_number (Err x) = number_of x

abbrev pub writing_length : Writing → ℕ
writing_length (Ok n) = n
writing_length (Err x) = 0

-- ---- tests in order

abbrev pub refuse_unless : Bool → Refusal → Verdict
refuse_unless true x = Ok tt
refuse_unless false x = Err x

-- the first that refuses
infixr 20 ◌then◌
abbrev pub ◌then◌ : Verdict → Verdict → Verdict
(Ok tt) then v = v
Err x then v = Err x

-- what must hold, and the refusal that is given where it does not
pub record Test : Type 0 where
  pub holds : Bool
  pub refusal : Refusal

abbrev pub test : Bool → Refusal → Test
test b x = record { holds = b; refusal = x }

-- the refusal of the first test that fails
abbrev pub first_of : List Test → Verdict
first_of [] = Ok tt
first_of (t ∷ ts) = refuse_unless t.holds t.refusal then first_of ts

-- ---- the tests, by their numbers. 1: table_marked, of an older version older_marked. 2: legal_table. 3: record_marked. 6: within_limits

-- 4
abbrev pub few_items : ℕ → Bool
few_items n = leb n most_items

abbrev pub right_length : List ℕ → Bool
right_length r = few_items (item_count r) && eqb (length r) (record_size + item_size (written_in r) * item_count r)

-- 5: of n items, and whether the zero byte is zero
abbrev pub fields_allowed : Bool → Request → ℕ → Bool
fields_allowed zero q n = zero && kind_allows q && area_fits q n

-- 7
abbrev pub cancels_some : Request → Bool
cancels_some q = not (cancels_nothing q)

-- 8
abbrev pub fits_in : ℕ → ℕ → Bool
fits_in needed room = leb needed room

abbrev pub head_count : List ℕ → ℕ
head_count heads = length heads / head_size current

abbrev pub head_runs : List ℕ → List (List ℕ)
head_runs heads = pieces (head_size current) (head_count heads) heads

-- 9: length a multiple of 24, N 1 to 512, legal heads, strictly ascending by NR CGI
unfoldable pub legal_heads : List ℕ → Bool
legal_heads heads =
    eqb (length heads % head_size current) 0
    && (leb 1 (head_count heads) && leb (head_count heads) most_cells)
    && every (legal_head current) (head_runs heads)
    && ascending (map (identity_at current) (head_runs heads))

-- ---- which are made, in which order

-- 1, 2
abbrev pub table_tests : Version → List ℕ → List Test
table_tests v t = test (table_marked (version_number v) t) TableMark ∷ test (legal_table v t) TableWrong ∷ []

-- 5, 6, 7: what is asked of the fields and the items, read or to be written, under a longest period
abbrev pub request_tests : Bool → Seconds → Request → List ℕ → List Test
request_tests zero longest q items =
    test (fields_allowed zero q (length items)) RecordFields
    ∷ test (within_limits longest q items) RecordLimits
    ∷ test (cancels_some q) CancelsNothing
    ∷ []

-- 3 to 7
abbrev pub record_tests : Version → List ℕ → List Test
record_tests v r =
    test (record_marked v r) RecordMark
    ∷ test (right_length r) RecordLength
    ∷ request_tests (eqb (zero_byte r) 0) (longest_asked r) (request_of r) (items_of r)

-- 4 (n only), 5, 6, 7, 8
abbrev pub write_tests : Request → List ℕ → ℕ → List Test
write_tests q items room =
    (test (few_items (length items)) RecordLength ∷ request_tests true (longest_period current) q items)
    ++ (test (fits_in (record_size + item_size current * length items) room) ShortBuffer ∷ [])

-- 1 to 8
abbrev pub apply_tests : Version → List ℕ → List ℕ → ℕ → List Test
apply_tests v t r room =
    table_tests v t
    ++ (record_tests v r ++ (test (fits_in (room_for v (request_of r).kind (cell_count t)) room) ShortBuffer ∷ []))

-- 9, then 8
abbrev pub build_tests : List ℕ → ℕ → List Test
build_tests heads room =
    test (legal_heads heads) BadHeads
    ∷ test (fits_in (header_size + cell_size current * head_count heads) room) ShortBuffer
    ∷ []

-- 1, 2 of a table of an older version, whichever it says it is: 1 for any other
abbrev pub older_tests : List ℕ → List Test
older_tests old = test (older_marked old) TableMark ∷ test (legal_table (own_version old) old) TableWrong ∷ []

-- converting a table: 1, 2, then 8
abbrev pub convert_tests : List ℕ → ℕ → List Test
convert_tests old room =
    older_tests old
    ++ (test (fits_in (header_size + cell_size current * cell_count old) room) ShortBuffer ∷ [])

-- ---- the verdicts

unfoldable pub table_verdict : Version → List ℕ → Verdict
table_verdict v t = first_of (table_tests v t)

unfoldable pub older_verdict : List ℕ → Verdict
older_verdict old = first_of (older_tests old)

unfoldable pub request_verdict : Seconds → Request → List ℕ → Verdict
request_verdict longest q items = first_of (request_tests true longest q items)

unfoldable pub record_verdict : Version → List ℕ → Verdict
record_verdict v r = first_of (record_tests v r)

unfoldable pub write_verdict : Request → List ℕ → ℕ → Verdict
write_verdict q items room = first_of (write_tests q items room)

unfoldable pub apply_verdict : Version → List ℕ → List ℕ → ℕ → Verdict
apply_verdict v t r room = first_of (apply_tests v t r room)

unfoldable pub build_verdict : List ℕ → ℕ → Verdict
build_verdict heads room = first_of (build_tests heads room)

unfoldable pub convert_verdict : List ℕ → ℕ → Verdict
convert_verdict old room = first_of (convert_tests old room)

-- ---- when a number is given

abbrev pub Held : List Test → Type 0
Held [] = Unit {0}
Held (t ∷ ts) = (t.holds ≡ true) × Held ts

-- x's test fails, and all before it hold
pub record FailsFirst (x : Refusal) (ts : List Test) : Type 0 where
  pub before : List Test
  pub behind : List Test
  pub split : ts ≡ before ++ (test false x ∷ behind)
  pub held : Held before

-- a verdict refuses with x exactly if x's test is the first that fails, and accepts exactly if all hold
pub record Exact (v : Verdict) (ts : List Test) : Type 0 where
  pub refused : (x : Refusal) → v ≡ Err x → FailsFirst x ts
  pub refuses : (x : Refusal) → FailsFirst x ts → v ≡ Err x
  pub accepted : v ≡ Ok tt → Held ts
  pub accepts : Held ts → v ≡ Ok tt

-- each number has one test, and the lower number is tested first
abbrev pub LowestFirst : List Test → Type 0
LowestFirst ts = ascending (map (λ t. number_of t.refusal) ts) ≡ true

pub record VerdictsHold : Type 0 where
  pub table : (v : Version) (t : List ℕ) → Exact (table_verdict v t) (table_tests v t) × LowestFirst (table_tests v t)
  pub older : (old : List ℕ) → Exact (older_verdict old) (older_tests old) × LowestFirst (older_tests old)
  pub read : (v : Version) (r : List ℕ) → Exact (record_verdict v r) (record_tests v r) × LowestFirst (record_tests v r)
  pub write : (q : Request) (items : List ℕ) (room : ℕ) → Exact (write_verdict q items room) (write_tests q items room) × LowestFirst (write_tests q items room)
  pub apply : (v : Version) (t r : List ℕ) (room : ℕ) → Exact (apply_verdict v t r room) (apply_tests v t r room) × LowestFirst (apply_tests v t r room)
  -- "except that the builder tests 9, then 8"
  pub build : (heads : List ℕ) (room : ℕ) → Exact (build_verdict heads room) (build_tests heads room)
  pub convert : (old : List ℕ) (room : ℕ) → Exact (convert_verdict old room) (convert_tests old room) × LowestFirst (convert_tests old room)

-- The words of the samples: tables, records and answers as bytes written out by hand, and what is claimed of a sample.
use Rattle.std.specs.Prelude.{◌≡◌, List, [], ◌∷◌, ◌++◌, ℕ, ◌/◌, ◌%◌, ◌*◌, ◌-◌, length, drop, replicate}
use Rattle.rules.specs.Layout.{current}
use Rattle.rules.specs.Applied.{Outcome, applied}

-- ---- bytes

abbrev pub word : ℕ → List ℕ
word n = n / 256 ∷ n % 256 ∷ []

abbrev pub long : ℕ → List ℕ
long n = word (n / 65536) ++ word (n % 65536)

-- the header of a table of n cells
abbrev pub header : ℕ → List ℕ
header n = 80 ∷ 87 ∷ 84 ∷ 0 ∷ 2 ∷ 0 ∷ n ∷ 4 ∷ replicate 8 0

-- 00f1100000000 and two more digits
abbrev pub identity : ℕ → List ℕ
identity x = 0 ∷ 15 ∷ 17 ∷ 0 ∷ 0 ∷ 0 ∷ 0 ∷ x ∷ []

-- a head without emergency areas
abbrev pub head : ℕ → ℕ → List ℕ
head x code = identity x ++ (0 ∷ 0 ∷ code ∷ 0 ∷ replicate 12 0)

-- a live place of serial number 16, with its SIB kind
abbrev pub text_of_sib : ℕ → ℕ → ℕ → ℕ → ℕ → ℕ → ℕ → List ℕ
text_of_sib sib identifier content period requested sent wait =
    word identifier
    ++ (0 ∷ 16 ∷ long content)
    ++ (long period ++ word requested ++ word sent ++ long wait)
    ++ (sib ∷ 1 ∷ 0 ∷ 0 ∷ [])

abbrev pub text : ℕ → ℕ → ℕ → ℕ → ℕ → ℕ → List ℕ
text = text_of_sib 8

abbrev pub free : ℕ → List ℕ
free n = replicate (24 * n) 0

-- a record of a version: kind, flags, area, identifier, serial number, content, period, requested, SIB kind, item count, items
abbrev pub request_in : ℕ → ℕ → ℕ → ℕ → ℕ → ℕ → ℕ → ℕ → ℕ → ℕ → ℕ → List ℕ → List ℕ
request_in version kind flags area identifier serial content period requested sib n items =
    80
    ∷ 87
    ∷ 82
    ∷ 0
    ∷ version
    ∷ kind
    ∷ flags
    ∷ area
    ∷ word identifier
    ++ (word serial ++ long content ++ long period ++ word requested)
    ++ (sib ∷ 0 ∷ word n)
    ++ items

abbrev pub request : ℕ → ℕ → ℕ → ℕ → ℕ → ℕ → ℕ → ℕ → ℕ → ℕ → List ℕ → List ℕ
request = request_in 2

-- Write-Replace of serial number 16, with its SIB kind, no area
abbrev pub starts_of : ℕ → ℕ → ℕ → ℕ → ℕ → ℕ → List ℕ
starts_of sib flags identifier content period requested = request 1 flags 0 identifier 16 content period requested sib 0 []

abbrev pub starts : ℕ → ℕ → ℕ → ℕ → ℕ → List ℕ
starts = starts_of 8

-- Cancel, with an area's number, item count and items
abbrev pub cancels : ℕ → ℕ → ℕ → ℕ → ℕ → List ℕ → List ℕ
cancels flags identifier serial area n items = request 2 flags area identifier serial 0 0 0 0 n items

abbrev pub passes : List ℕ
passes = request 5 0 0 0 0 0 0 0 0 0 []

-- an answer's head, and a row
abbrev pub answers : ℕ → ℕ → ℕ → ℕ → List ℕ
answers kind identifier serial rows = 80 ∷ 87 ∷ 65 ∷ 0 ∷ 1 ∷ kind ∷ word identifier ++ word serial ++ word rows

abbrev pub says : ℕ → ℕ → ℕ → List ℕ
says x count content = identity x ++ word count ++ long content

-- ---- running requests

-- every answer buffer of a sample, before its request
abbrev pub blank : List ℕ
blank = replicate 124 9

-- the outcomes of requests, each on the table that the one before left
abbrev pub outcomes_of : List ℕ → List (List ℕ) → List Outcome
outcomes_of t [] = []
outcomes_of t (r ∷ rs) = applied current t r blank ∷ outcomes_of (applied current t r blank).table rs

-- refused with a number: nothing is written
abbrev pub refuses : ℕ → List ℕ → Outcome
refuses n t = record { number = n; length = 0; table = t; answer = blank }

-- accepted: the table that is left, and the answer at the start of its buffer
abbrev pub leaves : List ℕ → List ℕ → Outcome
leaves t a = record { number = 0; length = length a; table = t; answer = a ++ replicate (124 - length a) 9 }

-- a table of one cell with these places
abbrev pub one : List ℕ → List ℕ
one places = header 1 ++ head 16 1 ++ places

-- ---- a sample: a table, requests, and the outcome of the last

pub record Sample : Type 0 where
  pub before : List ℕ
  pub first : List ℕ
  pub more : List (List ℕ)
  pub gives : Outcome

abbrev pub sample : List ℕ → List ℕ → List (List ℕ) → Outcome → Sample
sample t r rs o = record { before = t; first = r; more = rs; gives = o }

-- the outcome of the last of several requests, each on the table that the one before left
abbrev pub last_of : List ℕ → List ℕ → List (List ℕ) → Outcome
last_of t r [] = applied current t r blank
last_of t r (s ∷ ss) = last_of (applied current t r blank).table s ss

-- `applied` gives what each row says
abbrev pub AllHold : List Sample → Type 0
AllHold [] = Unit {0}
AllHold (s ∷ ss) = (last_of s.before s.first s.more ≡ s.gives) × AllHold ss

-- requests one after the other in the same two buffers, each accepted: what it is told stands over what the answer before left
abbrev pub AllServed : List ℕ → List ℕ → List (List ℕ) → List (List ℕ × List ℕ) → Type 0
AllServed t a [] [] = Unit {0}
AllServed t a [] (x ∷ xs) = ⊥
AllServed t a (r ∷ rs) [] = ⊥
AllServed t a (r ∷ rs) (x ∷ xs) =
    let told = x.1 ++ drop (length x.1) a in
    (applied current t r a ≡ record { number = 0; length = length x.1; table = x.0; answer = told }) × AllServed x.0 told rs xs

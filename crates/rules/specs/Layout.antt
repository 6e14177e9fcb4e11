-- Every width, size, limit and mark of documents 01 and 02, once. A layout is the list of its fields' widths, in order; offsets follow from it.
-- Beside each layout its fields have names, counted from 0.
use Rattle.std.specs.Prelude.{Bool, cond, ◌&&◌, List, [], ◌∷◌, ℕ, ◌+◌, ◌*◌, ◌^◌, eqb, ltb, leb}
use Rattle.rules.specs.declared.Seconds.{Seconds}

-- a table, a record and an answer begin with their mark and version
abbrev pub mark_field : ℕ
mark_field = 0

abbrev pub version_field : ℕ
version_field = 1

-- ---- versions

-- document 02, 3/13: two versions of tables and records. Whatever depends on one is a function of it: a width, a size or a limit has a case for
-- each, and a field that a version does not have is of width 0 in it, which is read as 0 and written as nothing
pub data Version : Type 0 where
  version1 : Version
  version2 : Version

-- the one that is built, and that requests are applied to
abbrev pub current : Version
current = version2

-- what stands in a header, and in a record
abbrev pub version_number : Version → ℕ
version_number version1 = 1
version_number version2 = 2

-- and back, for the numbers of versions
abbrev pub version_of : ℕ → Version
version_of n = cond (eqb n 1) version1 version2

-- the number of a version that is older than the current one
abbrev pub is_older : ℕ → Bool
is_older n = leb 1 n && ltb n (version_number current)

-- ---- the table

-- "PWT"; version; number of cells; places per cell; zero
abbrev pub header_fields : List ℕ
header_fields = 3 ∷ 2 ∷ 2 ∷ 1 ∷ 8 ∷ []

abbrev pub cells_in_header : ℕ
cells_in_header = 2

abbrev pub places_in_header : ℕ
places_in_header = 3

abbrev pub zero_in_header : ℕ
zero_in_header = 4

-- NR CGI; tracking area code; number of emergency areas; four emergency area identifiers
abbrev pub head_fields : Version → List ℕ
head_fields v = 8 ∷ 3 ∷ 1 ∷ 3 ∷ 3 ∷ 3 ∷ 3 ∷ []

abbrev pub identity_in_head : ℕ
identity_in_head = 0

abbrev pub code_in_head : ℕ
code_in_head = 1

abbrev pub areas_used_in_head : ℕ
areas_used_in_head = 2

abbrev pub areas_in_head : ℕ
areas_in_head = 3

-- the bytes of a period and of a wait
abbrev pub seconds_size : Version → ℕ
seconds_size version1 = 2
seconds_size version2 = 4

abbrev pub longest_period : Version → Seconds
longest_period version1 = record { 0 = 4095 }
longest_period version2 = record { 0 = 131071 }

-- message identifier; serial number; content; period; requested; sent; wait; SIB kind; live; zero
abbrev pub place_fields : Version → List ℕ
place_fields v = 2 ∷ 2 ∷ 4 ∷ seconds_size v ∷ 2 ∷ 2 ∷ seconds_size v ∷ 1 ∷ 1 ∷ 2 ∷ []

abbrev pub identifier_in_place : ℕ
identifier_in_place = 0

abbrev pub serial_in_place : ℕ
serial_in_place = 1

abbrev pub content_in_place : ℕ
content_in_place = 2

abbrev pub period_in_place : ℕ
period_in_place = 3

abbrev pub requested_in_place : ℕ
requested_in_place = 4

abbrev pub sent_in_place : ℕ
sent_in_place = 5

abbrev pub wait_in_place : ℕ
wait_in_place = 6

abbrev pub sib_in_place : ℕ
sib_in_place = 7

abbrev pub live_in_place : ℕ
live_in_place = 8

abbrev pub zero_in_place : ℕ
zero_in_place = 9

abbrev pub places_per_cell : ℕ
places_per_cell = 4

abbrev pub most_areas : ℕ
most_areas = 4

abbrev pub header_size : ℕ
header_size = 16

abbrev pub head_size : Version → ℕ
head_size version1 = 24
head_size version2 = 24

abbrev pub place_size : Version → ℕ
place_size version1 = 20
place_size version2 = 24

abbrev pub cell_size : Version → ℕ
cell_size v = head_size v + places_per_cell * place_size v

-- "PWT"
abbrev pub table_mark : ℕ
table_mark = 0x505754

abbrev pub most_cells : ℕ
most_cells = 512

-- a count of broadcasts stays here
abbrev pub most_sent : ℕ
most_sent = 65535

abbrev pub first_sib : ℕ
first_sib = 6

abbrev pub last_sib : ℕ
last_sib = 8

-- an earthquake primary's
abbrev pub primary_sib : ℕ
primary_sib = 6

-- ---- the request record

-- "PWR"; version; kind; flags; area; message identifier; serial number; content; period; requested; SIB kind; zero; item count
abbrev pub record_fields : List ℕ
record_fields = 3 ∷ 2 ∷ 1 ∷ 1 ∷ 1 ∷ 2 ∷ 2 ∷ 4 ∷ 4 ∷ 2 ∷ 1 ∷ 1 ∷ 2 ∷ []

abbrev pub kind_in_record : ℕ
kind_in_record = 2

abbrev pub flags_in_record : ℕ
flags_in_record = 3

abbrev pub area_in_record : ℕ
area_in_record = 4

abbrev pub identifier_in_record : ℕ
identifier_in_record = 5

abbrev pub serial_in_record : ℕ
serial_in_record = 6

abbrev pub content_in_record : ℕ
content_in_record = 7

abbrev pub period_in_record : ℕ
period_in_record = 8

abbrev pub requested_in_record : ℕ
requested_in_record = 9

abbrev pub sib_in_record : ℕ
sib_in_record = 10

abbrev pub zero_in_record : ℕ
zero_in_record = 11

abbrev pub count_in_record : ℕ
count_in_record = 12

abbrev pub record_size : ℕ
record_size = 26

-- an item, by the version of its record: no version has given it another size yet
abbrev pub item_size : Version → ℕ
item_size v = 8

-- "PWR"
abbrev pub record_mark : ℕ
record_mark = 0x505752

-- what the writer writes
abbrev pub record_version : ℕ
record_version = version_number current

abbrev pub most_items : ℕ
most_items = 512

-- what an item, by its area, stays below
abbrev pub cell_end : ℕ
cell_end = 2 ^ 60

abbrev pub tracking_end : ℕ
tracking_end = 2 ^ 48

abbrev pub emergency_end : ℕ
emergency_end = 2 ^ 24

-- ---- the answer

-- "PWA"; version; kind; message identifier; serial number; number of rows
abbrev pub answer_fields : Version → List ℕ
answer_fields v = 3 ∷ 2 ∷ 1 ∷ 2 ∷ 2 ∷ 2 ∷ []

abbrev pub kind_in_answer : ℕ
kind_in_answer = 2

abbrev pub identifier_in_answer : ℕ
identifier_in_answer = 3

abbrev pub serial_in_answer : ℕ
serial_in_answer = 4

abbrev pub rows_in_answer : ℕ
rows_in_answer = 5

-- NR CGI; count; content
abbrev pub row_fields : Version → List ℕ
row_fields v = 8 ∷ 2 ∷ 4 ∷ []

abbrev pub identity_in_row : ℕ
identity_in_row = 0

abbrev pub count_in_row : ℕ
count_in_row = 1

abbrev pub content_in_row : ℕ
content_in_row = 2

abbrev pub answer_size : Version → ℕ
answer_size version1 = 12
answer_size version2 = 12

abbrev pub row_size : Version → ℕ
row_size version1 = 14
row_size version2 = 14

-- "PWA"
abbrev pub answer_mark : ℕ
answer_mark = 0x505741

-- what an answer of this unit says; document 02, 3/13, left the answer as it was
abbrev pub answer_version : Version → ℕ
answer_version version1 = 1
answer_version version2 = 1

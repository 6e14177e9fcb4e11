-- Document 01, "The request record": what its bytes say, the bytes of a request with its items, and which requests are allowed.
use Rattle.std.specs.Prelude.{Bool, false, cond, not, ◌&&◌, ◌||◌, ℕ, ◌+◌, ◌*◌, ◌/◌, ◌%◌, eqb, ltb, leb, length, take, drop}
use mathlib.Core.List.{List, [], ◌∷◌, ◌++◌, map, flat_map}
use Rattle.octets.specs.Runs.{pieces}
use Rattle.octets.specs.Numbers.{be, to_be}
use Rattle.octets.specs.Fields.{bytes_of, field_of}
use Rattle.rules.specs.Lists.{every, zeros, one_of}
use Rattle.rules.specs.Layout.{Version, current, version_number, version_of, longest_period, kind_in_record, flags_in_record, area_in_record, identifier_in_record, serial_in_record, content_in_record, period_in_record, requested_in_record, sib_in_record, zero_in_record, count_in_record, version_field, mark_field, record_fields, record_size, item_size, record_mark, record_version, first_sib, last_sib, primary_sib, cell_end, tracking_end, emergency_end}
use Rattle.rules.specs.declared.Seconds.{Seconds}
use Rattle.rules.specs.declared.Request.{Request}

-- ---- kinds and areas: their numbers, and what a number names

abbrev pub write_replace : ℕ
write_replace = 1

abbrev pub cancel_or_kill : ℕ
cancel_or_kill = 2

abbrev pub restart_kind : ℕ
restart_kind = 3

abbrev pub failure_kind : ℕ
failure_kind = 4

abbrev pub one_second : ℕ
one_second = 5

pub data Kind : Type 0 where
  a_write_replace : Kind
  a_cancel : Kind
  a_restart : Kind
  a_failure : Kind
  a_second : Kind
  unknown_kind : Kind

abbrev pub kind_of : ℕ → Kind
kind_of n =
    cond (eqb n write_replace) a_write_replace
    (cond (eqb n cancel_or_kill) a_cancel
    (cond (eqb n restart_kind) a_restart
    (cond (eqb n failure_kind) a_failure (cond (eqb n one_second) a_second unknown_kind))))

abbrev pub no_area : ℕ
no_area = 0

abbrev pub cell_area : ℕ
cell_area = 1

abbrev pub tracking_area : ℕ
tracking_area = 2

abbrev pub emergency_area : ℕ
emergency_area = 3

pub data Area : Type 0 where
  everywhere : Area
  in_cells : Area
  in_tracking_areas : Area
  in_emergency_areas : Area
  unknown_area : Area

abbrev pub area_of : ℕ → Area
area_of n =
    cond (eqb n no_area) everywhere
    (cond (eqb n cell_area) in_cells
    (cond (eqb n tracking_area) in_tracking_areas (cond (eqb n emergency_area) in_emergency_areas unknown_area)))

-- ---- flags

-- flag 1
abbrev pub concurrent : Request → Bool
concurrent q = eqb (q.flags % 2) 1

-- flag 2
abbrev pub cancel_all : Request → Bool
cancel_all q = eqb (q.flags / 2 % 2) 1

-- flag 4
abbrev pub notified : Request → Bool
notified q = eqb (q.flags / 4 % 2) 1

-- identifier and serial number, side by side in one number
abbrev pub text_asked : Request → ℕ
text_asked q = q.identifier * 65536 + q.serial

-- an earthquake primary
abbrev pub is_primary : Request → Bool
is_primary q = eqb q.sib primary_sib

-- ---- a record's bytes

unfoldable pub request_of : List ℕ → Request
request_of r =
    record {
      kind = field_of record_fields kind_in_record r;
      flags = field_of record_fields flags_in_record r;
      area = field_of record_fields area_in_record r;
      identifier = field_of record_fields identifier_in_record r;
      serial = field_of record_fields serial_in_record r;
      content = field_of record_fields content_in_record r;
      period = record { 0 = field_of record_fields period_in_record r };
      requested = record { 0 = field_of record_fields requested_in_record r };
      sib = field_of record_fields sib_in_record r;
    }

abbrev pub zero_byte : List ℕ → ℕ
zero_byte r = field_of record_fields zero_in_record r

abbrev pub item_count : List ℕ → ℕ
item_count r = field_of record_fields count_in_record r

-- the number of a record's version
abbrev pub version_in : List ℕ → ℕ
version_in r = field_of record_fields version_field r

-- the version that a record is written in
abbrev pub written_in : List ℕ → Version
written_in r = version_of (version_in r)

unfoldable pub items_of : List ℕ → List ℕ
items_of r = map be (pieces (item_size (written_in r)) (item_count r) (drop record_size r))

unfoldable pub request_numbers : Request → ℕ → List ℕ
request_numbers q n =
    record_mark
    ∷ record_version
    ∷ q.kind
    ∷ q.flags
    ∷ q.area
    ∷ q.identifier
    ∷ q.serial
    ∷ q.content
    ∷ q.period.0
    ∷ q.requested.0
    ∷ q.sib
    ∷ 0
    ∷ n
    ∷ []

unfoldable pub record_bytes : Request → List ℕ → List ℕ
record_bytes q items = bytes_of record_fields (request_numbers q (length items)) ++ flat_map (to_be (item_size current)) items

-- records of a version are taken by it and by later ones
abbrev pub takes_version : Version → ℕ → Bool
takes_version v n = leb 1 n && leb n (version_number v)

unfoldable pub record_marked : Version → List ℕ → Bool
record_marked v r =
    leb record_size (length r) && eqb (field_of record_fields mark_field r) record_mark && takes_version v (version_in r)

-- the same record in the version that the writer writes
unfoldable pub renewed : List ℕ → List ℕ
renewed r = take 3 r ++ (to_be 2 record_version ++ drop 5 r)

-- what a record may ask for is said by its own version, whatever the table's
abbrev pub longest_asked : List ℕ → Seconds
longest_asked r = longest_period (written_in r)

-- ---- the table of kinds

abbrev pub identifier_to_sib : Request → List ℕ
identifier_to_sib q = q.identifier ∷ q.serial ∷ q.content ∷ q.period.0 ∷ q.requested.0 ∷ q.sib ∷ []

abbrev pub any_area : List ℕ
any_area = no_area ∷ cell_area ∷ tracking_area ∷ emergency_area ∷ []

-- what a cancel leaves out
abbrev pub cancel_zeros : Request → List ℕ
cancel_zeros q = q.content ∷ q.period.0 ∷ q.sib ∷ cond (notified q) [] (q.identifier ∷ q.serial ∷ [])

-- the flags are one of these bytes, the area one of these, and the fields zero
unfoldable pub allowed : Request → List ℕ → List ℕ → List ℕ → Bool
allowed q flags areas zero = one_of q.flags flags && one_of q.area areas && zeros zero

-- flags allowed and each sum of them; areas allowed; fields that are zero
abbrev pub allowed_by : Kind → Request → Bool
allowed_by a_write_replace q = allowed q (0 ∷ 1 ∷ []) any_area []
allowed_by a_cancel q = allowed q (0 ∷ 2 ∷ 4 ∷ 6 ∷ []) any_area (cancel_zeros q)
allowed_by a_restart q = allowed q (0 ∷ []) (no_area ∷ cell_area ∷ []) (identifier_to_sib q)
allowed_by a_failure q = allowed q (0 ∷ []) (no_area ∷ cell_area ∷ []) (identifier_to_sib q)
allowed_by a_second q = allowed q (0 ∷ []) (no_area ∷ []) (identifier_to_sib q)
allowed_by unknown_kind q = false

unfoldable pub kind_allows : Request → Bool
kind_allows q = allowed_by (kind_of q.kind) q

-- "Area 0 exactly when n = 0."
unfoldable pub area_fits : Request → ℕ → Bool
area_fits q n = cond (eqb q.area no_area) (eqb n 0) (not (eqb n 0))

-- ---- limits

-- the last two judge no item: area 0 has none, and an unknown area is refused before
abbrev pub item_end_in : Area → ℕ
item_end_in in_cells = cell_end
item_end_in in_tracking_areas = tracking_end
item_end_in in_emergency_areas = emergency_end
item_end_in everywhere = emergency_end
item_end_in unknown_area = emergency_end

abbrev pub item_end : ℕ → ℕ
item_end area = item_end_in (area_of area)

-- a Write-Replace has a period that is not too long and SIB kind 6 to 8; no item is too large for its area
unfoldable pub within_limits : Seconds → Request → List ℕ → Bool
within_limits longest q items =
    (not (eqb q.kind write_replace)
    || leb q.period.0 longest.0 && leb first_sib q.sib && leb q.sib last_sib)
    && every (λ x. ltb x (item_end q.area)) items

-- "Cancel with neither flag 2 nor flag 4"
unfoldable pub cancels_nothing : Request → Bool
cancels_nothing q = eqb q.kind cancel_or_kill && not (cancel_all q) && not (notified q)

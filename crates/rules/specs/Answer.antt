-- Document 01, "The answer": a reply with what it is to, its bytes, and the room that it needs.
use Rattle.std.specs.Prelude.{Bool, false, true, ◌&&◌, ◌||◌, ℕ, ◌+◌, ◌*◌, eqb, ltb, leb, length, drop}
use mathlib.Core.List.{List, [], ◌∷◌, ◌++◌, map, flat_map}
use Rattle.octets.specs.Runs.{pieces}
use Rattle.octets.specs.Fields.{bytes_of, field_of}
use Rattle.rules.specs.Lists.{every, rising}
use Rattle.rules.specs.Layout.{Version, mark_field, version_field, kind_in_answer, identifier_in_answer, serial_in_answer, rows_in_answer, identity_in_row, count_in_row, content_in_row, places_per_cell, answer_fields, row_fields, answer_size, row_size, answer_mark, answer_version, cell_end}
use Rattle.rules.specs.Record.{Kind, a_write_replace, a_cancel, a_restart, a_failure, a_second, unknown_kind, kind_of, one_second}
use Rattle.rules.specs.Reply.{Row, Reply, identities}
use Rattle.rules.specs.declared.Request.{Request}

pub record Answer : Type 0 where
  pub kind : ℕ
  pub identifier : ℕ
  pub serial : ℕ
  pub reply : Reply

-- "identifier and serial number of the record"
abbrev pub answer_to : Request → Reply → Answer
answer_to q reply = record { kind = q.kind; identifier = q.identifier; serial = q.serial; reply = reply }

-- ---- a row and its bytes: 14

unfoldable pub row_of : Version → List ℕ → Row
row_of v b =
    record {
      identity = field_of (row_fields v) identity_in_row b;
      count = field_of (row_fields v) count_in_row b;
      content = field_of (row_fields v) content_in_row b;
    }

abbrev pub row_numbers : Row → List ℕ
row_numbers w = w.identity ∷ w.count ∷ w.content ∷ []

unfoldable pub row_bytes : Version → Row → List ℕ
row_bytes v w = bytes_of (row_fields v) (row_numbers w)

-- ---- an answer and its bytes: a head of 12, then the rows

abbrev pub row_count : Version → List ℕ → ℕ
row_count v b = field_of (answer_fields v) rows_in_answer b

abbrev pub row_runs : Version → List ℕ → List (List ℕ)
row_runs v b = pieces (row_size v) (row_count v b) (drop (answer_size v) b)

unfoldable pub answer_of : Version → List ℕ → Answer
answer_of v b =
    record {
      kind = field_of (answer_fields v) kind_in_answer b;
      identifier = field_of (answer_fields v) identifier_in_answer b;
      serial = field_of (answer_fields v) serial_in_answer b;
      reply = record { rows = map (row_of v) (row_runs v b) };
    }

abbrev pub answer_numbers : Version → (kind identifier serial rows : ℕ) → List ℕ
answer_numbers v kind identifier serial rows = answer_mark ∷ answer_version v ∷ kind ∷ identifier ∷ serial ∷ rows ∷ []

-- the head, for so many rows
unfoldable pub answer_head : Version → (kind identifier serial rows : ℕ) → List ℕ
answer_head v kind identifier serial rows = bytes_of (answer_fields v) (answer_numbers v kind identifier serial rows)

unfoldable pub answer_bytes : Version → Answer → List ℕ
answer_bytes v a =
    answer_head v a.kind a.identifier a.serial (length a.reply.rows) ++ flat_map (row_bytes v) a.reply.rows

-- a cell's NR CGI is below 2^60; "Content is 0 except for kind 5"
unfoldable pub legal_row : ℕ → Row → Bool
legal_row kind w = ltb w.identity cell_end && (eqb kind one_second || eqb w.content 0)

abbrev pub is_known : Kind → Bool
is_known a_write_replace = true
is_known a_cancel = true
is_known a_restart = true
is_known a_failure = true
is_known a_second = true
is_known unknown_kind = false

-- "PWA", the version, a known kind, the exact length for its rows, and legal rows; "Cells ascend."
unfoldable pub legal_answer : Version → List ℕ → Bool
legal_answer v b =
    (leb (answer_size v) (length b)
    && eqb (field_of (answer_fields v) mark_field b) answer_mark
    && eqb (field_of (answer_fields v) version_field b) (answer_version v))
    && is_known (kind_of (answer_of v b).kind)
    && eqb (length b) (answer_size v + row_size v * row_count v b)
    && every (legal_row (answer_of v b).kind) (answer_of v b).reply.rows
    && rising (identities (answer_of v b).reply.rows)

-- ---- the room

-- a cell gives one row at most, and one second a row for each of its places
abbrev pub rows_by : Kind → ℕ
rows_by a_write_replace = 1
rows_by a_cancel = 1
rows_by a_restart = 1
rows_by a_failure = 1
rows_by a_second = places_per_cell
rows_by unknown_kind = 0

abbrev pub rows_per_cell : ℕ → ℕ
rows_per_cell kind = rows_by (kind_of kind)

-- 12 + 14 N, or 12 + 56 N for one second
unfoldable pub room_for : Version → ℕ → ℕ → ℕ
room_for v kind cells = answer_size v + row_size v * rows_per_cell kind * cells

-- The head of an answer, written as two numbers (mark, version, kind and identifier in eight bytes, serial number and rows in four), and its kind and count of rows, read.
-- Numbers side by side are one, by the law over their widths; a number that is read is the field that stands there.
use mathlib.Core.Path.{◌≡◌, refl, sym, ap, ◌∙◌}
use mathlib.Core.List.{List, [], ◌++◌, append_assoc, append-nil}
use Prim.Native.Nat.{ℕ, ◌+◌, ◌*◌, ◌≤◌, ◌<◌}
use native.Mathlib.Omega.{arith}
use lib.ListN.{length}
use lib.Seq.{sets}
use Rattle.octets.specs.Runs.{gets}
use Rattle.octets.specs.Numbers.{be, to_be}
use Rattle.octets.specs.Fields.{offset, bytes_of}
use Rattle.octets.proofs.RunsLaws.{sets-run}
use Rattle.octets.proofs.NumbersLaws.{length-to_be, to_be_join}
use Rattle.octets.proofs.FieldsLaws.{field_at}
use Rattle.rules.specs.Layout.{current, kind_in_answer, rows_in_answer, answer_fields, answer_size, answer_mark, answer_version}
use Rattle.rules.specs.Answer.{answer_of, answer_head, row_count}

joined : (a b c d e f : List ℕ) → a ++ (b ++ (c ++ (d ++ (e ++ (f ++ []))))) ≡ (((a ++ b) ++ c) ++ d) ++ (e ++ f)
joined a b c d e f = simp (append_assoc, append-nil)

-- mark and version, then the kind
abbrev marked : ℕ
marked = answer_mark * 65536 + answer_version current

module _ (kind identifier serial rows : ℕ) (hk : kind < 256) (hi : identifier < 65536) (hs : serial < 65536) (hr : rows < 65536) where
  -- eight bytes and four
  head_in_two : answer_head current kind identifier serial rows ≡ to_be 8 ((marked * 256 + kind) * 65536 + identifier) ++ to_be 4 (serial * 65536 + rows)
  unfolding answer_head bytes_of
  head_in_two =
      joined (to_be 3 answer_mark) (to_be 2 (answer_version current)) (to_be 1 kind) (to_be 2 identifier) (to_be 2 serial) (to_be 2 rows)
      ∙ rw (
        to_be_join 3 2 answer_mark (answer_version current) (omega arith) (omega arith),
        to_be_join 5 1 marked kind (omega arith) hk,
        to_be_join 6 2 (marked * 256 + kind) identifier (omega arith) hi,
        to_be_join 2 2 serial rows hs hr,
      )

  pub head-stored : (a : List ℕ)
      → sets (sets a 0 (to_be 8 ((marked * 256 + kind) * 65536 + identifier))) 8 (to_be 4 (serial * 65536 + rows)) ≡ sets a 0 (answer_head current kind identifier serial rows)
  head-stored a =
      sets-run (to_be 8 ((marked * 256 + kind) * 65536 + identifier)) (to_be 4 (serial * 65536 + rows)) a 0 8 (rw length-to_be refl)
      ∙ ap (sets a 0) (sym head_in_two)

-- ---- read

module _ (a : List ℕ) (long : answer_size current ≤ length a) where
  pub kind-read : be (gets a 5 1) ≡ (answer_of current a).kind
  unfolding answer_of offset
  kind-read = sym (field_at (answer_fields current) kind_in_answer a (omega arith))

  pub rows-read : be (gets a 10 2) ≡ row_count current a
  unfolding offset
  rows-read = sym (field_at (answer_fields current) rows_in_answer a (omega arith))

-- A record of an older version, renewed, says the same request and items, and is what the writer writes of them; one of the writer's own version stays as it is.
-- Mark and version lie in the first five bytes; every other field is read from behind them.
use mathlib.Core.Path.{◌≡◌, refl, sym, ap, ◌∙◌}
use mathlib.Core.List.{List, ◌∷◌, ◌++◌}
use Prim.Native.Nat.{ℕ, ◌+◌, ◌*◌, ◌≤◌}
use native.Mathlib.Omega.{arith}
use lib.ListN.{length, take, drop, length-append, length-drop, take-append-drop}
use lib.Seq.{take_at, drop_at, drop-drop, length-take-le}
use Rattle.octets.specs.Runs.{Bytes}
use Rattle.octets.specs.Numbers.{be, to_be}
use Rattle.octets.specs.Fields.{numbers, field_of}
use Rattle.octets.proofs.RunsLaws.{bytes_take, bytes_drop, bytes_append}
use Rattle.octets.proofs.NumbersLaws.{length-to_be, be-to_be, to_be-be, bytes-to_be}
use Rattle.rules.specs.Layout.{current, mark_field, record_fields, record_size, item_size, record_mark, record_version}
use Rattle.rules.specs.Record.{version_in, request_of, record_bytes, items_of, item_count, zero_byte, renewed}
use Rattle.rules.proofs.RecordCodec.{record-back}

-- the fields behind mark and version
abbrev fields : List ℕ
fields = drop 2 record_fields

lead : (l : List ℕ) → numbers record_fields l ≡ be (take 3 l) ∷ be (take 2 (drop 3 l)) ∷ numbers fields (drop 2 (drop 3 l))
unfolding numbers
lead l = refl

module _ (r : List ℕ) (long : record_size ≤ length r) where
  front : length (take 3 r) ≡ 3
  front = length-take-le 3 r (omega arith)

  behind : drop 3 (renewed r) ≡ to_be 2 record_version ++ drop 5 r
  unfolding renewed
  behind = drop_at (take 3 r) (to_be 2 record_version ++ drop 5 r) 3 front

  rest : drop 2 (drop 3 (renewed r)) ≡ drop 5 r
  rest = rw behind (drop_at (to_be 2 record_version) (drop 5 r) 2 (length-to_be 2 record_version))

  numbers-renewed : numbers record_fields (renewed r) ≡ be (take 3 r) ∷ record_version ∷ numbers fields (drop 5 r)
  unfolding renewed
  numbers-renewed =
      let first : take 3 (renewed r) ≡ take 3 r = take_at (take 3 r) (to_be 2 record_version ++ drop 5 r) 3 front in
      let second : take 2 (drop 3 (renewed r)) ≡ to_be 2 record_version = rw behind (take_at (to_be 2 record_version) (drop 5 r) 2 (length-to_be 2 record_version)) in
      lead (renewed r) ∙ rw (first, second, rest, be-to_be 2 record_version (omega arith))

  numbers-own : numbers record_fields r ≡ be (take 3 r) ∷ be (take 2 (drop 3 r)) ∷ numbers fields (drop 5 r)
  numbers-own = lead r ∙ rw (drop-drop 2 3 r)

  pub request-renewed : request_of (renewed r) ≡ request_of r
  unfolding request_of field_of
  request-renewed = rw (numbers-renewed, numbers-own)

  pub mark-renewed : field_of record_fields mark_field (renewed r) ≡ field_of record_fields mark_field r
  unfolding field_of
  mark-renewed = rw (numbers-renewed, numbers-own)

  pub version-renewed : version_in (renewed r) ≡ record_version
  unfolding field_of
  version-renewed = rw numbers-renewed

  pub zero-renewed : zero_byte (renewed r) ≡ zero_byte r
  unfolding field_of
  zero-renewed = rw (numbers-renewed, numbers-own)

  pub count-renewed : item_count (renewed r) ≡ item_count r
  unfolding field_of
  count-renewed = rw (numbers-renewed, numbers-own)

  pub items-renewed : items_of (renewed r) ≡ items_of r
  unfolding items_of
  items-renewed =
      let same : drop record_size (renewed r) ≡ drop record_size r = sym (drop-drop 21 5 (renewed r)) ∙ ap (drop 21) (sym (drop-drop 2 3 (renewed r)) ∙ rest) ∙ drop-drop 21 5 r in
      rw (count-renewed, same)

  pub length-renewed : length (renewed r) ≡ length r
  unfolding renewed
  length-renewed = rw (length-append, length-append, front, length-to_be 2 record_version, length-drop) (omega arith)

  pub bytes-renewed : Bytes r → Bytes (renewed r)
  unfolding renewed
  bytes-renewed b =
      bytes_append (take 3 r) _ (bytes_take 3 r b) (bytes_append (to_be 2 record_version) (drop 5 r) (bytes-to_be 2 record_version (omega arith)) (bytes_drop 5 r b))

  -- of the writer's own version
  pub renewed-same : Bytes r → version_in r ≡ record_version → renewed r ≡ r
  unfolding renewed field_of
  renewed-same b e =
      let two : length (take 2 (drop 3 r)) ≡ 2 = length-take-le 2 (drop 3 r) (rw length-drop (omega arith)) in
      let says : be (take 2 (drop 3 r)) ≡ record_version = rw numbers-own at e in
      let own : to_be 2 record_version ≡ take 2 (drop 3 r) = ap (to_be 2) (sym says) ∙ rw two at (to_be-be (take 2 (drop 3 r)) (bytes_take 2 (drop 3 r) (bytes_drop 3 r b))) in
      rw (own, ← drop-drop 2 3 r, take-append-drop 2 (drop 3 r)) (take-append-drop 3 r)

  -- read, then written
  pub record-renewed : Bytes r → field_of record_fields mark_field r ≡ record_mark → zero_byte r ≡ 0 → length r ≡ record_size + item_size current * item_count r
      → record_bytes (request_of r) (items_of r) ≡ renewed r
  record-renewed b m z n =
      rw (request-renewed, items-renewed) at (record-back (renewed r) (mark-renewed ∙ m) version-renewed (zero-renewed ∙ z) (bytes-renewed b) (rw (length-renewed, count-renewed) n))

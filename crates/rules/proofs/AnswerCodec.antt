-- An answer and its bytes, by the version, are each other's inverse, where the bytes are legal and where the answer is sound; legal bytes say a sound answer, whose bytes are legal.
-- The head and each row go by the laws of layouts, the rows behind one another by the law of runs.
use mathlib.Core.Path.{◌≡◌, refl, ap, ◌∙◌}
use mathlib.Core.Bool.{true}
use mathlib.Core.List.{List, [], map, flat_map, map-map, map-id, append-nil}
use Prim.Native.Nat.{ℕ, ◌+◌, ◌*◌}
use native.Mathlib.Omega.{arith}
use lib.ListN.{length, take, drop, length-map, length-append, length-drop, take-append-drop}
use lib.Seq.{drop_at}
use Rattle.octets.specs.Runs.{Bytes}
use Rattle.octets.specs.Fields.{numbers, bytes_of, field_of}
use Rattle.octets.proofs.RunsLaws.{bytes_drop, bytes_append}
use Rattle.octets.proofs.PiecesLaws.{length-flat_map, length-pieces, pieces_flat, pieces-flat_map}
use Rattle.octets.proofs.FieldsLaws.{numbers_bytes_of, bytes_of_numbers, fit-numbers, bytes_bytes_of}
use Rattle.rules.specs.Layout.{Version, answer_fields, row_fields, answer_size, row_size}
use Rattle.rules.specs.Answer.{Answer, row_of, row_numbers, row_bytes, row_count, row_runs, answer_of, answer_numbers, answer_head, answer_bytes, legal_answer}
use Rattle.rules.specs.Sound.{fits, sound_row, sound_answer}
use Rattle.rules.proofs.MapLaws.{flat_map-map}
use Rattle.rules.proofs.TestLaws.{and-true}
use Rattle.rules.proofs.AllLaws.{All, all_imply, all_both, all_map, all_pieces, flat_map_all, map_all, bytes-flat_map_all}
use Rattle.rules.proofs.FitLaws.{length-written}
use Rattle.rules.proofs.LayoutLaws.{answer-size}
use Rattle.rules.proofs.RowCodec.{length-row_bytes, row_back, row_fits, row-again, bytes-row_bytes, row-sound}
use Rattle.rules.proofs.LegalAnswerLaws.{LegalAnswer, legal-answer, answer-accepted, Numbers, SoundAnswer, sound-answer, answer-is-sound}

module _ (v : Version) where
  -- ---- lengths, whether the numbers fit or not

  pub length-answer_head : (kind identifier serial n : ℕ) → length (answer_head v kind identifier serial n) ≡ answer_size v
  unfolding answer_head
  length-answer_head kind identifier serial n = length-written (answer_fields v) (answer_numbers v kind identifier serial n) refl ∙ answer-size v

  pub length-answer_bytes : (a : Answer) → length (answer_bytes v a) ≡ answer_size v + row_size v * length a.reply.rows
  unfolding answer_bytes
  length-answer_bytes a = rw (length-append, length-answer_head, length-flat_map (row_size v) (row_bytes v) a.reply.rows (length-row_bytes v))

  -- ---- from bytes

  module _ (b : List ℕ) (bytes : Bytes b) (legal : legal_answer v b ≡ true) where
    facts : (LegalAnswer v) b
    facts = legal-answer v b legal

    behind : length (drop (answer_size v) b) ≡ row_size v * row_count v b
    behind = rw length-drop (omega (arith, facts.size))

    runs : All (λ r. Bytes r × (length r ≡ row_size v)) (row_runs v b)
    runs = all_pieces (row_size v) (row_count v b) (drop (answer_size v) b) (bytes_drop (answer_size v) b bytes) (omega (arith, behind))

    many : length (answer_of v b).reply.rows ≡ row_count v b
    unfolding answer_of
    many = length-map (row_runs v b) (row_of v) ∙ length-pieces (row_size v) (row_count v b) (drop (answer_size v) b)

    same_numbers : (Numbers v) (answer_of v b) ≡ numbers (answer_fields v) b
    unfolding answer_of field_of numbers
    same_numbers = rw (many, facts.mark, facts.version)

    pub answer_back : answer_bytes v (answer_of v b) ≡ b
    unfolding answer_bytes answer_head answer_of
    answer_back =
        let head : bytes_of (answer_fields v) (Numbers v (answer_of v b)) ≡ take (answer_size v) b =
        ap (bytes_of (answer_fields v)) same_numbers ∙ rw (answer-size v) at (bytes_of_numbers (answer_fields v) b bytes (omega (arith, answer-size v, facts.long))) in
        let rows : flat_map (row_bytes v) (answer_of v b).reply.rows ≡ drop (answer_size v) b = rows_back in
        rw (head, rows) (take-append-drop (answer_size v) b)
      where
        rows_back : flat_map (row_bytes v) (map (row_of v) (row_runs v b)) ≡ drop (answer_size v) b
        rows_back =
            flat_map-map (row_bytes v) (row_of v) (row_runs v b)
            ∙ flat_map_all (λ r. row_bytes v (row_of v r)) (λ r. r) (all_imply (λ r h. row_back v r h.0 h.1) runs)
            ∙ pieces_flat (row_size v) (row_count v b) (drop (answer_size v) b) behind

    pub answer-sound : sound_answer v (answer_of v b) ≡ true
    unfolding answer_of sound_row
    answer-sound =
        answer-is-sound v (answer_of v b)
        (record {
          fit = rw same_numbers (fit-numbers (answer_fields v) b bytes (omega (arith, answer-size v, facts.long)));
          known = facts.known;
          each = rows-sound;
          order = facts.order;
        })
      where
        rows_fit : All (λ w. fits (row_fields v) (row_numbers w) ≡ true) (answer_of v b).reply.rows
        rows_fit = all_map (λ w. fits (row_fields v) (row_numbers w) ≡ true) (row_of v) (all_imply (λ r h. row_fits v r h.0 h.1) runs)

        rows-sound : All (λ w. sound_row v (answer_of v b).kind w ≡ true) (answer_of v b).reply.rows
        rows-sound = all_imply (λ w h. and-true _ _ h.0 h.1) (all_both rows_fit facts.each)

  -- ---- to bytes

  module _ (a : Answer) (sound : sound_answer v a ≡ true) where
    parts : (SoundAnswer v) a
    parts = sound-answer v a sound

    head-numbers : numbers (answer_fields v) (answer_bytes v a) ≡ (Numbers v) a
    unfolding answer_bytes answer_head
    head-numbers = numbers_bytes_of (answer_fields v) (Numbers v a) (flat_map (row_bytes v) a.reply.rows) parts.fit

    count-again : row_count v (answer_bytes v a) ≡ length a.reply.rows
    unfolding field_of
    count-again = rw head-numbers

    rows_behind : drop (answer_size v) (answer_bytes v a) ≡ flat_map (row_bytes v) a.reply.rows
    unfolding answer_bytes
    rows_behind = drop_at (answer_head v a.kind a.identifier a.serial (length a.reply.rows)) (flat_map (row_bytes v) a.reply.rows) (answer_size v) (length-answer_head a.kind a.identifier a.serial (length a.reply.rows))

    rows-again : map (row_of v) (row_runs v (answer_bytes v a)) ≡ a.reply.rows
    rows-again =
        let cut : row_runs v (answer_bytes v a) ≡ map (row_bytes v) a.reply.rows =
        rw (
          count-again,
          rows_behind,
        )
        (rw append-nil at (pieces-flat_map (row_size v) (row_bytes v) a.reply.rows (length-row_bytes v) [])) in
        let each : All (λ w. row_of v (row_bytes v w) ≡ w) a.reply.rows = all_imply (λ w h. row-again v w (row-sound v a.kind w h).0) parts.each in
        rw (cut, map-map (row_of v) (row_bytes v) a.reply.rows, map_all (λ w. row_of v (row_bytes v w)) (λ w. w) each) (map-id a.reply.rows)

    pub answer-again : answer_of v (answer_bytes v a) ≡ a
    unfolding answer_of field_of
    answer-again = rw (rows-again, head-numbers)

    pub answer-legal : legal_answer v (answer_bytes v a) ≡ true
    unfolding field_of
    answer-legal =
        let n = length-answer_bytes a in
        answer-accepted v (answer_bytes v a)
        (record {
          long = omega (arith, n);
          mark = rw head-numbers;
          version = rw head-numbers;
          known = rw answer-again parts.known;
          size = rw count-again n;
          each = rw answer-again (all_imply (λ w h. (row-sound v a.kind w h).1) parts.each);
          order = rw answer-again parts.order;
        })

    pub bytes-answer_bytes : Bytes (answer_bytes v a)
    unfolding answer_bytes answer_head
    bytes-answer_bytes =
        bytes_append (bytes_of (answer_fields v) (Numbers v a)) (flat_map (row_bytes v) a.reply.rows) (bytes_bytes_of (answer_fields v) (Numbers v a) parts.fit)
        (bytes-flat_map_all (row_bytes v) (all_imply (λ w h. bytes-row_bytes v w (row-sound v a.kind w h).0) parts.each))

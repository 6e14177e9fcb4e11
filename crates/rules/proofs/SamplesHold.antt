-- The samples hold: P1 to P13 as one table of rows, the program's example, those of document 02's changes, and the calls that the demands are shown on.
-- Each is computed: both sides are the same bytes.
use mathlib.Core.Path.{◌≡◌, refl}
use mathlib.Core.Bool.{true}
use mathlib.Core.List.{List, [], ◌∷◌, flat_map}
use Prim.Native.Nat.{ℕ, zero, suc, ◌<◌}
use native.Mathlib.Omega.{arith}
use lib.Dec.{ltb}
use lib.ListN.{get_or}
use borrow.Author.Tests.{ltb-true}
use Rattle.octets.specs.Runs.{Bytes, gets, pieces}
use Rattle.octets.specs.Numbers.{be, to_be}
use Rattle.octets.specs.Fields.{size, numbers, bytes_of, padded, field_of}
use Rattle.rules.specs.Lists.{every, any, those, zeros, one_of, above, ascending}
use Rattle.rules.specs.Table.{head_of, head_numbers, head_bytes, legal_head, place_of, place_numbers, place_bytes, is_free, is_live, live_first, places_of, legal_place, is_text, running, different, legal_places, cell_of, places_bytes, cell_bytes, legal_cell, cells_of, header_bytes, table_bytes, table_marked, older_marked, legal_table}
use Rattle.rules.specs.Record.{request_of, items_of, record_marked, allowed, kind_allows, area_fits, within_limits, cancels_nothing}
use Rattle.rules.specs.Reach.{names, reaches}
use Rattle.rules.specs.InCell.{reported_if_live, starts_nothing, new_place, start, cancel, restart, failure, is_due, one_more, with_counts, later, has_ended, stays_live, second, in_cell}
use Rattle.rules.specs.Answer.{row_bytes, answer_head, answer_bytes, room_for}
use Rattle.rules.specs.Refusals.{table_verdict, request_verdict, record_verdict, apply_verdict, legal_heads, build_verdict, convert_verdict}
use Rattle.rules.specs.Applied.{fill, empty_cell, built, converted, conversion, step_cell, outcome, applied}
use Rattle.rules.specs.Reply.{cell_rows, reply_of}
use Rattle.rules.specs.Samples.{SamplesHold, two, twice, flood}
use Rattle.rules.specs.ChangeSamples.{ChangeSamplesHold}
use Rattle.rules.specs.ByHand.{free, one}
use Rattle.rules.specs.CallSamples.{starting, stopping, starting_here, stopping_there, free_cell, two_cells, CallSamplesHold}
use Rattle.rules.proofs.TestLaws.{both}

-- that a list is bytes can be computed
bytes_tested : (l : List ℕ) → every (λ x. ltb x 256) l ≡ true → Bytes l
unfolding every
bytes_tested [] e i = omega arith
bytes_tested (x ∷ l) e i = let h = both (ltb x 256) (every (λ y. ltb y 256) l) e in go i (ltb-true x 256 h.0) (bytes_tested l h.1)
  where
    go : (k : ℕ) → x < 256 → Bytes l → get_or (x ∷ l) k 0 < 256
    go zero p q = p
    go (suc k) p q = q k

pub samples_hold : SamplesHold × ChangeSamplesHold × CallSamplesHold
unfolding flat_map gets pieces be to_be size numbers bytes_of padded every any those zeros one_of above ascending field_of head_of head_numbers head_bytes legal_head place_of place_numbers place_bytes is_free is_live live_first places_of legal_place is_text running different legal_places cell_of places_bytes cell_bytes legal_cell cells_of header_bytes table_bytes table_marked older_marked legal_table request_of items_of record_marked allowed kind_allows area_fits within_limits cancels_nothing names reaches reported_if_live starts_nothing new_place start cancel restart failure is_due one_more with_counts later has_ended stays_live second in_cell row_bytes answer_head answer_bytes room_for table_verdict request_verdict record_verdict apply_verdict step_cell cell_rows reply_of outcome applied legal_heads build_verdict fill empty_cell built convert_verdict converted conversion
samples_hold = (
  record {
    marked = (refl, (refl, (refl, (refl, (refl, (refl, (refl, (refl, (refl, (refl, (refl, (refl, (refl, (refl, tt))))))))))))));
    further = (refl, (refl, (refl, (refl, (refl, (refl, (refl, (refl, (refl, (refl, (refl, (refl, (refl, (refl, (refl, (refl, tt))))))))))))))));
    builds = refl;
    opens = refl;
    runs = (refl, (refl, (refl, (refl, (refl, (refl, (refl, tt)))))));
  },
  record {
    primaries = (refl, (refl, (refl, (refl, (refl, (refl, (refl, (refl, (refl, (refl, (refl, tt)))))))))));
    primary-runs = refl;
    periods = (refl, (refl, (refl, (refl, (refl, (refl, (refl, (refl, (refl, tt)))))))));
    converts = record { whole = refl; newer = refl; none = refl; long-period = refl; short = refl };
  },
  record {
    started = record { table-bytes = bytes_tested free_cell refl; record-bytes = bytes_tested starting refl; accepted = refl; gives = refl };
    started-two = record { table-bytes = bytes_tested (two (free 4) (free 4)) refl; record-bytes = bytes_tested starting refl; accepted = refl; gives = refl };
    stopped_none = record { table-bytes = bytes_tested free_cell refl; record-bytes = bytes_tested stopping refl; accepted = refl; gives = refl };
    stopped-new = record { table-bytes = bytes_tested (one (flood 0 0)) refl; record-bytes = bytes_tested stopping refl; accepted = refl; gives = refl };
    stopped_once = record { table-bytes = bytes_tested (one (flood 1 1)) refl; record-bytes = bytes_tested stopping refl; accepted = refl; gives = refl };
    stopped-twice = record { table-bytes = bytes_tested twice refl; record-bytes = bytes_tested stopping refl; accepted = refl; gives = refl };
    started_here = record { table-bytes = bytes_tested two_cells refl; record-bytes = bytes_tested starting_here refl; accepted = refl; gives = refl };
    then_stopped-there = record { table-bytes = bytes_tested (two (flood 0 0) (flood 2 1)) refl; record-bytes = bytes_tested stopping_there refl; accepted = refl; gives = refl };
    stopped-there = record { table-bytes = bytes_tested two_cells refl; record-bytes = bytes_tested stopping_there refl; accepted = refl; gives = refl };
    then_started_here = record { table-bytes = bytes_tested (two (free 4) (free 4)) refl; record-bytes = bytes_tested starting_here refl; accepted = refl; gives = refl };
    cells_free = refl;
    cells_once = refl;
    cells-twice = refl;
    both_reach = (refl, refl);
    none_common = refl;
    one-row = refl;
    stops-one = (refl, refl);
  },
)

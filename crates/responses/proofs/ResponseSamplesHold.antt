-- The samples hold: each is computed.
use mathlib.Core.Path.{refl}
use mathlib.Core.List.{flat_map}
use Rattle.octets.specs.Runs.{pieces}
use Rattle.octets.specs.Numbers.{be, to_be}
use Rattle.octets.specs.Fields.{numbers, field_of, bytes_of}
use Rattle.rules.specs.Lists.{every, any, those, one_of, above, ascending, rising}
use Rattle.rules.specs.Answer.{row_of, row_bytes, answer_of, answer_head, answer_bytes, legal_row, legal_answer}
use Rattle.rules.specs.Applied.{fill}
use Rattle.answer_judge.specs.Answerable.{answerable}
use Rattle.formats.specs.Format.{number, run, opaque, pair, behind, only, as_if, several, times, inside}
use Rattle.formats.specs.Bits.{width, joined, cut, padded, bits}
use Rattle.formats.specs.Summary.{gathered}
use Rattle.aper.specs.Elements.{length_bytes, long_in, length_in, determinant, open_type, two_bits, head, under, holding, proper, element_of, elements_of, from_one, container, optional, given}
use Rattle.wire.specs.Frame.{frame_criticality, frame_under, frame}
use Rattle.wire.specs.Messages.{known}
use Rattle.wire.specs.Cells.{item_head, item_under, item, entry, list}
use Rattle.wire.specs.MessageTree.{contents_by, contents, value}
use Rattle.wire.specs.MessageRefusals.{is_this, well_encoded, message_elements, known_ids, in_order, complete}
use Rattle.wire.specs.MessageSaid.{nothing_said, rows_in, said_by, said}
use Rattle.wire.specs.CancelSamples.{again}
use Rattle.responses.specs.Response.{entry_for, list_for, elements_for, response_for, response_bytes, response_verdict, response_written}
use Rattle.responses.specs.ResponseRead.{answering, answer_read, read_verdict, response_read}
use Rattle.responses.specs.ResponseSamples.{ResponseSamples}

pub samples_hold : ResponseSamples
unfolding flat_map pieces be to_be numbers field_of bytes_of every any those one_of above ascending rising row_of row_bytes answer_of answer_head answer_bytes legal_row legal_answer fill answerable number run opaque pair behind only as_if several times inside width joined cut padded bits gathered length_bytes long_in length_in determinant open_type two_bits head under holding proper element_of elements_of from_one container optional given frame_criticality frame_under frame known item_head item_under item entry list contents_by contents value is_this well_encoded message_elements known_ids in_order complete nothing_said rows_in said_by said again entry_for list_for elements_for response_for response_bytes response_verdict response_written answering answer_read read_verdict response_read
samples_hold =
    record {
      stopped_nowhere = (refl, refl, refl, refl);
      stopped-twice = (refl, refl, refl, refl);
      started_nowhere = (refl, refl, refl, refl);
      started_once = (refl, refl, refl, refl);
      most-stopped = refl;
      most-started = refl;
      sizes = refl;
      diagnostics = refl;
      diagnostics-first = refl;
      dedicated = refl;
      other-list = refl;
      padding = refl;
      byte_behind = refl;
      empty = refl;
      count-given = refl;
      no-count = refl;
      request = refl;
      unsuccessful = refl;
      another = refl;
      rejected = refl;
      other-rejected = refl;
      no-transaction = refl;
      out_of_order = refl;
      list-twice = refl;
      foreign-item = refl;
      cell-twice = refl;
      descending = refl;
      sixteen_first = refl;
      short = refl;
      fits = refl;
      seventeen_first = refl;
      left = refl;
      wrong-kind = refl;
      failed = refl;
      one-second = refl;
      no_kind = refl;
      falling = refl;
      row-twice = refl;
      start-counted = refl;
      with-contents = refl;
      no_cell = refl;
      row_missing = refl;
      nothing = refl;
      short-message = refl;
      message-fits = refl;
      wrong_first = refl;
      unwritten = refl;
    }

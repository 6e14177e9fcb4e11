-- The samples hold: each is computed.
use mathlib.Core.Path.{refl}
use mathlib.Core.List.{flat_map}
use Rattle.octets.specs.Numbers.{be, to_be}
use Rattle.rules.specs.Lists.{any, every, those, one_of, above}
use Rattle.octets.specs.Fields.{bytes_of}
use Rattle.rules.specs.Record.{cancels_nothing, request_numbers, record_bytes}
use Rattle.rules.specs.Applied.{fill}
use Rattle.formats.specs.Format.{number, run, opaque, pair, behind, only, as_if, several, times, inside}
use Rattle.formats.specs.Bits.{width, joined, cut, padded, bits}
use Rattle.formats.specs.Summary.{gathered}
use Rattle.aper.specs.Elements.{length_bytes, long_in, length_in, determinant, open_type, two_bits, head, under, holding, proper, element_of, elements_of, from_one, container, optional, given}
use Rattle.wire.specs.Frame.{frame_criticality, frame_under, frame}
use Rattle.wire.specs.Cells.{item_head, item_under, item, entry, list}
use Rattle.wire.specs.Messages.{known}
use Rattle.wire.specs.MessageTree.{note_under, note, contents_by, contents, value}
use Rattle.wire.specs.MessageRefusals.{is_this, well_encoded, message_elements, known_ids, in_order, complete, message_verdict}
use Rattle.wire.specs.MessageSaid.{nothing_said, rows_in, said_by, said}
use Rattle.wire.specs.CancelRead.{cancel_request, cancel_verdict, record_of, cancel_read}
use Rattle.wire.specs.MessagePromises.{bare}
use Rattle.wire.specs.CancelSamples.{again, CancelSamples}

pub samples_hold : CancelSamples
unfolding flat_map be to_be any those every one_of above cancels_nothing number run opaque pair behind only as_if several times inside width joined cut padded bits gathered length_bytes long_in length_in determinant open_type two_bits head under holding proper element_of elements_of from_one container optional given frame_criticality frame_under frame item_head item_under item entry list note_under note known contents_by contents value is_this well_encoded message_elements known_ids in_order complete message_verdict nothing_said rows_in said_by said cancel_request cancel_verdict record_of cancel_read bytes_of request_numbers record_bytes fill bare again
samples_hold =
    record {
      minimal = (refl, refl, refl);
      noted = (refl, refl, refl);
      one_cell = (refl, refl, refl);
      two_cells = (refl, refl, refl);
      most-cells = (refl, refl, refl);
      unknown = (refl, refl, refl);
      extended = (refl, refl, refl);
      same = refl;
      bare-same = refl;
      told = refl;
      padding = refl;
      extension_bit = refl;
      known-padding = refl;
      byte_behind = refl;
      element-behind = refl;
      cut_short = refl;
      empty = refl;
      not_shortest = refl;
      fragmented = refl;
      no_value = refl;
      frame-criticality = refl;
      no-criticality = refl;
      too_many = refl;
      criticality-unread = refl;
      frame_notify = refl;
      another = refl;
      outcome = refl;
      extension = refl;
      rejected = refl;
      rejected-item = refl;
      private_network = refl;
      lowest = refl;
      behind-rejected = refl;
      another-rejected = refl;
      rejected-identity = refl;
      rejected-note = refl;
      rejected-twice = refl;
      list-twice = refl;
      item_elsewhere = refl;
      element_elsewhere = refl;
      item-criticality-unread = refl;
      none = refl;
      no-transaction = refl;
      no-request = refl;
      twice = refl;
      out_of_order = refl;
      foreign-item = refl;
      neither = refl;
      short = refl;
      fits = refl;
      sixteen_first = refl;
      left = refl;
    }

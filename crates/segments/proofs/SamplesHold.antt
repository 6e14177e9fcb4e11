-- The samples hold.
-- Each is computed: both sides are the same bytes.
use mathlib.Core.Path.{refl}
use mathlib.Core.List.{flat_map}
use Rattle.octets.specs.Numbers.{be, to_be}
use Rattle.rules.specs.Lists.{every}
use Rattle.rules.specs.Applied.{fill}
use Rattle.segments.specs.Segments.{segment_bytes, list_bytes, first_length, segments_in, segments_of, whole_list, segment_verdict, segment_of, start_in, lying, lies_at, total, cut_at, lengths_fit, pack_verdict, packed}
use Rattle.segments.specs.Samples.{SamplesHold}

pub samples_hold : SamplesHold
unfolding flat_map be to_be every fill segment_bytes list_bytes first_length segments_in segments_of whole_list segment_verdict segment_of start_in lying lies_at total cut_at lengths_fit pack_verdict packed
samples_hold =
    record {
      read = ((refl, refl), ((refl, refl), ((refl, refl), ((refl, refl), ((refl, refl), ((refl, refl), ((refl, refl), ((refl, refl), ((refl, refl), ((refl, refl), ((refl, refl), ((refl, refl), ((refl, refl), ((refl, refl), tt))))))))))))));
      pack = (refl, (refl, (refl, (refl, (refl, (refl, (refl, (refl, tt))))))));
    }

-- What the functions of this crate answer: the record of what a message says, and all that reading it leaves.
use Rattle.std.specs.Prelude.{cond, List, ℕ, eqb, length}
use Rattle.octets.specs.Numbers.{to_be}
use Rattle.rules.specs.Layout.{current, item_size}
use Rattle.rules.specs.Reply.{Row, identities}
use Rattle.rules.specs.Record.{cancel_or_kill, no_area, cell_area}
use Rattle.rules.specs.Refusals.{first_of}
use Rattle.rules.specs.Applied.{Filled, fill}
use Rattle.rules.specs.declared.Request.{Request}
use Rattle.wire.specs.MessageSaid.{Said}
use Rattle.wire.specs.declared.Message.TheVariants.{CancelRequest}
use Rattle.wire_cells.specs.Listed.{rows_listed}
use Rattle.wire.specs.CancelRead.{flags_of, later_tests, record_of}
use Rattle.wire_judge.specs.declared.Seen.{Seen}

-- a cell as an item of the record
abbrev pub item_of : Row → List ℕ
item_of w = to_be (item_size current) w.identity

-- the cells that a list of these bytes names
abbrev pub cells_listed : List ℕ → List ℕ
cells_listed l = identities (rows_listed CancelRequest l)

-- no area without cells
abbrev pub area_by : ℕ → ℕ
area_by n = cond (eqb n 0) no_area cell_area

-- the request of what was seen, with so many cells
unfoldable pub request_by : Seen → ℕ → Request
request_by s n =
    record {
      kind = cancel_or_kill;
      flags = flags_of s.all s.noted;
      area = area_by n;
      identifier = s.identifier;
      serial = s.serial;
      content = 0;
      period = record { 0 = 0 };
      requested = record { 0 = s.requested };
      sib = 0;
    }

-- 7, then 8
unfoldable pub recorded : Said → List ℕ → Filled
recorded c buffer = fill (first_of (later_tests c (length buffer))) (record_of c) buffer

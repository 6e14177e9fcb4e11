-- What the results of the surface's functions, with the buffers that they leave, say.
use Rattle.std.specs.Prelude.{List, ℕ, Ok, Err}
use Rattle.rules.specs.Refusals.{number_of, writing_number, writing_length, Writing}
use Rattle.rules.specs.Applied.{Filled, ReadOutcome, Outcome}
use Rattle.segments.specs.Segments.{Lies}
use Rattle.wire.specs.MessageOutcome.{MessageOutcome, Taking}
use Rattle.pws.specs.declared.PwsDone.{PwsDone}
use Rattle.pws.specs.declared.PwsReading.{PwsReading}
use Rattle.pws.specs.declared.PwsPart.{PwsPart}
use Rattle.pws.specs.declared.PwsMessage.{PwsMessage}

abbrev pub done_by : Writing → PwsDone
done_by x = record { number = writing_number x; length = writing_length x }

-- one buffer is left
abbrev pub filled : PwsDone → List ℕ → Filled
filled d buffer = record { number = d.number; length = d.length; buffer = buffer }

-- a table and an answer are left
abbrev pub left : PwsDone → List ℕ → List ℕ → Outcome
left d table answer = record { number = d.number; length = d.length; table = table; answer = answer }

abbrev pub read_to : PwsReading → ReadOutcome
read_to r = record { number = r.number; request = r.request; items = r.items }

abbrev pub lies : PwsPart → Lies
lies p = record { number = p.number; buffer = p.buffer; start = p.start; length = p.length }

abbrev pub message_by : Taking → PwsMessage
message_by (Ok r) = record { number = 0; transaction = r.transaction; length = r.length }
message_by (Err x) = record { number = number_of x; transaction = 0; length = 0 }

-- a record is left, or the answer in a response
abbrev pub taken : PwsMessage → List ℕ → MessageOutcome
taken m buffer = record { number = m.number; transaction = m.transaction; length = m.length; buffer = buffer }

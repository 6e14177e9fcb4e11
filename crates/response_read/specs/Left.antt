-- What the functions of this crate answer: which response is meant, and the answer of what a response says.
use Rattle.std.specs.Prelude.{cond, ◌&&◌, List, ℕ, eqb, leb, length}
use Rattle.octets.specs.Runs.{gets}
use Rattle.octets.specs.Numbers.{be}
use Rattle.rules.specs.Layout.{current}
use Rattle.rules.specs.Refusals.{first_of}
use Rattle.rules.specs.Reply.{Row}
use Rattle.rules.specs.Answer.{answer_bytes}
use Rattle.rules.specs.Applied.{Filled, fill}
use Rattle.wire.specs.declared.Message.{Message}
use Rattle.wire.specs.declared.Message.TheVariants.{CancelResponse, WriteReplaceResponse}
use Rattle.wire.specs.Messages.{frame_id}
use Rattle.responses.specs.ResponseRead.{unnamed, row_tests}

-- by choice and procedure code alone, which are the first two bytes
unfoldable pub meant_by : List ℕ → Message
meant_by b = cond (leb 2 (length b) && eqb (be (gets b 0 2)) (frame_id WriteReplaceResponse)) WriteReplaceResponse CancelResponse

-- 17, then 8
unfoldable pub answer_left : ℕ → List Row → List ℕ → Filled
answer_left kind rows buffer = fill (first_of (row_tests rows (length buffer))) (answer_bytes current (unnamed kind rows)) buffer

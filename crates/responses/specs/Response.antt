-- The response to an answer: its tree, its bytes, and what writing it leaves.
use Rattle.std.specs.Prelude.{List, [], ◌∷◌, map, ℕ, length}
use Rattle.rules.specs.Layout.{current}
use Rattle.rules.specs.Identity.{plmn_of, part_of}
use Rattle.rules.specs.Record.{Kind, a_write_replace, a_cancel, a_restart, a_failure, a_second, unknown_kind, kind_of}
use Rattle.rules.specs.Reply.{Row}
use Rattle.rules.specs.Answer.{Answer, answer_of}
use Rattle.rules.specs.Refusals.{Test, test, first_of, fits_in, Verdict}
use Rattle.rules.specs.Applied.{Filled, fill}
use Rattle.rules.specs.declared.Refusal.TheVariants.{AnswerWrong, ShortBuffer}
use Rattle.answer_judge.specs.Answerable.{answerable}
use Rattle.aper.specs.Elements.{Element, reject}
use Rattle.wire.specs.Frame.{Frame}
use Rattle.wire.specs.Messages.{choice_of, code_of, transaction_id, cells_id, item_id}
use Rattle.wire.specs.Cells.{Item, Entry, listed}
use Rattle.wire.specs.MessageTree.{transaction, cells, Elements, message}
use Rattle.wire.specs.declared.Message.{Message}
use Rattle.wire.specs.declared.Message.TheVariants.{CancelResponse, WriteReplaceResponse}

-- ---- the tree

-- "Criticality reject everywhere", as TS 38.473 assigns it
abbrev pub assigned : {C : Type 0} → ℕ → C → Element C
assigned id c = record { id = id; criticality = reject; contents = c }

abbrev pub item_for : Row → Item
item_for w = record { plmn = plmn_of w.identity; cell = part_of w.identity; cell_extensions = []; count = w.count; extensions = [] }

unfoldable pub entry_for : Message → Row → Element Entry
entry_for m w = assigned (item_id m) (listed (item_for w))

-- "A list with no rows is left out."
unfoldable pub list_for : Message → List Row → Elements
list_for m [] = []
list_for m (w ∷ ws) = assigned (cells_id m) (cells (map (entry_for m) (w ∷ ws))) ∷ []

unfoldable pub elements_for : Message → ℕ → List Row → Elements
elements_for m t rows = assigned transaction_id (transaction t) ∷ list_for m rows

unfoldable pub response_for : Message → ℕ → List Row → Frame Elements
response_for m t rows = record { choice = choice_of m; code = code_of m; criticality = reject; value = elements_for m t rows }

-- ---- its bytes

unfoldable pub response_bytes : Message → ℕ → List Row → List ℕ
response_bytes m t rows = (message m).encode (response_for m t rows)

-- the message that answers a request of this kind; the others have none
abbrev pub response_to : Kind → Message
response_to a_write_replace = WriteReplaceResponse
response_to a_cancel = CancelResponse
response_to a_restart = CancelResponse
response_to a_failure = CancelResponse
response_to a_second = CancelResponse
response_to unknown_kind = CancelResponse

abbrev pub response_of : Answer → ℕ → List ℕ
response_of a t = response_bytes (response_to (kind_of a.kind)) t a.reply.rows

-- ---- writing: "17 for bytes that no accepted Write-Replace or Cancel could have as its answer under any table, then 8"

abbrev pub response_tests : List ℕ → ℕ → ℕ → List Test
response_tests b t room =
    test (answerable b) AnswerWrong
    ∷ test (fits_in (length (response_of (answer_of current b) t)) room) ShortBuffer
    ∷ []

unfoldable pub response_verdict : List ℕ → ℕ → ℕ → Verdict
response_verdict b t room = first_of (response_tests b t room)

unfoldable pub response_written : List ℕ → ℕ → List ℕ → Filled
response_written b t buffer = fill (response_verdict b t (length buffer)) (response_of (answer_of current b) t) buffer

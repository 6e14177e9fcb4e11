-- What each C function promises of any arguments: what it returns, and what stands in the lent buffers afterwards.
-- The contracts of src/lib.rt cite these names, and so do the demands.
use Rattle.std.specs.Prelude.{◌≡◌, List, ℕ}
use Rattle.rules.specs.Layout.{current}
use Rattle.rules.specs.Applied.{built, conversion, written, read_of, item_at, applied}
use Rattle.rules.specs.declared.Request.{Request}
use Rattle.segments.specs.Segments.{lies_at, packed}
use Rattle.wire.specs.CancelRead.{cancel_read}
use Rattle.responses.specs.Response.{response_written}
use Rattle.responses.specs.ResponseRead.{response_read}
use Rattle.pws.specs.Surface.{filled, left, lies, read_to, taken}
use Rattle.pws.specs.declared.PwsDone.{PwsDone}
use Rattle.pws.specs.declared.PwsReading.{PwsReading}
use Rattle.pws.specs.declared.PwsPart.{PwsPart}
use Rattle.pws.specs.declared.PwsMessage.{PwsMessage}

abbrev pub BuildPromise : (heads table : List ℕ) → PwsDone → List ℕ → Type 0
BuildPromise heads table d table' = filled d table' ≡ built heads table

abbrev pub ConvertPromise : (old table : List ℕ) → PwsDone → List ℕ → Type 0
ConvertPromise old table d table' = filled d table' ≡ conversion old table

abbrev pub ApplyPromise : (table req answer : List ℕ) → PwsDone → List ℕ → List ℕ → Type 0
ApplyPromise table req answer d table' answer' = left d table' answer' ≡ applied current table req answer

abbrev pub ReadPromise : (req : List ℕ) → PwsReading → Type 0
ReadPromise req d = read_to d ≡ read_of req

abbrev pub WritePromise : (request : Request) (items buffer : List ℕ) → PwsDone → List ℕ → Type 0
WritePromise request items buffer d buffer' = filled d buffer' ≡ written request items buffer

abbrev pub ItemPromise : (req : List ℕ) (k : ℕ) → ℕ → Type 0
ItemPromise req k n = n ≡ item_at req k

abbrev pub SegmentPromise : (first more : List ℕ) (k : ℕ) → PwsPart → Type 0
SegmentPromise first more k p = lies p ≡ lies_at first more k

abbrev pub PackPromise : (bytes lengths list : List ℕ) → PwsDone → List ℕ → Type 0
PackPromise bytes lengths list d list' = filled d list' ≡ packed bytes lengths list

abbrev pub ReadCancelPromise : (message buffer : List ℕ) → PwsMessage → List ℕ → Type 0
ReadCancelPromise message buffer m buffer' = taken m buffer' ≡ cancel_read message buffer

abbrev pub WriteResponsePromise : (answer : List ℕ) (transaction : ℕ) (message : List ℕ) → PwsDone → List ℕ → Type 0
WriteResponsePromise answer transaction message d message' = filled d message' ≡ response_written answer transaction message

abbrev pub ReadResponsePromise : (message answer : List ℕ) → PwsMessage → List ℕ → Type 0
ReadResponsePromise message answer m answer' = taken m answer' ≡ response_read message answer

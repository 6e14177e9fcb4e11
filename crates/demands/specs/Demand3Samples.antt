-- Demand 3 on real bytes: calls that meet may not change places, calls that do not meet may. Records and tables are document 01's samples (rules, specs/CallSamples).
-- So the premise can be met by an order that differs, and cannot be left out.
use Rattle.std.specs.Prelude.{◌≡◌, List, [], ◌∷◌, ◌++◌, ℕ, zero, suc, Ok}
use Rattle.octets.specs.Runs.{Bytes}
use Rattle.rules.specs.Layout.{current}
use Rattle.rules.specs.Refusals.{table_verdict}
use Rattle.rules.specs.ByHand.{free, answers, says, blank, leaves, one}
use Rattle.rules.specs.Samples.{two, flood}
use Rattle.rules.specs.CallSamples.{starting, stopping, starting_here, stopping_there, free_cell, two_cells}
use Rattle.demands.specs.Demand3.{Call, Result, result_of, run, Meet, Permuted, KeepsOrder, SameOutcome}

-- a call with a blank answer buffer, and what it gets if it is accepted: the answer at the start of it
abbrev pub call_of : (r : List ℕ) → Bytes r → Call
call_of r b = record { req = r; are_bytes = b; answer = blank }

abbrev pub answered : List ℕ → Result
answered a = result_of (leaves [] a)

-- the first two change places
abbrev pub exchanged : ℕ → ℕ
exchanged zero = 1
exchanged (suc zero) = 0
exchanged (suc (suc i)) = suc (suc i)

-- ---- a start and a cancel of the same text, on a table of one cell with free places

pub record TheyMeet (start stop : Call) : Type 0 where
  pub meet : Meet free_cell start stop
  -- the text stops, and the cancel reports it ..
  pub this_order : run free_cell (start ∷ stop ∷ [])
      ≡ (free_cell, answered (answers 1 4370 16 1 ++ says 16 0 0) ∷ answered (answers 2 4370 16 1 ++ says 16 0 0) ∷ [])
  -- .. or it runs on, and the cancel reports nothing
  pub other-order : run free_cell (stop ∷ start ∷ [])
      ≡ (one (flood 0 0), answered (answers 2 4370 16 0) ∷ answered (answers 1 4370 16 1 ++ says 16 0 0) ∷ [])
  pub differ : SameOutcome (start ∷ stop ∷ []) exchanged (run free_cell (start ∷ stop ∷ [])) (run free_cell (stop ∷ start ∷ [])) → ⊥

-- ---- a start in the first of two cells, and a cancel in the tracking area of the second, where the text was sent twice

pub record TheyDoNot (start stop : Call) : Type 0 where
  -- every premise of the demand
  pub table-bytes : Bytes two_cells
  pub legal : table_verdict current two_cells ≡ Ok tt
  pub order : Permuted (start ∷ stop ∷ []) (stop ∷ start ∷ [])
  pub keeps : KeepsOrder two_cells (start ∷ stop ∷ []) order.place
  pub this_order : run two_cells (start ∷ stop ∷ [])
      ≡ (two (flood 0 0) (free 4), answered (answers 1 4370 16 1 ++ says 16 0 0) ∷ answered (answers 2 4370 16 1 ++ says 32 2 0) ∷ [])
  pub other-order : run two_cells (stop ∷ start ∷ [])
      ≡ (two (flood 0 0) (free 4), answered (answers 2 4370 16 1 ++ says 32 2 0) ∷ answered (answers 1 4370 16 1 ++ says 16 0 0) ∷ [])

-- ---- THE CLAIM: the records are bytes, and calls with them are as said

pub record Demand3Shown : Type 0 where
  pub starting-bytes : Bytes starting
  pub stopping-bytes : Bytes stopping
  pub they_meet : TheyMeet (call_of starting starting-bytes) (call_of stopping stopping-bytes)
  pub starting_here_bytes : Bytes starting_here
  pub stopping-there-bytes : Bytes stopping_there
  pub they_do_not : TheyDoNot (call_of starting_here starting_here_bytes) (call_of stopping_there stopping-there-bytes)

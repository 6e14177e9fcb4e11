-- Every entry point takes every input and comes back, and what it then says and leaves is its promise (crate pws, specs/Promises).
-- Said of the contracts themselves, as the checker reads them: `Asked` is what a caller has to show, `Learnt` what it learns, and `statement` that the function's code meets the contract.
use Rattle.std.specs.Prelude.{List, ℕ}
use contract.Lifetimes.{Lfts}
use Rattle.std.specs.Borrow.{Bor, MutBor}
use Rattle.octets.specs.Settled.{Settles, SettlesResult}
use Rattle.rules.specs.declared.Request.{Request}
use Rattle.pws.specs.Promises.{BuildPromise, ConvertPromise, ApplyPromise, ReadPromise, WritePromise, ItemPromise, SegmentPromise, PackPromise, ReadCancelPromise, WriteResponsePromise, ReadResponsePromise}
use Rattle.pws.specs.declared.PwsDone.{PwsDone}
use Rattle.pws.specs.declared.PwsReading.{PwsReading}
use Rattle.pws.specs.declared.PwsPart.{PwsPart}
use Rattle.pws.specs.declared.PwsMessage.{PwsMessage}
use Rattle.pws.proofs.pws_build.Reads as build
use Rattle.pws.proofs.pws_build.Statement as build-code
use Rattle.pws.proofs.pws_convert.Reads as convert
use Rattle.pws.proofs.pws_convert.Statement as convert-code
use Rattle.pws.proofs.pws_apply.Reads as apply
use Rattle.pws.proofs.pws_apply.Statement as apply-code
use Rattle.pws.proofs.pws_read.Reads as read
use Rattle.pws.proofs.pws_read.Statement as read-code
use Rattle.pws.proofs.pws_write.Reads as write
use Rattle.pws.proofs.pws_write.Statement as write-code
use Rattle.pws.proofs.pws_item.Reads as item
use Rattle.pws.proofs.pws_item.Statement as item-code
use Rattle.pws.proofs.pws_segment.Reads as segment
use Rattle.pws.proofs.pws_segment.Statement as segment-code
use Rattle.pws.proofs.pws_pack.Reads as pack
use Rattle.pws.proofs.pws_pack.Statement as pack-code
use Rattle.pws.proofs.pws_read_cancel.Reads as cancel
use Rattle.pws.proofs.pws_read_cancel.Statement as cancel-code
use Rattle.pws.proofs.pws_write_response.Reads as write_response
use Rattle.pws.proofs.pws_write_response.Statement as write_response-code
use Rattle.pws.proofs.pws_read_response.Reads as read_response
use Rattle.pws.proofs.pws_read_response.Statement as read_response-code

-- a buffer lent to be read, at any place in memory
abbrev Lent : Type 0
Lent = Bor (List ℕ)

-- a buffer lent to be read and written, at any place in memory
abbrev LentOut : Type 0
LentOut = MutBor (List ℕ)

-- a caller has nothing to show, whatever it hands over
pub record AsksNothing : Type 0 where
  pub build_asks : (κs : Lfts 2) (args : _) → build.Asked κs args
  pub convert_asks : (κs : Lfts 2) (args : _) → convert.Asked κs args
  pub apply_asks : (κs : Lfts 3) (args : _) → apply.Asked κs args
  pub read_asks : (κs : Lfts 1) (args : _) → read.Asked κs args
  pub write_asks : (κs : Lfts 2) (args : _) → write.Asked κs args
  pub item_asks : (κs : Lfts 1) (args : _) → item.Asked κs args
  pub segment_asks : (κs : Lfts 2) (args : _) → segment.Asked κs args
  pub pack_asks : (κs : Lfts 3) (args : _) → pack.Asked κs args
  pub cancel_asks : (κs : Lfts 2) (args : _) → cancel.Asked κs args
  pub write_response_asks : (κs : Lfts 2) (args : _) → write_response.Asked κs args
  pub read_response_asks : (κs : Lfts 2) (args : _) → read_response.Asked κs args

-- the code comes back with what its contract says, at every model of the machine
pub record CodeMeets : Type 2 where
  pub build_meets : {M : Type 1} → build-code.statement M
  pub convert_meets : {M : Type 1} → convert-code.statement M
  pub apply_meets : {M : Type 1} → apply-code.statement M
  pub read_meets : {M : Type 1} → read-code.statement M
  pub write_meets : {M : Type 1} → write-code.statement M
  pub item_meets : {M : Type 1} → item-code.statement M
  pub segment_meets : {M : Type 1} → segment-code.statement M
  pub pack_meets : {M : Type 1} → pack-code.statement M
  pub cancel_meets : {M : Type 1} → cancel-code.statement M
  pub write_response_meets : {M : Type 1} → write_response-code.statement M
  pub read_response_meets : {M : Type 1} → read_response-code.statement M

-- what a caller learns is the promise
pub record LearnsPromises : Type 0 where
  pub build-says : (κs : Lfts 2) (heads : Lent) (table table' : LentOut) (d : PwsDone)
      → build.Learnt κs (heads, (table, tt)) d (heads, (table', tt))
      → BuildPromise heads.now table.now d table'.now
  pub convert-says : (κs : Lfts 2) (old : Lent) (table table' : LentOut) (d : PwsDone)
      → convert.Learnt κs (old, (table, tt)) d (old, (table', tt))
      → ConvertPromise old.now table.now d table'.now
  pub apply-says : (κs : Lfts 3) (table : LentOut) (req : Lent) (answer table' answer' : LentOut) (d : PwsDone)
      → apply.Learnt κs (table, (req, (answer, tt))) d (table', (req, (answer', tt)))
      → ApplyPromise table.now req.now answer.now d table'.now answer'.now
  pub read-says : (κs : Lfts 1) (req : Lent) (d : PwsReading)
      → read.Learnt κs (req, tt) d (req, tt)
      → ReadPromise req.now d
  pub write-says : (κs : Lfts 2) (request : Request) (items : Lent) (buffer buffer' : LentOut) (d : PwsDone)
      → write.Learnt κs (request, (items, (buffer, tt))) d (request, (items, (buffer', tt)))
      → WritePromise request items.now buffer.now d buffer'.now
  pub item-says : (κs : Lfts 1) (req : Lent) (k n : ℕ)
      → item.Learnt κs (req, (k, tt)) n (req, (k, tt))
      → ItemPromise req.now k n
  pub segment-says : (κs : Lfts 2) (first more : Lent) (k : ℕ) (p : PwsPart)
      → segment.Learnt κs (first, (more, (k, tt))) p (first, (more, (k, tt)))
      → SegmentPromise first.now more.now k p
  pub pack-says : (κs : Lfts 3) (bytes lengths : Lent) (list list' : LentOut) (d : PwsDone)
      → pack.Learnt κs (bytes, (lengths, (list, tt))) d (bytes, (lengths, (list', tt)))
      → PackPromise bytes.now lengths.now list.now d list'.now
  pub cancel-says : (κs : Lfts 2) (message : Lent) (buffer buffer' : LentOut) (m : PwsMessage)
      → cancel.Learnt κs (message, (buffer, tt)) m (message, (buffer', tt))
      → ReadCancelPromise message.now buffer.now m buffer'.now
  pub write_response-says : (κs : Lfts 2) (answer : Lent) (transaction : ℕ) (message message' : LentOut) (d : PwsDone)
      → write_response.Learnt κs (answer, (transaction, (message, tt))) d (answer, (transaction, (message', tt)))
      → WriteResponsePromise answer.now transaction message.now d message'.now
  pub read_response-says : (κs : Lfts 2) (bytes : Lent) (answer answer' : LentOut) (m : PwsMessage)
      → read_response.Learnt κs (bytes, (answer, tt)) m (bytes, (answer', tt))
      → ReadResponsePromise bytes.now answer.now m answer'.now

-- ---- THE CLAIM

pub record Contracts : Type 2 where
  pub asks_nothing : AsksNothing
  pub code_meets : CodeMeets
  pub learns_promises : LearnsPromises

-- ---- THE CLAIM: one outcome only

-- all that two calls with the same arguments return and leave is the same
pub record OneOutcome : Type 0 where
  pub build_once : Settles {X = PwsDone × List ℕ} build.Learnt (λ κs d exit. (d, exit.1.0.now))
  pub convert_once : Settles {X = PwsDone × List ℕ} convert.Learnt (λ κs d exit. (d, exit.1.0.now))
  pub apply_once : Settles {X = PwsDone × List ℕ × List ℕ} apply.Learnt (λ κs d exit. (d, exit.0.now, exit.1.1.0.now))
  pub read_once : SettlesResult read.Learnt
  pub write_once : Settles {X = PwsDone × List ℕ} write.Learnt (λ κs d exit. (d, exit.1.1.0.now))
  pub item_once : SettlesResult item.Learnt
  pub segment_once : SettlesResult segment.Learnt
  pub pack_once : Settles {X = PwsDone × List ℕ} pack.Learnt (λ κs d exit. (d, exit.1.1.0.now))
  pub cancel_once : Settles {X = PwsMessage × List ℕ} cancel.Learnt (λ κs m exit. (m, exit.1.0.now))
  pub write_response_once : Settles {X = PwsDone × List ℕ} write_response.Learnt (λ κs d exit. (d, exit.1.1.0.now))
  pub read_response_once : Settles {X = PwsMessage × List ℕ} read_response.Learnt (λ κs m exit. (m, exit.1.0.now))

-- The contracts of pws's functions ask for nothing, are met, say the promises, and admit one outcome only.
-- The first and the last by what each contract says; that the code meets it is the function's own theorem.
use mathlib.Core.Path.{◌≡◌}
use mathlib.Core.List.{List}
use Prim.Native.Nat.{ℕ}
use Rattle.octets.proofs.Once.{one-outcome}
use Rattle.pws.specs.Surface.{filled, left, taken}
use Rattle.pws.specs.declared.PwsDone.{PwsDone}
use Rattle.pws.specs.declared.PwsMessage.{PwsMessage}
use Rattle.demands.specs.EntryPoints.{AsksNothing, CodeMeets, LearnsPromises, Contracts, OneOutcome}
use Rattle.pws.proofs.pws_build.Met as build
use Rattle.pws.proofs.pws_convert.Met as convert
use Rattle.pws.proofs.pws_apply.Met as apply
use Rattle.pws.proofs.pws_read.Met as read
use Rattle.pws.proofs.pws_write.Met as write
use Rattle.pws.proofs.pws_item.Met as item
use Rattle.pws.proofs.pws_segment.Met as segment
use Rattle.pws.proofs.pws_pack.Met as pack
use Rattle.pws.proofs.pws_read_cancel.Met as cancel
use Rattle.pws.proofs.pws_write_response.Met as write_response
use Rattle.pws.proofs.pws_read_response.Met as read_response

asks_nothing : AsksNothing
asks_nothing =
    record {
      build_asks = λ κs args. tt;
      convert_asks = λ κs args. tt;
      apply_asks = λ κs args. tt;
      read_asks = λ κs args. tt;
      write_asks = λ κs args. tt;
      item_asks = λ κs args. tt;
      segment_asks = λ κs args. tt;
      pack_asks = λ κs args. tt;
      cancel_asks = λ κs args. tt;
      write_response_asks = λ κs args. tt;
      read_response_asks = λ κs args. tt;
    }

code_meets : CodeMeets
code_meets =
    record {
      build_meets = build.met;
      convert_meets = convert.met;
      apply_meets = apply.met;
      read_meets = read.met;
      write_meets = write.met;
      item_meets = item.met;
      segment_meets = segment.met;
      pack_meets = pack.met;
      cancel_meets = cancel.met;
      write_response_meets = write_response.met;
      read_response_meets = read_response.met;
    }

learns_promises : LearnsPromises
learns_promises =
    record {
      build-says = λ κs heads table table' d p. p;
      convert-says = λ κs old table table' d p. p;
      apply-says = λ κs table req answer table' answer' d p. p;
      read-says = λ κs req d p. p;
      write-says = λ κs request items buffer buffer' d p. p;
      item-says = λ κs req k n p. p;
      segment-says = λ κs first more k d p. p;
      pack-says = λ κs bytes lengths list list' d p. p;
      cancel-says = λ κs message buffer buffer' m p. p;
      write_response-says = λ κs answer transaction message message' d p. p;
      read_response-says = λ κs bytes answer answer' m p. p;
    }

pub contracts_hold : Contracts
contracts_hold = record { asks_nothing = asks_nothing; code_meets = code_meets; learns_promises = learns_promises }

-- ---- one outcome only: each promise is an equation between all of it and a definition

-- what says the same of one buffer, and of two, is the same
filled_once : (d e : PwsDone) (a b : List ℕ) → filled d a ≡ filled e b → ◌≡◌ {A = PwsDone × List ℕ} (d, a) (e, b)
filled_once d e a b p i = (record { number = (p i).number; length = (p i).length }, (p i).buffer)

left_once : (d e : PwsDone) (a x b y : List ℕ) → left d a x ≡ left e b y → ◌≡◌ {A = PwsDone × List ℕ × List ℕ} (d, a, x) (e, b, y)
left_once d e a x b y p i = (record { number = (p i).number; length = (p i).length }, (p i).table, (p i).answer)

taken_once : (m n : PwsMessage) (a b : List ℕ) → taken m a ≡ taken n b → ◌≡◌ {A = PwsMessage × List ℕ} (m, a) (n, b)
taken_once m n a b p i = (record { number = (p i).number; transaction = (p i).transaction; length = (p i).length }, (p i).buffer)

pub one-outcome-only : OneOutcome
one-outcome-only =
    record {
      build_once = λ κs args d e x y p q. filled_once d e x.1.0.now y.1.0.now (one-outcome p q);
      convert_once = λ κs args d e x y p q. filled_once d e x.1.0.now y.1.0.now (one-outcome p q);
      apply_once = λ κs args d e x y p q. left_once d e x.0.now x.1.1.0.now y.0.now y.1.1.0.now (one-outcome p q);
      read_once = λ κs args d e x y p q i. let o = one-outcome p q i in record { number = o.number; request = o.request; items = o.items };
      write_once = λ κs args d e x y p q. filled_once d e x.1.1.0.now y.1.1.0.now (one-outcome p q);
      item_once = λ κs args m n x y. one-outcome;
      segment_once = λ κs args d e x y p q i. let o = one-outcome p q i in record { number = o.number; buffer = o.buffer; start = o.start; length = o.length };
      pack_once = λ κs args d e x y p q. filled_once d e x.1.1.0.now y.1.1.0.now (one-outcome p q);
      cancel_once = λ κs args m n x y p q. taken_once m n x.1.0.now y.1.0.now (one-outcome p q);
      write_response_once = λ κs args d e x y p q. filled_once d e x.1.1.0.now y.1.1.0.now (one-outcome p q);
      read_response_once = λ κs args m n x y p q. taken_once m n x.1.0.now y.1.0.now (one-outcome p q);
    }

-- A converted table broadcasts what it would have under its own version.
-- Call by call: what is told is the same, and what is left is what the older unit leaves, converted (ToldAlike).
use mathlib.Core.Path.{◌≡◌, refl, ap, ◌∙◌}
use mathlib.Core.List.{List}
use Prim.Native.Nat.{ℕ}
use lib.ListN.{length, take}
use Rattle.octets.specs.Runs.{Bytes}
use Rattle.rules.specs.Layout.{Version, current}
use Rattle.rules.specs.Table.{cell_count, own_version}
use Rattle.rules.specs.Record.{version_in}
use Rattle.rules.specs.Applied.{converted}
use Rattle.rules.proofs.OutcomeLaws.{read-accepted, applied-accepted}
use Rattle.rules.proofs.AcceptedCallLaws.{call_accepted}
use Rattle.rules.proofs.VersionsLaws.{applied-renewed, taken-version, asked-period, still_taken}
use Rattle.pws.specs.declared.PwsDone.{PwsDone}
use Rattle.pws.specs.Promises.{ConvertPromise}
use Rattle.demands.specs.Demand3.{Call, Result, outcome_in, run_in, Chain}
use Rattle.demands.specs.Conversion.{SameCall, Each, none, more, EachTold, none_told, more-told, SameBroadcasts, Conversion, EitherWay, RenewedAlike}
use Rattle.demands.proofs.CarriedHolds.{carried}
use Rattle.demands.proofs.OneCall.{LegalWith, legal-with, still_legal}
use Rattle.demands.proofs.ToldAlike.{same-told, same-table}
use Rattle.demands.proofs.SecondsAlike.{seconds-sent, seconds-accepted}
use Rattle.demands.proofs.Demand3Chains.{chain_is-run}

-- ---- call by call

module _ (v : Version) (n : ℕ) where
  broadcasts : (t : List ℕ) → LegalWith v n t → (cs ds : List Call) → Each (SameCall v n) cs ds → SameBroadcasts v t cs ds (run_in current (converted t) ds)
  unfolding run_in
  broadcasts t g cs ds none = record { same-told = none_told; same-table = refl }
  broadcasts t g cs ds (more {c} {d} {cs = cs'} {ds = ds'} s rest) =
      let then = (outcome_in v t c).table in
      let now = (outcome_in current (converted t) d).table in
      let left : now ≡ converted then = same-table v n t g c d s in
      let b = broadcasts then (still_legal v n t g c) cs' ds' rest in
      let told : EachTold v then cs' ds' (run_in v then cs').1 (run_in current now ds').1 = rw left b.same-told in
      record {
        same-told = more-told (same-told v n t g c d s) told;
        same-table = ap (λ u. (run_in current u ds').0) left ∙ b.same-table;
      }

-- ---- calls on what the converter left

promised : (old table : List ℕ) → Bytes old → (d : PwsDone) (table' : List ℕ) → ConvertPromise old table d table' → d.number ≡ 0
    → (cs ds : List Call) → Each (SameCall (own_version old) (cell_count old)) cs ds → (u : List ℕ) (rs : List Result) → Chain (take d.length table') ds u rs
    → SameBroadcasts (own_version old) old cs ds (u, rs)
promised old table bytes d table' p z cs ds same u rs chain =
    let k = carried old table bytes d table' p z in
    rw (chain_is-run chain, k.whole) (broadcasts (own_version old) (cell_count old) old (legal-with (own_version old) old bytes k.was_legal) cs ds same)

pub conversion-holds : Conversion
conversion-holds =
    record {
      carried = carried;
      broadcasts = λ v t bytes legal. broadcasts v (cell_count t) t (legal-with v t bytes legal);
      promised = promised;
      seconds = λ v t bytes legal cs ds s. (seconds-sent v (cell_count t) s, seconds-accepted v (cell_count t) t (legal-with v t bytes legal) s);
    }

-- ---- what the words of the claim cover

pub either_way : EitherWay
either_way v t c z =
    let e = (call_accepted v t c.req (length c.answer) (applied-accepted v t c.req c.answer z)).req in
    let taken = taken-version v c.req e in
    (taken, still_taken v (version_in c.req) taken, asked-period v c.req e)

pub renewed_alike : RenewedAlike
renewed_alike t r a z =
    let e = read-accepted r z in
    applied-renewed r (taken-version current r e) (asked-period current r e) t a

-- A call on the converted table tells what the same call tells in the older unit, and leaves what that one leaves, converted.
-- What is told is decoded, and does not depend on the version (rules, VersionsLaws); each unit writes it in its own layout.
use Rattle.std.specs.Prelude.{Ok}
use mathlib.Core.Path.{◌≡◌, sym, ◌∙◌}
use mathlib.Core.List.{List}
use Prim.Native.Nat.{ℕ}
use lib.ListN.{length}
use Rattle.octets.specs.Runs.{Bytes}
use Rattle.rules.specs.Layout.{Version, current}
use Rattle.rules.specs.Table.{cell_count}
use Rattle.rules.specs.Record.{request_of, version_in, takes_version}
use Rattle.rules.specs.Answer.{Answer, room_for}
use Rattle.rules.specs.Refusals.{fits_in, apply_verdict}
use Rattle.rules.specs.Applied.{converted, answered, applied}
use Rattle.rules.proofs.OutcomeLaws.{applied-accepted, applied-refused}
use Rattle.rules.proofs.AppliedLaws.{applied-written}
use Rattle.rules.proofs.AnsweredLaws.{applied-whole, applied-reads}
use Rattle.rules.proofs.ConvertedLaws.{bytes-converted}
use Rattle.rules.proofs.VersionsLaws.{applied-renewed, still_taken}
use Rattle.rules.proofs.AlikeLaws.{answered_alike, apply_alike, number_alike, table_alike}
use Rattle.demands.specs.Demand3.{Call, outcome_in, result_of}
use Rattle.demands.specs.Conversion.{SentToday, as_it_stands, written_anew, SameCall, Tells, Silent, SameTold}
use Rattle.demands.proofs.OneCall.{LegalWith}

-- ---- in one unit

tells : (v : Version) (t r a : List ℕ) → Bytes t → Bytes r → apply_verdict v t r (length a) ≡ Ok tt → Tells v (answered v t r) a (result_of (applied v t r a))
tells v t r a bt br e =
    record { size = applied-written v t r a bt br e; whole = applied-whole v t r a bt br e; reads = applied-reads v t r a bt br e }

silent : (v : Version) (t r a : List ℕ) → ((applied v t r a).number ≡ 0 → ⊥) → Silent a (result_of (applied v t r a))
silent v t r a n = let s = applied-refused v t r a n in record { nothing = s.0; kept = s.2 }

-- ---- in both

-- what a host sends today does what the record as it stands does, of which both units take the version or neither does
record SentAlike (v : Version) (r s : List ℕ) : Type 0 where
  taken : takes_version current (version_in r) ≡ takes_version v (version_in r)
  alike : (t a : List ℕ) → applied current t s a ≡ applied current t r a

sent_alike : (v : Version) (r s : List ℕ) → SentToday v r s → SentAlike v r s
sent_alike v r s (as_it_stands h e) = record { taken = h; alike = λ t a. rw e }
sent_alike v r s (written_anew h p e) =
    let both_take = still_taken v (version_in r) h in
    record { taken = both_take ∙ sym h; alike = λ t a. rw e (applied-renewed r both_take p t a) }

module _ (v : Version) (n : ℕ) (t : List ℕ) (g : LegalWith v n t) (c d : Call) (s : SameCall v n c d) where
  taken : takes_version current (version_in c.req) ≡ takes_version v (version_in c.req)
  taken = (sent_alike v c.req d.req s.req).taken

  -- today's unit does with what it gets what it does with the older unit's record
  today : outcome_in current (converted t) d ≡ applied current (converted t) c.req d.answer
  today = (sent_alike v c.req d.req s.req).alike (converted t) d.answer

  rooms : fits_in (room_for current (request_of c.req).kind (cell_count t)) (length d.answer) ≡ fits_in (room_for v (request_of c.req).kind (cell_count t)) (length c.answer)
  rooms = rw g.count s.rooms

  same_number : (outcome_in current (converted t) d).number ≡ (outcome_in v t c).number
  same_number = rw today (number_alike v t g.bytes g.accepted c.req c.answer d.answer taken rooms)

  pub same-table : (outcome_in current (converted t) d).table ≡ converted (outcome_in v t c).table
  same-table = rw today (table_alike v t g.bytes g.accepted c.req c.answer d.answer taken rooms c.are_bytes)

  abbrev told : Answer
  told = answered v t c.req

  tells_then : (outcome_in v t c).number ≡ 0 → Tells v told c.answer (result_of (outcome_in v t c))
  tells_then z = tells v t c.req c.answer g.bytes c.are_bytes (applied-accepted v t c.req c.answer z)

  tells_now : (outcome_in v t c).number ≡ 0 → Tells current told d.answer (result_of (outcome_in current (converted t) d))
  tells_now z =
      let e = apply_alike v t g.bytes g.accepted c.req c.answer d.answer taken rooms ∙ applied-accepted v t c.req c.answer z in
      rw (today, ← answered_alike v t g.bytes g.accepted c.req) (tells current (converted t) c.req d.answer (bytes-converted v t g.accepted g.bytes) c.are_bytes e)

  pub same-told : SameTold v told c d (result_of (outcome_in v t c)) (result_of (outcome_in current (converted t) d))
  same-told =
      record {
        same_number = same_number;
        accepted = λ z. (tells_then z, tells_now z);
        refused = λ x. (silent v t c.req c.answer x, silent current (converted t) d.req d.answer (λ z. x (sym same_number ∙ z)));
      }

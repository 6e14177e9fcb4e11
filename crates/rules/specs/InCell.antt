-- Document 01, "What happens in each reached cell": for each kind, the live places afterwards and what is reported. No bytes.
-- Of earthquake primaries as document 02, 2/13, has it.
use Rattle.std.specs.Prelude.{Bool, cond, not, ◌&&◌, ℕ, ◌+◌, ◌-◌, eqb, ltb, length}
use mathlib.Core.List.{List, [], ◌∷◌, ◌++◌, flat_map}
use Rattle.rules.specs.Lists.{those}
use Rattle.rules.specs.Layout.{places_per_cell, most_sent}
use Rattle.rules.specs.Table.{is_text, running}
use Rattle.rules.specs.Record.{Kind, a_write_replace, a_cancel, a_restart, a_failure, a_second, unknown_kind, kind_of, concurrent, cancel_all, is_primary}
use Rattle.rules.specs.ZeroRules.{zero_rules_stop}
use Rattle.rules.specs.declared.Seconds.{Seconds}
use Rattle.rules.specs.declared.Broadcasts.{Broadcasts}
use Rattle.rules.specs.declared.Place.{Place}
use Rattle.rules.specs.declared.Request.{Request}

-- what a row says besides the cell
pub record Told : Type 0 where
  pub count : ℕ
  pub content : ℕ

pub record Done : Type 0 where
  pub places : List Place
  pub rows : List Told

abbrev pub done : List Place → List Told → Done
done ps rows = record { places = ps; rows = rows }

-- the cell is reported with a count
abbrev pub reported : ℕ → List Told
reported n = record { count = n; content = 0 } ∷ []

-- reported only if a place is live
unfoldable pub reported_if_live : List Place → List Told
reported_if_live [] = []
reported_if_live (p ∷ ps) = reported 0

-- ---- Write-Replace

-- the zero rules stop it; a primary skips them
unfoldable pub starts_nothing : Request → Bool
starts_nothing q = not (is_primary q) && zero_rules_stop q

-- a primary goes out every second until it is stopped, whatever period and count it came with
unfoldable pub new_place : Request → Place
new_place q =
    record {
      identifier = q.identifier;
      serial = q.serial;
      content = q.content;
      period = cond (is_primary q) (record { 0 = 1 }) q.period;
      requested = cond (is_primary q) (record { 0 = 0 }) q.requested;
      sent = record { 0 = 0 };
      wait = record { 0 = 0 };
      sib = q.sib;
    }

-- the same text is live: nothing changes, reported; flag 1 absent: all dropped, the new one first; flag 1 and a place free: behind the others; full: nothing
unfoldable pub start : Request → List Place → Done
start q ps =
    cond (starts_nothing q) (done ps [])
    (cond (running q.identifier q.serial ps) (done ps (reported 0))
    (cond (not (concurrent q)) (done (new_place q ∷ []) (reported 0))
    (cond (ltb (length ps) places_per_cell) (done (ps ++ (new_place q ∷ [])) (reported 0)) (done ps []))))

-- ---- Cancel, Restart, Failure

-- flag 2: all stop, count 0. Else the one with that identifier and serial number, with its sent count; no two are alike
unfoldable pub cancel : Request → List Place → Done
cancel q ps =
    cond (cancel_all q) (done [] (reported_if_live ps))
    (done (those (λ p. not (is_text q.identifier q.serial p)) ps)
    (flat_map (λ p. cond (is_text q.identifier q.serial p) (reported p.sent.0) []) ps))

unfoldable pub restart : List Place → Done
restart ps = done [] (reported 0)

unfoldable pub failure : List Place → Done
failure ps = done [] (reported_if_live ps)

-- ---- One second

-- "Wait 0 at its start means a broadcast"
unfoldable pub is_due : Place → Bool
is_due p = eqb p.wait.0 0

-- one more, but it stays at 65,535
unfoldable pub one_more : Broadcasts → Broadcasts
one_more n = cond (ltb n.0 most_sent) (record { 0 = n.0 + 1 }) n

-- one second nearer, and 0 stays 0
abbrev pub one_less : Seconds → Seconds
one_less n = record { 0 = n.0 - 1 }

unfoldable pub with_counts : Place → Broadcasts → Seconds → Place
with_counts p sent wait =
    record {
      identifier = p.identifier;
      serial = p.serial;
      content = p.content;
      period = p.period;
      requested = p.requested;
      sent = sent;
      wait = wait;
      sib = p.sib;
    }

-- a place after the second: broadcast once more and waiting anew, or one second nearer
unfoldable pub later : Place → Place
later p =
    cond (is_due p) (with_counts p (one_more p.sent) (one_less p.period)) (with_counts p p.sent (one_less p.wait))

-- "if requested is not 0 and sent equals it"
unfoldable pub has_ended : Place → Bool
has_ended p = not (eqb p.requested.0 0) && eqb p.sent.0 p.requested.0

unfoldable pub stays_live : Place → Bool
stays_live p = not (is_due p && has_ended (later p))

-- the places that stay close up; a row for each broadcast, with sent after it
unfoldable pub second : List Place → Done
second ps =
    done (flat_map (λ p. cond (stays_live p) (later p ∷ []) []) ps)
    (flat_map (λ p. cond (is_due p) (record { count = (later p).sent.0; content = p.content } ∷ []) []) ps)

-- ---- all kinds

abbrev pub rule_of : Kind → Request → List Place → Done
rule_of a_write_replace q ps = start q ps
rule_of a_cancel q ps = cancel q ps
rule_of a_restart q ps = restart ps
rule_of a_failure q ps = failure ps
rule_of a_second q ps = second ps
rule_of unknown_kind q ps = done ps []

unfoldable pub in_cell : Request → List Place → Done
in_cell q ps = rule_of (kind_of q.kind) q ps

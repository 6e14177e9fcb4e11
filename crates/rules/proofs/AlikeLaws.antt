-- Any call does the same in a unit of any version and, on the converted table, in today's, if both take the record's version or neither does, and both have the room that they ask for or neither.
-- Of a record's tests only two depend on a version: whether its own is taken, and the longest period. The cells that two units decode are the same.
use Rattle.std.specs.Prelude.{Ok, Err}
use mathlib.Core.Path.{◌≡◌, refl, sym, ap, ◌∙◌}
use mathlib.Core.List.{List, map}
use Prim.Native.Nat.{ℕ}
use lib.ListN.{length}
use Rattle.octets.specs.Runs.{Bytes}
use Rattle.rules.specs.Layout.{Version, version1, version2, current}
use Rattle.rules.specs.Table.{cell_count, table_bytes}
use Rattle.rules.specs.Record.{request_of, items_of, version_in, takes_version, record_marked}
use Rattle.rules.specs.Answer.{Answer, row_bytes, answer_head, answer_bytes, room_for}
use Rattle.rules.specs.Refusals.{fits_in, table_verdict, record_verdict, apply_verdict, Verdict}
use Rattle.rules.specs.Applied.{converted, step_cell, answered, outcome, applied}
use Rattle.rules.proofs.VerdictLaws.{apply_chain}
use Rattle.rules.proofs.AppliedLaws.{applied-table, applied-cells, applied-legal}
use Rattle.rules.proofs.ConvertedLaws.{converted_by, converted-cells, converted-legal, converted-count, bytes-converted}

-- ---- the same record in both units

-- both take its version, or neither does
verdict_alike : (v : Version) (r : List ℕ) → takes_version current (version_in r) ≡ takes_version v (version_in r) → record_verdict current r ≡ record_verdict v r
unfolding record_verdict record_marked
verdict_alike v r h = rw h

-- ---- any call on a converted table

-- a unit of a version and today's get the same record, each with a buffer of its own: both have the room that they ask for, or neither has
module _ (v : Version) (t : List ℕ) (bytes : Bytes t) (legal : table_verdict v t ≡ Ok tt) (r : List ℕ) where
  -- what is told does not depend on the version
  pub answered_alike : answered current (converted t) r ≡ answered v t r
  answered_alike = rw (converted-cells v t legal bytes)

  module _ (a b : List ℕ) (taken : takes_version current (version_in r) ≡ takes_version v (version_in r))
      (room : fits_in (room_for current (request_of r).kind (cell_count t)) (length b) ≡ fits_in (room_for v (request_of r).kind (cell_count t)) (length a)) where
    pub apply_alike : apply_verdict current (converted t) r (length b) ≡ apply_verdict v t r (length a)
    apply_alike =
        rw (apply_chain current (converted t) r (length b), apply_chain v t r (length a), legal, converted-legal v t legal bytes, verdict_alike v r taken, converted-count v t legal bytes, room)

    pub number_alike : (applied current (converted t) r b).number ≡ (applied v t r a).number
    unfolding applied outcome
    number_alike = rw apply_alike (same (apply_verdict v t r (length a)))
      where
        same : (w : Verdict) → (outcome current w (request_of r) (items_of r) (converted t) b).number ≡ (outcome v w (request_of r) (items_of r) t a).number
        same (Ok tt) = refl
        same (Err x) = refl

    -- accepted or refused: the table that the older unit leaves, converted
    pub table_alike : Bytes r → (applied current (converted t) r b).table ≡ converted (applied v t r a).table
    unfolding applied outcome
    table_alike br = go (apply_verdict v t r (length a)) refl
      where
        go : (w : Verdict) → apply_verdict v t r (length a) ≡ w → (applied current (converted t) r b).table ≡ converted (applied v t r a).table
        go (Err x) e = rw (apply_alike, e)
        go (Ok tt) e =
            applied-table current (converted t) r b (bytes-converted v t legal bytes) br (apply_alike ∙ e)
            ∙ ap (λ cs. table_bytes current (map (step_cell (request_of r) (items_of r)) cs)) (converted-cells v t legal bytes)
            ∙ sym (ap (table_bytes current) (applied-cells v t r a bytes br e))
            ∙ sym (converted_by v (applied v t r a).table (applied-legal v t r a bytes br e))

-- ---- document 02, 3/13, left the answer as it was: these two hold as long as its layout is the same in every version

pub answer_stays : (v : Version) (w : Answer) → answer_bytes v w ≡ answer_bytes current w
unfolding answer_bytes answer_head row_bytes
answer_stays version1 w = refl
answer_stays version2 w = refl

pub room_stays : (v : Version) (kind cells : ℕ) → room_for v kind cells ≡ room_for current kind cells
unfolding room_for
room_stays version1 kind cells = refl
room_stays version2 kind cells = refl

-- What the functions of this crate answer, in the words of the judge of requests: what was met in a response is what is seen in a message that says no more.
use Rattle.std.specs.Prelude.{◌≡◌, Bool, true, false, cond, ◌&&◌, ◌||◌, List, ℕ, ◌≤◌, eqb, ltb, length, take, drop, Option, Some, None}
use Rattle.octets.specs.Runs.{gets}
use Rattle.octets.specs.Numbers.{be}
use Rattle.aper.specs.Elements.{reject, criticalities}
use Rattle.aper.specs.Readers.{ElementAt}
use Rattle.wire.specs.Messages.{the_transaction, transaction_id}
use Rattle.wire.specs.MessageTree.{contents_by}
use Rattle.wire.specs.Readers.{Tells}
use Rattle.wire.specs.declared.Marks.{Marks}
use Rattle.wire.specs.declared.Message.TheVariants.{CancelRequest}
use Rattle.wire.specs.declared.Heard.TheVariants.{Transaction}
use Rattle.wire_judge.specs.declared.Seen.{Seen}
use Rattle.response_judge.specs.declared.Met.{Met}

-- no response asks for a number of broadcasts, cancels everything or names a message
abbrev pub seen_of : Met → Seen
seen_of s =
    record { rejects = s.rejects; lacks = s.lacks; ascends = s.ascends; ordered = s.ordered; last = s.last; identified = s.identified; counted = false; transaction = s.transaction; requested = 0; all = false; noted = false; identifier = 0; serial = 0; start = s.start; end = s.end }

-- ---- what was met, with one element more

-- a known one, in the order of their ids
unfoldable pub in_turn_of : Met → ℕ → Met
in_turn_of s id =
    record { start = s.start; end = s.end; last = id; transaction = s.transaction; rejects = s.rejects; lacks = s.lacks; ascends = s.ascends; ordered = s.ordered && ltb s.last id; identified = s.identified }

-- a transaction identifier
unfoldable pub identified_by : Met → (number : ℕ) → Met
identified_by s n =
    record { start = s.start; end = s.end; last = transaction_id; transaction = n; rejects = s.rejects; lacks = s.lacks; ascends = s.ascends; ordered = s.ordered && ltb s.last transaction_id; identified = true }

-- a list by its marks, and where it lies
unfoldable pub listed_by : Met → (id start end : ℕ) → Marks → Met
listed_by s id from to r =
    record { start = from; end = to; last = id; transaction = s.transaction; rejects = s.rejects || r.rejected; lacks = s.lacks || r.foreign; ascends = r.ascends; ordered = s.ordered && ltb s.last id; identified = s.identified }

-- an unknown one is skipped, or counts as marked reject, or has no criticality
unfoldable pub past_by : Met → (criticality : ℕ) → Option Met
past_by s c =
    cond (ltb c criticalities)
    (Some (record { start = s.start; end = s.end; last = s.last; transaction = s.transaction; rejects = s.rejects || eqb c reject; lacks = s.lacks; ascends = s.ascends; ordered = s.ordered; identified = s.identified }))
    None

-- ---- at once

-- a transaction identifier, and a list behind it if its end is not 0
unfoldable pub alone_by : (number last start end : ℕ) → Bool → Met
alone_by n last start end ascends =
    record { start = start; end = end; last = last; transaction = n; rejects = false; lacks = false; ascends = ascends; ordered = true; identified = true }

-- a response that begins with a transaction identifier, of any criticality
pub record FrontAt (l : List ℕ) : Type 0 where
  pub long : 9 ≤ length l
  pub blank : be (gets l 0 1) ≡ 0
  pub criticality : ℕ
  pub read : ElementAt l 3 (Some (record { id = transaction_id; criticality = criticality; start = 7; end = 9 }))
  pub tells : Tells (contents_by CancelRequest the_transaction) (take 2 (drop 7 l)) (Some (Transaction (be (gets l 8 1))))

abbrev pub Fronted : List ℕ → Bool → Type 0
Fronted l true = FrontAt l
Fronted l false = Unit {0}

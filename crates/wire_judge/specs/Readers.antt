-- What the functions of this crate answer.
use Rattle.std.specs.Prelude.{◌≡◌, Bool, true, false, cond, not, ◌&&◌, ◌||◌, List, [], ◌∷◌, ℕ, ◌≤◌, eqb, ltb, length, drop, Option, Some, None, Result, Ok, Err}
use Rattle.octets.specs.Runs.{gets}
use Rattle.octets.specs.Numbers.{be}
use Rattle.formats.specs.Format.{Found, nothing, found, all_of}
use Rattle.formats.specs.Summary.{summed, gathered}
use Rattle.aper.specs.Elements.{reject, criticalities}
use Rattle.aper.specs.Readers.{ElementAt}
use Rattle.aper.specs.declared.Element.{Element as Placed}
use Rattle.wire.specs.Frame.{Frame, outer}
use Rattle.wire.specs.Messages.{frame_id}
use Rattle.wire.specs.MessageTree.{element, value}
use Rattle.wire.specs.MessageRefusals.{is_of, message_verdict}
use Rattle.wire.specs.MessageSaid.{said_in}
use Rattle.wire.specs.declared.Message.{Message}
use Rattle.wire.specs.declared.Message.TheVariants.{CancelRequest, CancelResponse, WriteReplaceResponse}
use Rattle.wire.specs.declared.Heard.{Heard}
use Rattle.wire.specs.declared.Heard.TheVariants.{Transaction, Requested, Cells, CancelAll, Notification, Unknown}
use Rattle.wire_judge.specs.Account.{Account, open_account, accounted, account_by, Lies}
use Rattle.wire_judge.specs.declared.Seen.{Seen}
use Rattle.wire_judge.specs.declared.Judged.{Judged}
use Rattle.rules.specs.declared.Refusal.{Refusal}
use Rattle.rules.specs.declared.Refusal.TheVariants.{BadEncoding, OtherMessage}

-- ---- the frame: a choice-extension, which has an id of two bytes; the message's bytes if it is this one, none of another message

abbrev pub Extended : List ℕ → Type 0
Extended l = be (gets l 0 1) ≡ 192

-- an element at the front that is the message's own frame, of all bytes
abbrev pub is_own : Message → (size : ℕ) → Option Placed → Bool
is_own m size (Some e) = (eqb e.id (frame_id m) && ltb e.criticality criticalities) && eqb e.end size
is_own m size None = false

abbrev pub NotOwn : Message → List ℕ → Type 0
NotOwn m l = (x : Option Placed) → ElementAt l 0 x → is_own m (length l) x ≡ false

-- from an index on, an element with a criticality and nothing behind it, or not
abbrev pub outside_of : (size : ℕ) → Option Placed → Refusal
outside_of size (Some e) = cond (ltb e.criticality criticalities && eqb e.end size) OtherMessage BadEncoding
outside_of size None = BadEncoding

pub record Outside (l : List ℕ) (at : ℕ) (r : Refusal) : Type 0 where
  pub read : Option Placed
  pub there : ElementAt l at read
  pub says : r ≡ outside_of (length l) read

abbrev pub ours : Message → Frame (List ℕ) → List (List ℕ)
ours m f = cond (is_of m f) (f.value ∷ []) []

-- by what the frame holds: the message's bytes, or nothing as it is another message's, or that there is no frame
abbrev pub FramedBy : List ℕ → Result ℕ Refusal → Found (List (List ℕ)) → Type 0
FramedBy l (Ok start) x = (found (drop start l ∷ []) [] ≡ x) × (start ≤ length l)
FramedBy l (Err e) nothing = e ≡ BadEncoding
FramedBy l (Err e) (found [] rest) = (e ≡ OtherMessage) × (rest ≡ [])
FramedBy l (Err e) (found (b ∷ bs) rest) = ⊥

abbrev pub FramedAs : Message → List ℕ → Result ℕ Refusal → Type 0
FramedAs m l r = FramedBy l r (all_of (summed (ours m) (outer.parse l)) [])

-- ---- what was seen, with one element more

unfoldable pub nothing_seen : Seen
nothing_seen =
    record { rejects = false; lacks = false; ascends = true; ordered = true; last = 0; identified = false; counted = false; transaction = 0; requested = 0; all = false; noted = false; identifier = 0; serial = 0; start = 0; end = 0 }

-- a known one, in the order of their ids
unfoldable pub in_turn : Seen → ℕ → Seen
in_turn s id =
    record { rejects = s.rejects; lacks = s.lacks; ascends = s.ascends; ordered = s.ordered && ltb s.last id; last = id; identified = s.identified; counted = s.counted; transaction = s.transaction; requested = s.requested; all = s.all; noted = s.noted; identifier = s.identifier; serial = s.serial; start = s.start; end = s.end }

-- an unknown one is skipped, or counts as marked reject, or has no criticality
unfoldable pub past_of : Seen → (criticality : ℕ) → Option Seen
past_of s c =
    cond (ltb c criticalities)
    (Some (record { rejects = s.rejects || eqb c reject; lacks = s.lacks; ascends = s.ascends; ordered = s.ordered; last = s.last; identified = s.identified; counted = s.counted; transaction = s.transaction; requested = s.requested; all = s.all; noted = s.noted; identifier = s.identifier; serial = s.serial; start = s.start; end = s.end }))
    None

-- what it tells, and where it lies
unfoldable pub turn_of : Seen → (id criticality start end : ℕ) → Heard → Option Seen
turn_of s id c from to (Transaction t) =
    Some (record { rejects = s.rejects; lacks = s.lacks; ascends = s.ascends; ordered = s.ordered && ltb s.last id; last = id; identified = true; counted = s.counted; transaction = t; requested = s.requested; all = s.all; noted = s.noted; identifier = s.identifier; serial = s.serial; start = s.start; end = s.end })
turn_of s id c from to (Requested n) =
    Some (record { rejects = s.rejects; lacks = s.lacks; ascends = s.ascends; ordered = s.ordered && ltb s.last id; last = id; identified = s.identified; counted = true; transaction = s.transaction; requested = n; all = s.all; noted = s.noted; identifier = s.identifier; serial = s.serial; start = s.start; end = s.end })
turn_of s id c from to (Cells r) =
    Some (record { rejects = s.rejects || r.rejected; lacks = s.lacks || r.foreign; ascends = r.ascends; ordered = s.ordered && ltb s.last id; last = id; identified = s.identified; counted = s.counted; transaction = s.transaction; requested = s.requested; all = s.all; noted = s.noted; identifier = s.identifier; serial = s.serial; start = from; end = to })
turn_of s id c from to CancelAll =
    Some (record { rejects = s.rejects; lacks = s.lacks; ascends = s.ascends; ordered = s.ordered && ltb s.last id; last = id; identified = s.identified; counted = s.counted; transaction = s.transaction; requested = s.requested; all = true; noted = s.noted; identifier = s.identifier; serial = s.serial; start = s.start; end = s.end })
turn_of s id c from to (Notification r) =
    Some (record { rejects = s.rejects || r.rejected; lacks = s.lacks; ascends = s.ascends; ordered = s.ordered && ltb s.last id; last = id; identified = s.identified; counted = s.counted; transaction = s.transaction; requested = s.requested; all = s.all; noted = true; identifier = r.identifier; serial = r.serial; start = s.start; end = s.end })
turn_of s id c from to Unknown = past_of s c

-- and of contents that tell nothing, as they are badly encoded
abbrev pub turn_with : Seen → (id criticality start end : ℕ) → Option Heard → Option Seen
turn_with s id c from to (Some h) = turn_of s id c from to h
turn_with s id c from to None = None

-- ---- an element at an index, and where it ends

abbrev pub turn_by : Message → List ℕ → ℕ → Option Seen → Found Account
turn_by m l end (Some s) = found (account_by m l s) (drop end l)
turn_by m l end None = nothing

abbrev pub TurnLies : Message → List ℕ → ℕ → Option Seen → Type 0
TurnLies m l end (Some s) = (end ≤ length l) × Lies m l s
TurnLies m l end None = Unit {0}

pub record TurnAt (m : Message) (l : List ℕ) (at : ℕ) (s : Seen) (end : ℕ) (r : Option Seen) : Type 0 where
  pub says : turn_by m l end r ≡ summed (accounted (account_by m l s)) ((element m).parse (drop at l))
  pub lies : TurnLies m l end r

-- wherever an element stands, what was seen with it
abbrev pub Turned : Message → List ℕ → Seen → Placed → Option Seen → Type 0
Turned m l s e r = (at : ℕ) → ElementAt l at (Some e) → TurnAt m l at s e.end r

-- ---- all of them

abbrev pub walk_by : Message → List ℕ → Option Seen → Found Account
walk_by m l (Some s) = found (account_by m l s) []
walk_by m l None = nothing

abbrev pub WalkLies : Message → List ℕ → Option Seen → Type 0
WalkLies m l (Some s) = Lies m l s
WalkLies m l None = Unit {0}

pub record WalkedOver (m : Message) (l : List ℕ) (r : Option Seen) : Type 0 where
  pub says : walk_by m l r ≡ all_of (summed (gathered accounted open_account) ((value m).parse l)) []
  pub lies : WalkLies m l r

-- ---- 13 to 16, or what a fit message says and where its bytes begin

-- the mandatory elements are there
abbrev pub has_all : Message → (identified counted : Bool) → Bool
has_all CancelRequest identified counted = identified && counted
has_all CancelResponse identified counted = identified
has_all WriteReplaceResponse identified counted = identified

-- nothing is missing, and what is there is in order
abbrev pub is_complete : Message → Seen → Bool
is_complete m s = (s.ordered && has_all m s.identified s.counted) && not s.lacks

pub record FitMessage (m : Message) (b : List ℕ) (start : ℕ) (s : Seen) : Type 0 where
  pub accepted : message_verdict m b ≡ Ok tt
  pub says : said_in m b ≡ (account_by m (drop start b) s).says
  pub begins : start ≤ length b
  pub lies : Lies m (drop start b) s
  pub whole : s.lacks ≡ false

-- of what a judge keeps, all that it says
abbrev pub JudgedAs : {K : Type 0} → (K → Seen) → Message → List ℕ → Result (Judged K) Refusal → Type 0
JudgedAs seen m b (Ok j) = FitMessage m b j.start (seen j.kept)
JudgedAs seen m b (Err x) = message_verdict m b ≡ Err x

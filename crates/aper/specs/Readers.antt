-- What readers at an index of lent bytes answer, said by what a format finds at the front of the bytes from there on.
use Rattle.std.specs.Prelude.{◌≡◌, Bool, List, ℕ, ◌-◌, ◌<◌, ◌≤◌, length, take, drop, Option, Some, None, Result, Ok, Err}
use Rattle.rules.specs.Lists.{any}
use Rattle.formats.specs.Summary.{summed}
use Rattle.formats.specs.Format.{Found, nothing, found}
use Rattle.aper.specs.Elements.{determinant, Element, plain, reject, criticalities, container, given, marked}
use Rattle.aper.specs.declared.Length.{Length}
use Rattle.aper.specs.declared.Criticality.{Criticality}
use Rattle.aper.specs.declared.Criticality.TheVariants.{Reject, Ignore, Notify}
use Rattle.aper.specs.declared.NoCriticality.{NoCriticality}
use Rattle.aper.specs.declared.Element.{Element as Placed}
use Rattle.aper.specs.declared.Extensions.{Extensions as Run}

abbrev pub length_by : List ℕ → Option Length → Found ℕ
length_by l (Some r) = found r.of (drop r.start l)
length_by l None = nothing

abbrev pub LengthLies : List ℕ → ℕ → Option Length → Type 0
LengthLies l at (Some r) = (at < r.start) × (r.start ≤ length l)
LengthLies l at None = Unit {0}

pub record LengthAt (l : List ℕ) (at : ℕ) (r : Option Length) : Type 0 where
  pub says : length_by l r ≡ determinant.parse (drop at l)
  pub lies : LengthLies l at r

abbrev pub step_by : List ℕ → Option Placed → Found (Element (List ℕ))
step_by l (Some r) = found (record { id = r.id; criticality = r.criticality; contents = take (r.end - r.start) (drop r.start l) }) (drop r.end l)
step_by l None = nothing

abbrev pub StepLies : List ℕ → ℕ → Option Placed → Type 0
StepLies l at (Some r) = (at < r.end) × (r.end ≤ length l) × (r.start ≤ r.end)
StepLies l at None = Unit {0}

pub record ElementAt (l : List ℕ) (at : ℕ) (r : Option Placed) : Type 0 where
  pub says : step_by l r ≡ plain.parse (drop at l)
  pub lies : StepLies l at r

-- two bits as a criticality
abbrev pub bits_of : Criticality → ℕ
bits_of Reject = reject
bits_of Ignore = 1
bits_of Notify = 2

abbrev pub CriticalityOf : ℕ → Result Criticality NoCriticality → Type 0
CriticalityOf n (Ok c) = bits_of c ≡ n
CriticalityOf n (Err e) = criticalities ≤ n

-- a container, of which it is kept where it ends and whether one is marked reject
abbrev pub run_by : List ℕ → Option Run → Found Bool
run_by l (Some r) = found r.rejected (drop r.end l)
run_by l None = nothing

abbrev pub RunLies : List ℕ → Option Run → Type 0
RunLies l (Some r) = r.end ≤ length l
RunLies l None = Unit {0}

pub record RunAt (l : List ℕ) (at : ℕ) (r : Option Run) : Type 0 where
  pub says : run_by l r ≡ summed (any marked) (container.parse (drop at l))
  pub lies : RunLies l r

-- the same where a bit says whether there is one
pub record GivenAt (l : List ℕ) (at p : ℕ) (r : Option Run) : Type 0 where
  pub says : run_by l r ≡ summed (any marked) ((given p).parse (drop at l))
  pub lies : RunLies l r

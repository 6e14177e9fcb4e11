-- One outcome only: what a public function of this crate returns, its contract settles.
-- Each promise is an equation with what a format finds; an index within the bytes is settled by the bytes behind it.
use mathlib.Core.Path.{◌≡◌, refl, sym, ap, ◌∙◌}
use mathlib.Core.List.{List}
use Rattle.std.specs.Prelude.{Option, Some, None, Result, Ok, Err}
use Prim.Native.Nat.{ℕ, ◌-◌, ◌≤◌}
use native.Mathlib.Omega.{arith}
use lib.Dec.{eqb}
use mathlib.Core.Bool.{cond}
use lib.ListN.{length, take, drop, length-drop}
use lib.Seq.{length-take-le}
use Rattle.octets.specs.Settled.{SettlesResult}
use Rattle.octets.proofs.Once.{one-outcome}
use Rattle.formats.proofs.SummaryLaws.{nothing-found, found-value, found-rest}
use Rattle.aper.specs.Elements.{Element}
use Rattle.aper.proofs.CriticalityLaws.{criticality_small}
use Rattle.aper.specs.Readers.{bits_of, CriticalityOf, length_by, LengthLies, step_by, StepLies, ElementAt, run_by, RunLies}
use Rattle.aper.specs.declared.Length.{Length}
use Rattle.aper.specs.declared.Criticality.{Criticality}
use Rattle.aper.specs.declared.Criticality.TheVariants.{Reject, Ignore, Notify}
use Rattle.aper.specs.declared.NoCriticality.{NoCriticality}
use Rattle.aper.specs.declared.Element.{Element as Placed}
use Rattle.aper.specs.declared.Extensions.{Extensions}
use Rattle.aper.proofs.length_at.Reads as length_at
use Rattle.aper.proofs.element_at.Reads as element_at_lem
use Rattle.aper.proofs.given_at.Reads as given_at_lem
use Rattle.aper.proofs.CriticalityTryFromU8.try_from.Reads as try_from

-- the same bytes behind two indices
pub same_index : (l : List ℕ) (a b : ℕ) → a ≤ length l → b ≤ length l → drop a l ≡ drop b l → a ≡ b
same_index l a b p q e =
    let same : length l - a ≡ length l - b = sym (length-drop a l) ∙ ap length e ∙ length-drop b l in
    omega arith

length_settled : (l : List ℕ) (at : ℕ) (x y : Option Length) → LengthLies l at x → LengthLies l at y → length_by l x ≡ length_by l y → x ≡ y
length_settled l at (Some x) (Some y) p q e =
    let value : x.of ≡ y.of = found-value x.of y.of (drop x.start l) (drop y.start l) e in
    let index : x.start ≡ y.start = same_index l x.start y.start p.1 q.1 (found-rest x.of y.of (drop x.start l) (drop y.start l) e) in
    rw (value, index)
length_settled l at (Some x) None p q e = absurd (nothing-found x.of (drop x.start l) (sym e))
length_settled l at None (Some y) p q e = absurd (nothing-found y.of (drop y.start l) e)
length_settled l at None None p q e = refl

pub length_at_once : SettlesResult length_at.Learnt
length_at_once κ args r s e f p q = length_settled _ _ r s p.lies q.lies (one-outcome p.says q.says)

-- an element's contents tell where they begin
held-long : (l : List ℕ) (a x : ℕ) → x ≤ length l → a ≤ x → length (take (x - a) (drop a l)) ≡ x - a
held-long l a x p q = length-take-le (x - a) (drop a l) (rw length-drop (omega arith))

abbrev this : List ℕ → Placed → Element (List ℕ)
this l x = record { id = x.id; criticality = x.criticality; contents = take (x.end - x.start) (drop x.start l) }

step_settled : (l : List ℕ) (at : ℕ) (x y : Option Placed) → StepLies l at x → StepLies l at y → step_by l x ≡ step_by l y → x ≡ y
step_settled l at (Some x) (Some y) p q e =
    let value : this l x ≡ this l y = found-value (this l x) (this l y) (drop x.end l) (drop y.end l) e in
    let end : x.end ≡ y.end = same_index l x.end y.end p.1 q.1 (found-rest (this l x) (this l y) (drop x.end l) (drop y.end l) e) in
    let size : x.end - x.start ≡ y.end - y.start =
    sym (held-long l x.start x.end p.1 p.2) ∙ ap (λ (u : Element (List ℕ)). length u.contents) value ∙ held-long l y.start y.end q.1 q.2 in
    let id : x.id ≡ y.id = ap (λ (u : Element (List ℕ)). u.id) value in
    let criticality : x.criticality ≡ y.criticality = ap (λ (u : Element (List ℕ)). u.criticality) value in
    let start : x.start ≡ y.start = omega (arith, p.2, q.2) in
    rw (id, criticality, start, end)
step_settled l at (Some x) None p q e = absurd (nothing-found (this l x) (drop x.end l) (sym e))
step_settled l at None (Some y) p q e = absurd (nothing-found (this l y) (drop y.end l) e)
step_settled l at None None p q e = refl

pub element_settled : (l : List ℕ) (at : ℕ) (x y : Option Placed) → ElementAt l at x → ElementAt l at y → x ≡ y
element_settled l at x y p q = step_settled l at x y p.lies q.lies (one-outcome p.says q.says)

pub element_at_once : SettlesResult element_at_lem.Learnt
element_at_once κ args r s e f p q = element_settled _ _ r s p q

run_settled : (l : List ℕ) (x y : Option Extensions) → RunLies l x → RunLies l y → run_by l x ≡ run_by l y → x ≡ y
run_settled l (Some x) (Some y) p q e =
    let value : x.rejected ≡ y.rejected = found-value x.rejected y.rejected (drop x.end l) (drop y.end l) e in
    let index : x.end ≡ y.end = same_index l x.end y.end p q (found-rest x.rejected y.rejected (drop x.end l) (drop y.end l) e) in
    rw (value, index)
run_settled l (Some x) None p q e = absurd (nothing-found x.rejected (drop x.end l) (sym e))
run_settled l None (Some y) p q e = absurd (nothing-found y.rejected (drop y.end l) e)
run_settled l None None p q e = refl

pub given_at_once : SettlesResult given_at_lem.Learnt
given_at_once κ args r s e f p q = run_settled _ r s p.lies q.lies (one-outcome p.says q.says)

-- each criticality has bits of its own
from_bits : ℕ → Criticality
from_bits n = cond (eqb n 0) Reject (cond (eqb n 1) Ignore Notify)

back : (c : Criticality) → from_bits (bits_of c) ≡ c
unfolding from_bits
back Reject = refl
back Ignore = refl
back Notify = refl

criticality_settled : (n : ℕ) (x y : Result Criticality NoCriticality) → CriticalityOf n x → CriticalityOf n y → x ≡ y
criticality_settled n (Ok c) (Ok d) p q = ap Ok (sym (back c) ∙ ap from_bits (p ∙ sym q) ∙ back d)
criticality_settled n (Ok c) (Err y) p q = let small = criticality_small c in absurd (omega (arith, small, p, q))
criticality_settled n (Err x) (Ok d) p q = let small = criticality_small d in absurd (omega (arith, small, p, q))
criticality_settled n (Err x) (Err y) p q = refl

pub try_from_once : SettlesResult try_from.Learnt
try_from_once κ args r s e f p q = criticality_settled _ r s p q

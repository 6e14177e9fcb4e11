-- `extensions_at` answers with where a container ends. What is still to come decides, with what was seen.
use mathlib.Core.Bool.{Bool, false, ◌||◌}
use mathlib.Core.Path.{ap}
use native.Mathlib.Omega.{arith}
use borrow.Author.Tests.{lt-ltb, le-ltb}
use Rattle.aper.proofs.CriticalityLaws.{no_criticality, criticality-said}
use Rattle.formats.proofs.WalkLaws.{counted_starts, counted_breaks, counted-goes, counted_ends}
use Rattle.formats.specs.Summary.{or_marked}
use Rattle.aper.specs.Elements.{marked}
use Rattle.aper.proofs.WalkLaws.{element-none, element_improper, element-kept, run_none, run_end, run-cut, run-many, run-start}
use Rattle.aper.proofs.extensions_at.Goals as goal

pub returns-then-s-at-lt2 : goal.returns-then-s-at-lt2
returns-then-s-at-lt2 c = run_none _ _ (run-cut _ _ c.requires c.if-s-at-lt2.true)

pub returns-then-last-ge-MOST_EXTENSIONS : goal.returns-then-last-ge-MOST_EXTENSIONS
returns-then-last-ge-MOST_EXTENSIONS c = run_none _ _ (run-many _ _ _ (omega arith) c.get-last.ensures c.if-last-ge-MOST_EXTENSIONS.true)

pub loop-init : goal.loop-init
loop-init c = counted_starts (run-start _ _ _ (omega arith) c.get-last.ensures c.if-last-ge-MOST_EXTENSIONS.false)

pub returns-in_err-extension : goal.returns-in_err-extension
returns-in_err-extension c =
    rw c.from_residual.ensures (run_none _ _ (counted_breaks c.loop.invariant c.loop-test.true (element-none (λ _. false) (or_marked marked c.loop.rejected) _ _ c.in_err-extension.ensures)))

pub returns-in_err-criticality : goal.returns-in_err-criticality
returns-in_err-criticality c =
    let none = no_criticality _ _ c.try_from.ensures c.in_err-criticality.ensures.variant in
    rw c.from_residual-in_err-criticality.ensures (run_none _ _ (counted_breaks c.loop.invariant c.loop-test.true (element_improper (λ _. false) (or_marked marked c.loop.rejected) _ _ _ c.in_ok-extension.ensures (le-ltb _ 3 none))))

pub loop-preserved : goal.loop-preserved
loop-preserved c =
    let read = c.in_ok-extension.ensures in
    let said = criticality-said _ _ c.try_from.ensures c.in_ok-criticality.ensures.value c.eq-rejected.ensures in
    counted-goes c.loop.invariant c.loop-test.true _ _ (element-kept (λ _. false) (or_marked marked c.loop.rejected) _ _ _ read (lt-ltb _ 3 said.0) _ (ap (λ (b : Bool). c.loop.rejected || b) said.1)) read.lies.1

pub returns : goal.returns
returns c = run_end _ _ _ _ (counted_ends c.loop.invariant c.loop-test.false) c.loop.invariant.within

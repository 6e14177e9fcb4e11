-- `plain` says what was met in a response that is a transaction identifier alone, or it and a plain list: both ways are laws of `GlanceLaws`.
use mathlib.Core.Path.{◌∙◌}
use native.Mathlib.Omega.{arith}
use borrow.Author.Tests.{tests}
use Rattle.std.proofs.Common.{rules}
use Rattle.response_judge.proofs.GlanceLaws.{identifier-alone, list-alone}
use Rattle.response_judge.proofs.plain.Goals as goal

pub returns-then-elements-s : goal.returns-then-elements-s
returns-then-elements-s c =
    rw c.alone.ensures
    (identifier-alone _ _ c.if-not-fronted.ensures _ c.get-number.ensures _ c.get-elements.ensures (search (rules, tests)) (search (rules, tests)))

pub returns : goal.returns
returns c =
    rw c.alone-2.ensures
    (list-alone _ _ c.if-not-fronted.ensures _ c.get-number.ensures _ c.get-elements.ensures c.if-elements-ne2.false _ _ _ _ c.in_ok-list.ensures (c.if-list-cells_id.false ∙ c.cells_id.ensures) _ c.in_ok-marks.ensures (omega (arith, c.if-list-s.false, c.in_ok-list.ensures.lies)))

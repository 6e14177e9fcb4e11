-- `naming_of` reads what names a cell by the kind of area: each arm is its case of `naming_of` and of `names`.
use mathlib.Core.Bool.{or-false}
use mathlib.Core.Path.{◌≡◌, ◌∙◌}
use native.Mathlib.Omega.{arith}
use borrow.Author.Rules.{rules}
use lib.Dec.{eqb}
use lib.ListN.{length}
use Rattle.rules.specs.Lists.{any, one_of}
use Rattle.rules.proofs.KindAreaLaws.{names-cell, names-tracking, names_emergency, names-other}
use Rattle.cell_read.specs.Places.{areas_in}
use Rattle.engine.specs.Reach.{turned_keys, naming_of}
use Rattle.engine.proofs.Searching.{four-read, no_keys}
use Rattle.engine.proofs.reach.naming_of.Goals as goal

pub returns-in-1 : goal.returns-in-1
unfolding turned_keys naming_of one_of any
returns-in-1 c =
    let cells = c.in-1.is in
    let named = c.cell_item.ensures in
    let read = c.identity.ensures in
    record {
      keys = c.keyed.ensures.turned ∙ rw (cells, named, read);
      meant = λ x. c.keyed.ensures.meant x ∙ rw (names-cell _ _ x cells, named, read, or-false (eqb x _));
    }

pub returns-in-2 : goal.returns-in-2
unfolding turned_keys naming_of one_of any
returns-in-2 c =
    let tracking = c.in-2.is in
    let read = c.tracking.ensures in
    record {
      keys = c.keyed-in-2.ensures.turned ∙ rw (tracking, read);
      meant = λ x. c.keyed-in-2.ensures.meant x ∙ rw (names-tracking _ _ x tracking, read, or-false (eqb x _));
    }

pub returns-in-3 : goal.returns-in-3
unfolding naming_of areas_in
returns-in-3 c =
    let emergency = c.in-3.is in
    let areas = c.areas_of-areas in
    let read = areas.ensures in
    let long : length areas.result.all ≡ 4 = search rules in
    let all = four-read areas.result.all long in
    record {
      keys = c.keyed-in-3.ensures.turned ∙ rw (all, emergency, read.used, read.four);
      meant = λ x. c.keyed-in-3.ensures.meant x ∙ rw (all, names_emergency _ _ x emergency, ← read.in_use);
    }

pub returns-in_default : goal.returns-in_default
unfolding turned_keys one_of any
returns-in_default c =
    let keyed = c.keyed-in_default.ensures in
    record {
      keys = keyed.turned ∙ rw (no_keys c.args.area _ (omega arith) (omega arith) (omega arith));
      meant = λ x. keyed.meant x ∙ rw (names-other c.args.area _ x (omega arith) (omega arith) (omega arith));
    }

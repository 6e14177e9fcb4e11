-- `all_free` says whether the last places of a cell are free.
-- They are one to four, and written out in code and law.
use mathlib.Core.Path.{◌∙◌}
use native.Mathlib.Omega.{arith}
use Rattle.rules.specs.Table.{is_free}
use Rattle.table_judge.proofs.PiecesLaws.{every_1, every_2, every_3, every_4}
use Rattle.table_judge.proofs.all_free.Goals as goal

pub returns-then-left-eq1 : goal.returns-then-left-eq1
returns-then-left-eq1 c = c.place_free.ensures ∙ every_1 is_free _ _ _ c.requires.2 c.if-left-eq1.true

pub returns-then-left-eq2 : goal.returns-then-left-eq2
returns-then-left-eq2 c =
    rw (c.place_free-then-left-eq2.ensures, c.place_free-then-left-eq2-2.ensures) (every_2 is_free _ _ _ c.requires.2 c.if-left-eq2.true)

pub returns-then-left-eq3 : goal.returns-then-left-eq3
returns-then-left-eq3 c =
    rw (c.place_free-then-left-eq3.ensures, c.place_free-then-left-eq3-2.ensures, c.place_free-then-left-eq3-3.ensures)
    (every_3 is_free _ _ _ c.requires.2 c.if-left-eq3.true)

pub returns : goal.returns
returns c =
    rw (c.place_free-2.ensures, c.place_free-3.ensures, c.place_free-4.ensures, c.place_free-5.ensures)
    (every_4 is_free _ _ _ c.requires.2 (omega arith))

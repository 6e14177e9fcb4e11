-- `periods_short` says whether no place has a period above version 1's limit.
-- Each read is the period of one of the four: `periods`.
use mathlib.Core.Path.{◌≡◌, refl}
use mathlib.Core.Bool.{true, false}
use Prim.Native.Nat.{ℕ}
use Rattle.std.proofs.Common.{rules}
use borrow.Author.Tests.{tests}
use Rattle.std.proofs.lemmas.Iterator.{cases_from_all, YieldsList-from_range}
use Rattle.table_convert.proofs.CellStoreLaws.{short_at, periods}
use Rattle.table_convert.proofs.judge.periods_short.Goals as goal

pub returns : goal.returns
returns c =
    periods c.args.cell.now c.requires _
    (cases_from_all _ _ _ (λ (k : ℕ). short_at c.args.cell.now k ≡ true) (λ (k : ℕ). short_at c.args.cell.now k ≡ false) c.all.ensures.ran (YieldsList-from_range 0 4 4 refl refl) (λ x q k. search (rules, tests)) (λ x q k. search (rules, tests)))

-- `item_grade` judges bytes that are to be an item and nothing else: each case is a law of `ItemLaws`.
use native.Mathlib.Omega.{arith}
use Rattle.wire.proofs.ItemLaws.{item-cut, fixed_bad, first-none, count_cut, second_none, item_fine, item-behind}
use Rattle.wire.proofs.EntryLaws.{identity-small}
use Rattle.wire.proofs.list.item_grade.Goals as goal

pub returns-then-s-lt-IDENTITY_END : goal.returns-then-s-lt-IDENTITY_END
returns-then-s-lt-IDENTITY_END c = (item-cut _ _ (λ i. (c.type_inv.s i).fits) c.if-s-lt-IDENTITY_END.true, tt)

pub returns-then-not-padded : goal.returns-then-not-padded
returns-then-not-padded c = (fixed_bad _ _ _ _ c.if-s-lt-IDENTITY_END.false c.get-flags.ensures c.get-last.ensures c.if-not-padded.true, tt)

pub returns-in_err-first : goal.returns-in_err-first
returns-in_err-first c = rw c.from_residual.ensures (first-none _ _ _ _ c.if-s-lt-IDENTITY_END.false c.get-flags.ensures c.get-last.ensures c.if-not-padded.false c.in_err-first.ensures, tt)

pub returns-then-s-first : goal.returns-then-s-first
returns-then-s-first c = (count_cut _ _ _ _ c.if-s-lt-IDENTITY_END.false c.get-flags.ensures c.get-last.ensures c.if-not-padded.false _ c.in_ok-first.ensures (omega (arith, c.count_size.ensures, c.if-s-first.true)), tt)

pub returns-in_err-second : goal.returns-in_err-second
returns-in_err-second c =
    rw c.from_residual-in_err-second.ensures (second_none _ _ _ _ c.if-s-lt-IDENTITY_END.false c.get-flags.ensures c.get-last.ensures c.if-not-padded.false _ c.in_ok-first.ensures (omega (arith, c.if-s-first.false, c.count_size.ensures)) (rw c.count_size-2.ensures at c.in_err-second.ensures), tt)

pub returns-then-second-s : goal.returns-then-second-s
returns-then-second-s c = (item-behind _ _ _ _ c.if-s-lt-IDENTITY_END.false c.get-flags.ensures c.get-last.ensures c.if-not-padded.false _ c.in_ok-first.ensures (omega (arith, c.if-s-first.false, c.count_size.ensures)) _ (rw c.count_size-2.ensures at c.in_ok-second.ensures) c.if-second-s.true, tt)

pub returns : goal.returns
returns c =
    (item_fine _ _ _ _ c.if-s-lt-IDENTITY_END.false c.get-flags.ensures c.get-last.ensures c.if-not-padded.false _ c.in_ok-first.ensures (omega (arith, c.if-s-first.false, c.count_size.ensures)) _ (rw c.count_size-2.ensures at c.in_ok-second.ensures) c.if-second-s.false _ c.identity_at.ensures, identity-small _ _ (λ i. (c.type_inv.s i).fits) c.identity_at.ensures)

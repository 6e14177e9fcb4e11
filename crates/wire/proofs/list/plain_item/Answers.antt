-- `plain_item` says true of an item without extensions alone: by its tests, which are those of `PlainLaws`.
use Prim.Native.Nat.{◌+◌, ◌≤◌}
use native.Mathlib.Omega.{arith}
use lib.ListN.{length}
use Rattle.wire.specs.Readers.{plain_size}
use Rattle.wire.proofs.PlainLaws.{plain-there}
use Rattle.wire.proofs.list.plain_item.Goals as goal

pub returns : goal.returns
returns c =
    let long : c.args.at + (4 + plain_size c.args.m) ≤ length c.args.s.now = omega (arith, c.count_size-size.ensures, c.if-s-at.false) in
    rw c.requires.head_of_items
    (plain-there c.args.m _ _ (λ i. (c.type_inv.s i).fits) long _ _ _ c.get-head.ensures c.get-flags.ensures c.get-last.ensures)

-- `entry_at` answers with the marks of the entry at the index: each case is a law of `EntryLaws`.
use mathlib.Core.Path.{◌≡◌, sym, ◌∙◌}
use Prim.Native.Nat.{◌+◌}
use native.Mathlib.Omega.{arith}
use Rattle.wire.specs.Readers.{plain_size}
use Rattle.aper.proofs.CriticalityLaws.{no_criticality, criticality-said}
use Rattle.wire.proofs.EntryLaws.{entry-plain, entry-none, entry-item, entry-no-item, entry_other, entry-no_value}
use Rattle.wire.proofs.ListLaws.{listed_plain, listed_any}
use Rattle.wire.proofs.list.entry_at.Goals as goal

pub returns-then-plain_item : goal.returns-then-plain_item
returns-then-plain_item g c =
    let behind : c.args.at + 4 + 9 + c.count_size.result ≡ c.args.at + (4 + plain_size c.args.m) = omega (arith, c.count_size.ensures) in
    listed_plain _ _ _ _ (entry-plain _ _ _ (λ i. (c.type_inv.s i).fits) c.if-plain_item.ensures _ _ behind c.identity_at.ensures)

pub returns-in_err-id : goal.returns-in_err-id
returns-in_err-id g c = rw c.from_residual.ensures (listed_any _ _ _ _ _ c.if-this-ne0.false (entry-none _ _ _ c.in_err-id.ensures))

pub returns-in_err-rejected : goal.returns-in_err-rejected
returns-in_err-rejected g c =
    rw c.from_residual-in_err-rejected.ensures (listed_any _ _ _ _ _ c.if-this-ne0.false (entry-no-item _ _ _ _ c.in_ok-id.ensures (c.if-id-item_id.true ∙ c.item_id.ensures) c.in_err-rejected.ensures.0))

pub returns-then-id-item_id : goal.returns-then-id-item_id
returns-then-id-item_id g c = listed_any _ _ _ _ _ c.if-this-ne0.false (entry-item _ _ _ _ c.in_ok-id.ensures (c.if-id-item_id.true ∙ c.item_id.ensures) _ c.in_ok-rejected.ensures.1 c.in_ok-rejected.ensures.0)

pub returns-in_err-criticality : goal.returns-in_err-criticality
returns-in_err-criticality g c =
    let none = no_criticality _ _ c.try_from.ensures c.in_err-criticality.ensures.variant in
    rw c.from_residual-in_err-criticality.ensures (listed_any _ _ _ _ _ c.if-this-ne0.false (entry-no_value _ _ _ _ c.in_ok-id.ensures (λ e. c.if-id-item_id.false (e ∙ sym c.item_id.ensures)) none))

pub returns : goal.returns
returns g c =
    let said = criticality-said _ _ c.try_from.ensures c.in_ok-criticality.ensures.value c.eq.ensures in
    rw said.1 (listed_any _ _ _ _ _ c.if-this-ne0.false (entry_other _ _ _ _ c.in_ok-id.ensures (λ e. c.if-id-item_id.false (e ∙ sym c.item_id.ensures)) said.0))

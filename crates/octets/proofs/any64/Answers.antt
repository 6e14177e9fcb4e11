-- `any64` joins the n numbers that stand back to back from the index on.
-- Each turn meets one of them: `joined-next`.
use Prim.Native.Nat.{◌+◌, ◌*◌, ◌-◌}
use mathlib.Core.Path.{◌≡◌, sym, ◌∙◌}
use native.Mathlib.Nat.{add-zero, sub-zero}
use native.Mathlib.Omega.{arith}
use lib.ListN.{drop}
use Rattle.octets.specs.Runs.{Bytes}
use Rattle.octets.specs.Turned.{turned}
use Rattle.octets.proofs.JoinedLaws.{joined-first, joined-next, joined-none}
use Rattle.octets.proofs.any64.Goals as goal

pub loop-k-init : goal.loop-k-init
loop-k-init c = rw (add-zero, sub-zero) (joined-first 8 _)

pub loop-k-preserved : goal.loop-k-preserved
loop-k-preserved c =
    let a = c.args in
    let l = c.loop-k in
    let bytes : Bytes a.s.now = λ i. (c.type_inv.s i).fits in
    let left : a.n - (l.k + 1) ≡ a.n - l.k - 1 = omega arith in
    let next : a.at + 8 * (l.k + 1) ≡ a.at + 8 * l.k + 8 = omega arith in
    rw (c.turned64-any.ensures, c.get.ensures, left, next)
    (l.invariant ∙ joined-next 8 a.s.now bytes l.any (a.at + 8 * l.k) (a.n - l.k) (omega arith) (omega arith) (omega arith))

pub returns : goal.returns
returns c =
    let a = c.args in
    let l = c.loop-k in
    c.turned64.ensures ∙ sym (l.invariant ∙ joined-none 8 (turned 8 l.any) (a.n - l.k) (drop (a.at + 8 * l.k) a.s.now) (omega arith))

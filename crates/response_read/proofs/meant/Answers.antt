-- `meant` tells the response by choice and procedure code: by its two tests.
use mathlib.Core.Path.{◌≡◌}
use native.Mathlib.Omega.{arith}
use borrow.Author.Tests.{le-leb, lt-leb, eq-eqb, ne_eqb}
use Rattle.wire.specs.Messages.{frame_id}
use Rattle.wire.specs.declared.Message.TheVariants.{WriteReplaceResponse}
use Rattle.response_read.specs.Left.{meant_by}
use Rattle.response_read.proofs.meant.Goals as goal

pub returns-then-message-lt2 : goal.returns-then-message-lt2
unfolding meant_by
returns-then-message-lt2 c = rw (lt-leb 2 _ c.if-message-lt2.true)

pub returns-in-16404 : goal.returns-in-16404
unfolding meant_by
returns-in-16404 c = rw (le-leb 2 _ c.if-message-lt2.false, ← c.get.ensures, eq-eqb _ (frame_id WriteReplaceResponse) c.in-16404.is)

pub returns-in_default : goal.returns-in_default
unfolding meant_by
returns-in_default c =
    let other : c.get.result ≡ frame_id WriteReplaceResponse → ⊥ = omega arith in
    rw (le-leb 2 _ c.if-message-lt2.false, ← c.get.ensures, ne_eqb _ (frame_id WriteReplaceResponse) other)

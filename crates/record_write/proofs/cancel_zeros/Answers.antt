-- `cancel_zeros` says whether the fields are zero that a cancel leaves out.
-- Three are joined and tested at once, `both_zero`; the tests are the definition's, grouped the other way, and identifier and serial number count without flag 4.
use mathlib.Core.Bool.{and_assoc, and-true}
use lib.Bits.{bit_or}
use Rattle.rules.proofs.ZerosLaws.{zeros-none, zeros-more, zeros_unless}
use Rattle.record_write.proofs.BitsLaws.{both_zero}
use Rattle.record_write.proofs.cancel_zeros.Goals as goal

pub returns : goal.returns
returns c =
    let q = c.args.request in
    rw (c.notified.ensures, both_zero (bit_or q.content q.period.0) q.sib, both_zero q.content q.period.0)
    (simp (zeros-more, zeros_unless, zeros-none, and_assoc, and-true))

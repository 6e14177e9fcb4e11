-- `scan` finds how many segments are whole, where they end, and where the k-th lies.
-- The invariant, `Scanning`, holds between two segments; a turn passes one, and where no whole one is left all were passed.
use Rattle.segments.proofs.ScanLaws.{scan-starts, scan-passes, scan_finds, scan-ends, cut-length, cut-segment}
use Rattle.segments.proofs.read.scan.Goals as goal

pub segments-init : goal.segments-init
segments-init c = scan-starts c.args.more.now c.args.k

pub segments-preserved-then-count-k : goal.segments-preserved-then-count-k
segments-preserved-then-count-k c =
    scan_finds c.segments.invariant _ c.get-size.ensures c.segments-test.true c.if-more-from.false c.if-count-k.true

pub segments-preserved : goal.segments-preserved
segments-preserved c =
    scan-passes c.segments.invariant _ c.get-size.ensures c.segments-test.true c.if-more-from.false c.if-count-k.false

pub returns-after-segments : goal.returns-after-segments
returns-after-segments c = scan-ends _ c.segments.invariant (cut-length c.segments.invariant c.segments-test.false)

pub returns-then-more-from : goal.returns-then-more-from
returns-then-more-from c =
    scan-ends _ c.segments.invariant (cut-segment c.segments.invariant _ c.get-size.ensures c.segments-test.true c.if-more-from.true)

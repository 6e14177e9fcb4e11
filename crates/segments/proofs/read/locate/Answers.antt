-- `locate` says where segment k lies.
-- Each refusal and each place by what the pass over the list found.
use Rattle.segments.proofs.PassLaws.{part_damaged, part-too_many, part_beyond, part-first, part-listed}
use Rattle.segments.proofs.read.locate.Goals as goal

pub returns-then-pass-more : goal.returns-then-pass-more
returns-then-pass-more c = part_damaged _ c.scan-pass.ensures c.if-pass-more.true

pub returns-then-pass-gt-MOST_SEGMENTS : goal.returns-then-pass-gt-MOST_SEGMENTS
returns-then-pass-gt-MOST_SEGMENTS c =
    part-too_many _ c.scan-pass.ensures c.if-pass-more.false c.if-pass-gt-MOST_SEGMENTS.true

pub returns-then-pass-k : goal.returns-then-pass-k
returns-then-pass-k c =
    part_beyond _ c.scan-pass.ensures c.if-pass-more.false c.if-pass-gt-MOST_SEGMENTS.false c.if-pass-k.true

pub returns-then-k-eq0 : goal.returns-then-k-eq0
returns-then-k-eq0 c =
    part-first _ c.scan-pass.ensures c.if-pass-more.false c.if-pass-gt-MOST_SEGMENTS.false c.if-pass-k.false c.if-k-eq0.true

pub returns : goal.returns
returns c =
    part-listed _ c.scan-pass.ensures c.if-pass-more.false c.if-pass-gt-MOST_SEGMENTS.false c.if-pass-k.false c.if-k-eq0.false

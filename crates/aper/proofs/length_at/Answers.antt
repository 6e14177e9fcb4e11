-- `length_at` answers with the length at the index: each case is a law of `LengthLaws`, about the byte there and the one behind it.
use mathlib.Core.Path.{◌∙◌}
use Rattle.aper.proofs.LengthLaws.{length_none, length-short, length-fragmented, length_cut, length-not_shortest, length-long}
use Rattle.aper.proofs.length_at.Goals as goal

pub returns-in_err-get : goal.returns-in_err-get
returns-in_err-get c = rw c.from_residual.ensures (length_none _ _ c.in_err-get.ensures.lookup.3)

pub returns-then-first-lt-SHORT : goal.returns-then-first-lt-SHORT
returns-then-first-lt-SHORT c =
    let there = c.in_ok-get.ensures.lookup.3 in length-short _ _ _ there.0 (c.from-first.ensures ∙ there.1 0) c.if-first-lt-SHORT.true

pub returns-then-first-ge-FRAGMENTED : goal.returns-then-first-ge-FRAGMENTED
returns-then-first-ge-FRAGMENTED c =
    let there = c.in_ok-get.ensures.lookup.3 in length-fragmented _ _ _ there.0 (c.from-first.ensures ∙ there.1 0) c.if-first-ge-FRAGMENTED.true

pub returns-in_err-get-2 : goal.returns-in_err-get-2
returns-in_err-get-2 c =
    let there = c.in_ok-get.ensures.lookup.3 in
    rw c.from_residual-in_err-get-2.ensures (length_cut _ _ _ there.0 (c.from-first.ensures ∙ there.1 0) c.if-first-lt-SHORT.false c.in_err-get-2.ensures.lookup.3)

pub returns-then-n-lt-SHORT : goal.returns-then-n-lt-SHORT
returns-then-n-lt-SHORT c =
    let there = c.in_ok-get.ensures.lookup.3 in
    let behind = c.in_ok-get-2.ensures.lookup.3 in
    length-not_shortest _ _ _ there.0 (c.from-first.ensures ∙ there.1 0) _ behind.0 (c.from.ensures ∙ behind.1 0) c.if-first-lt-SHORT.false c.if-first-ge-FRAGMENTED.false c.if-n-lt-SHORT.true

pub returns : goal.returns
returns c =
    let there = c.in_ok-get.ensures.lookup.3 in
    let behind = c.in_ok-get-2.ensures.lookup.3 in
    length-long _ _ _ there.0 (c.from-first.ensures ∙ there.1 0) _ behind.0 (c.from.ensures ∙ behind.1 0) c.if-first-lt-SHORT.false c.if-first-ge-FRAGMENTED.false c.if-n-lt-SHORT.false

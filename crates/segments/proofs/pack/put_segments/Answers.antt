-- `put_segments` stores every segment behind the one before it.
-- The invariant, `Packing`: the list still to come, stored where the last one ended, gives the whole.
use mathlib.Core.Path.{refl}
use native.Mathlib.Omega.{arith}
use Rattle.segments.proofs.Packing.{packing_goes, packing_ends, next-short, next-within, own-long}
use Rattle.segments.proofs.pack.put_segments.Goals as goal

pub overflow_add-end : goal.overflow_add-end
overflow_add-end c = record { fits = omega (arith, next-within c.loop-size.invariant c.loop-size-test.true _ refl) }

pub slice_bounds-put_segment-end : goal.slice_bounds-put_segment-end
slice_bounds-put_segment-end c = omega (arith, next-within c.loop-size.invariant c.loop-size-test.true _ refl)

pub put_segment-requires-clause-length_fits : goal.put_segment-requires-clause-length_fits
put_segment-requires-clause-length_fits c =
    let more = c.loop-size-test.true in
    omega (arith, own-long c.loop-size.invariant more _ refl, next-short c.loop-size.invariant more _ refl)

pub loop-size-preserved : goal.loop-size-preserved
loop-size-preserved c = packing_goes c.loop-size.invariant c.loop-size-test.true _ refl _ c.put_segment.ensures

pub returns : goal.returns
returns c = packing_ends c.loop-size.invariant c.loop-size-test.false

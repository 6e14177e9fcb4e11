-- `write` leaves the record of a request and its items at the start of the buffer, or refuses it and leaves the buffer as it was.
-- By the cases of the verdict; fields and items, one behind the other, are the record.
use native.Mathlib.Omega.{arith}
use lib.ListN.{length}
use lib.Seq.{length-sets}
use Rattle.std.proofs.lemmas.Result.{err_from_is_err_and}
use Rattle.rules.proofs.RecordTrips.{AcceptedWriting}
use Rattle.record_write.proofs.WriteLaws.{allowed_writing, record_put, nothing_put}
use Rattle.record_write.proofs.write.Goals as goal
use Rattle.record_write.proofs.write.Goals.{In_ok-verdict}

-- what the tests have found of a request that was not refused
tested : (c : In_ok-verdict) → AcceptedWriting c.args.request c.args.items.now (length c.args.buffer.now)
tested c = allowed_writing c.args.request c.args.items.now c.args.buffer.now c.verdict.ensures c.in_ok-verdict.was

pub overflow_cast-items : goal.overflow_cast-items
overflow_cast-items c = let w = tested (goal.at.overflow_cast-items c).In_ok-verdict in omega arith

pub put_fields-requires : goal.put_fields-requires
put_fields-requires c = let w = tested (goal.at.put_fields-requires c).In_ok-verdict in omega arith

pub put_items-requires : goal.put_items-requires
put_items-requires c = rw (c.put_fields.ensures, length-sets) (tested (goal.at.put_items-requires c).In_ok-verdict).fits_in_lem

pub returns : goal.returns
returns c =
    record_put c.args.request c.args.items.now c.args.buffer.now c.verdict.ensures c.in_ok-verdict.was c.put_fields.ensures c.put_items.ensures

pub returns-in_err-verdict : goal.returns-in_err-verdict
returns-in_err-verdict c =
    let p = err_from_is_err_and c.from_residual.result c.from_residual.ensures.1 in
    rw (p.1, p.2) (nothing_put c.args.request c.args.items.now c.args.buffer.now c.verdict.ensures c.in_err-verdict.was)

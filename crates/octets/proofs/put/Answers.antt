-- `put` stores the bytes of the number at the index, and nothing else.
-- They are written over a part of the slice: `put_mid-sets`. By `grind`, so that the index may be spelled in another way; `put_none` has it
-- prove the form of put32_one_byte_late where nothing is late.
use native.Mathlib.Omega.{arith}
use Rattle.octets.proofs.NumbersLaws.{length-to_be}
use Rattle.octets.proofs.RunsLaws.{put_mid-sets, put_none}
use Rattle.octets.proofs.put.Goals as goal

pub returns : goal.returns
returns g c = grind (arith, length-to_be, put_mid-sets, put_none)

-- `place_free` says whether the 24 bytes from an index on are zero.
-- Three wide reads are zero exactly if their bytes are: `free-wide`.
use Rattle.table_judge.proofs.ReadLaws.{free-wide}
use Rattle.table_judge.proofs.place_free.Goals as goal

pub returns : goal.returns
returns c = rw (c.get.ensures, c.get-2.ensures, c.get-3.ensures) (free-wide _ _)

-- `put_header` stores the header of a table at the start, and nothing else.
-- Its two numbers are the header's bytes: `header-stored`.
use Rattle.table_build.proofs.BuildLaws.{header-stored}
use Rattle.table_build.proofs.put_header.Goals as goal

pub returns : goal.returns
returns c =
    header-stored c.args.count c.requires.1 c.args.table.now c.put.ensures c.put-2.ensures

-- `head_legal` says whether a head's bytes are legal.
-- The NR CGI and the number of areas are fields; the areas are judged by `areas_legal`.
use native.Mathlib.Omega.{arith}
use Rattle.octets.specs.Fields.{offset}
use Rattle.octets.proofs.FieldsLaws.{field_at}
use Rattle.rules.specs.Layout.{current, head_fields, areas_used_in_head}
use Rattle.table_judge.proofs.ReadLaws.{head_parts}
use Rattle.table_judge.proofs.head_legal.Goals as goal

pub returns : goal.returns
unfolding offset
returns c =
    let used = field_at (head_fields current) areas_used_in_head c.args.head.now (omega (arith, c.requires)) in
    rw (c.identity_at.ensures, c.areas_legal.ensures, c.get.ensures, ← used) (head_parts _ c.requires)

-- `fields_judged` gives the first of the refusals 5, 6 and 7 that applies to a record's fields and its first n items.
-- The judge is told the truth of them: `told-verdict`.
use mathlib.Core.Path.{sym, ap, ◌∙◌}
use Rattle.rules.specs.Lists.{zeros}
use Rattle.rules.specs.Record.{identifier_to_sib, cancel_zeros}
use Rattle.rules.specs.declared.Request.{Request}
use Rattle.record_judge.proofs.ToldLaws.{told-verdict}
use Rattle.record_read.proofs.FieldReads.{read-items, read_length}
use Rattle.record_read.proofs.fields_judged.Goals as goal

pub returns : goal.returns
returns c =
    let r = c.args.req.now in
    let n = c.args.n in
    let longest = c.longest_asked in
    let fields = c.request.ensures in
    let text = c.no_text.ensures ∙ sym (ap (λ (q : Request). zeros (identifier_to_sib q)) fields) in
    let omitted = c.cancel_zeros.ensures ∙ sym (ap (λ (q : Request). zeros (cancel_zeros q)) fields) in
    rw (← fields, ← longest.ensures)
    (c.judged.ensures ∙ told-verdict longest.result c.request.result (read-items r n) text omitted (sym (read_length r n)) c.any64-any.ensures)

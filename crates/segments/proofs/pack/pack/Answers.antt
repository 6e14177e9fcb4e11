-- `pack` fills the buffer as its verdict says.
-- An accepted packing has room for the list that is stored; a refused one stores nothing.
use mathlib.Core.Path.{refl, sym, ◌∙◌}
use Rattle.std.proofs.lemmas.Result.{err_from_is_err_and}
use Rattle.segments.proofs.PackLaws.{pack_ready, pack-done, pack-refused}
use Rattle.segments.proofs.pack.pack.Goals as goal

pub put_segments-requires : goal.put_segments-requires
put_segments-requires c = pack_ready _ _ _ (sym c.verdict.ensures ∙ c.in_ok-verdict.was)

pub returns : goal.returns
returns c =
    pack-done _ _ _ _ (sym c.verdict.ensures ∙ c.in_ok-verdict.was) c.put_segments.ensures

pub returns-in_err-verdict : goal.returns-in_err-verdict
returns-in_err-verdict c =
    let p = err_from_is_err_and c.from_residual.result c.from_residual.ensures.1 in
    rw (p.1, p.2) (pack-refused _ _ _ _ _ (sym c.verdict.ensures ∙ c.in_err-verdict.was) refl)

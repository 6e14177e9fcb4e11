-- `open_table` builds the table where all heads are at hand, and waits or refuses where not.
use Rattle.std.specs.Prelude.{None}
use Prim.Native.Nat.{◌+◌, ◌-◌, ◌*◌}
use mathlib.Core.Path.{refl, sym, ◌∙◌}
use native.Mathlib.Omega.{arith}
use Rattle.report_turns.proofs.OpenLaws.{unopened_stepped, opened_stepped}
use Rattle.report_turns.proofs.heads.open_table.Goals as goal

pub returns-in-None : goal.returns-in-None
returns-in-None c =
    let w = c.without_heads in
    let a = c.args in
    λ lent room. unopened_stepped a.held.bytes.now a.held.ended a.table.now lent a.text.now w.result w.new.text
    (sym c.in-None.is ∙ c.cells_there.ensures.value) c.no_cells.result c.no_cells.ensures
    (w.ensures (record { cells = None; table = a.table.now; answer = lent }) refl)

pub returns-in-Some : goal.returns-in-Some
returns-in-Some c =
    let x = c.build_table in
    let n = c.in-Some.n in
    let a = c.args in
    λ lent room. opened_stepped a.held.bytes.now a.held.ended a.table.now lent a.text.now x.result x.new.text
    n (sym c.in-Some.is ∙ c.cells_there.ensures.value) (2 + 24 * n - 2) (omega arith) x.new.table (x.ensures lent room)

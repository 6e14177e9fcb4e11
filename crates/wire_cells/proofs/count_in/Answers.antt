-- `count_in` gives an item's count: by the message, and where there is one, by what stands behind NR CGI's extensions.
use Rattle.std.specs.Prelude.{Some}
use mathlib.Core.Path.{◌≡◌, sym, ◌∙◌}
use Prim.Native.Nat.{◌/◌, ◌%◌}
use native.Mathlib.Omega.{arith}
use Rattle.aper.specs.Readers.{GivenAt}
use Rattle.wire.specs.Messages.{count_size}
use Rattle.wire_cells.proofs.CountLaws.{uncounted, fixed-bytes, extensions_there, count-inside, counted, two_bytes}
use Rattle.wire_cells.proofs.count_in.Goals.{After-unwrap-extensions}
use Rattle.wire_cells.proofs.count_in.Goals as goal

-- where NR CGI's extensions end
own : (c : After-unwrap-extensions) → GivenAt c.args.entry.now 9 (c.get.result / 16 % 2) (Some c.unwrap-extensions.result)
own c = rw c.unwrap-extensions.ensures at c.given_at.ensures

-- the count's size
size : (c : After-unwrap-extensions) → count_size c.args.m ≡ 2
size c = two_bytes c.args.m (λ e. c.if-count_size-eq0.false (c.count_size.ensures ∙ e))

pub returns-then-count_size-eq0 : goal.returns-then-count_size-eq0
returns-then-count_size-eq0 c = uncounted c.args.m _ (λ i. (c.type_inv.entry i).fits) c.requires (sym c.count_size.ensures ∙ c.if-count_size-eq0.true)

pub get-requires : goal.get-requires
get-requires c = let long = fixed-bytes c.args.m _ (λ i. (c.type_inv.entry i).fits) c.requires in omega (arith, long)

pub given_at-requires-clause-at_in_bounds : goal.given_at-requires-clause-at_in_bounds
given_at-requires-clause-at_in_bounds c = fixed-bytes c.args.m _ (λ i. (c.type_inv.entry i).fits) c.requires

pub unwrap-extensions-requires : goal.unwrap-extensions-requires
unwrap-extensions-requires c = extensions_there c.args.m _ (λ i. (c.type_inv.entry i).fits) c.requires _ c.get.ensures _ c.given_at.ensures

pub get-requires-2 : goal.get-requires-2
get-requires-2 c =
    let d = (goal.at.get-requires-2 c).After-unwrap-extensions in
    let inside = count-inside c.args.m _ (λ i. (c.type_inv.entry i).fits) c.requires _ c.get.ensures _ (own d) in
    omega (arith, inside, size d)

pub returns : goal.returns
returns c =
    let d = (goal.at.returns c).After-unwrap-extensions in
    counted c.args.m _ (λ i. (c.type_inv.entry i).fits) c.requires _ c.get.ensures _ (own d) _ (rw (size d) c.get-2.ensures)

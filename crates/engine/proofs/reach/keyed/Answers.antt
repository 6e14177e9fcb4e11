-- `keyed` returns the keys turned, which are the keys again where they are compared (`keys-back`).
use mathlib.Core.Path.{◌≡◌, ap, ◌∙◌}
use mathlib.Core.List.{List}
use Prim.Native.Nat.{ℕ}
use native.Mathlib.Omega.{arith}
use borrow.Author.Rules.{rules}
use lib.ListN.{length, take}
use Rattle.rules.specs.Lists.{one_of}
use Rattle.engine.specs.Reach.{turned_keys}
use Rattle.engine.proofs.Searching.{four-read, keys-back}
use Rattle.engine.proofs.reach.keyed.Goals.{After-turned64-4}
use Rattle.engine.proofs.reach.keyed.Goals as goal

pub returns-clause-turned : goal.returns-clause-turned
unfolding turned_keys
returns-clause-turned c = rw (c.turned64.ensures, c.turned64-2.ensures, c.turned64-3.ensures, c.turned64-4.ensures)

pub returns-clause-meant : goal.returns-clause-meant
unfolding turned_keys
returns-clause-meant c =
    let long : length c.args.all ≡ 4 = search rules in
    λ x.
    keys-back _ c.args.keys _ _ _ _ (rw (c.turned64.ensures, c.turned64-2.ensures, c.turned64-3.ensures, c.turned64-4.ensures)) (omega arith) (omega arith) (omega arith) (omega arith) x
    ∙ ap (λ (l : List ℕ). one_of x (take c.args.keys l)) (four-read c.args.all long)

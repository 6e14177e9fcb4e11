-- `named` says whether the item at an index is one of the keys in use: each way out is its case of `named_by_keys`.
-- Behind a key that did not match those behind it decide.
use mathlib.Core.Bool.{Bool, false, cond, ◌||◌}
use mathlib.Core.Path.{◌≡◌, sym, ◌∙◌}
use mathlib.Core.List.{List}
use Prim.Native.Nat.{ℕ}
use borrow.Author.Rules.{rules}
use borrow.Author.Tests.{eq-eqb, ne_eqb}
use lib.Dec.{eqb}
use lib.ListN.{get_or}
use Rattle.octets.specs.Runs.{gets}
use Rattle.octets.specs.Numbers.{be}
use Rattle.octets.specs.Turned.{turned}
use Rattle.rules.specs.Layout.{current, item_size}
use Rattle.engine.specs.Reach.{named_by}
use Rattle.engine.specs.declared.reach.Naming.{Naming}
use Rattle.engine.proofs.Searching.{named_by_keys}
use Rattle.engine.proofs.reach.named.Goals.{Else-says64, Else-says64-2, Else-says64-3}
use Rattle.engine.proofs.reach.named.Goals as goal

-- ---- the keys from one on
module _ (s : Naming) (x : ℕ) where
  abbrev by_fourth : Bool
  by_fourth = cond (eqb s.keys 3) false (eqb x (turned 8 (get_or s.turned 3 0)))

  abbrev by_third : Bool
  by_third = cond (eqb s.keys 2) false (eqb x (turned 8 (get_or s.turned 2 0)) || by_fourth)

  abbrev by_second : Bool
  by_second = cond (eqb s.keys 1) false (eqb x (turned 8 (get_or s.turned 1 0)) || by_third)

-- the item that is looked at
abbrev item : List ℕ → ℕ → ℕ
item req at = be (gets req at (item_size current))

-- ---- a key that did not match
not_first : (c : Else-says64) → named_by c.args.s (item c.args.req.now c.args.at) ≡ by_second c.args.s (item c.args.req.now c.args.at)
not_first c =
    rw (named_by_keys c.args.s _ (search rules), ne_eqb _ _ c.if-s-eq0.false, sym c.says64.ensures ∙ c.if-says64.false)

not-second : (c : Else-says64-2) → named_by c.args.s (item c.args.req.now c.args.at) ≡ by_third c.args.s (item c.args.req.now c.args.at)
not-second c =
    rw (
      named_by_keys c.args.s _ (search rules),
      ne_eqb _ _ c.if-s-eq0.false,
      sym c.says64.ensures ∙ c.if-says64.false,
      ne_eqb _ _ c.if-s-eq1.false,
      sym c.says64-2.ensures ∙ c.if-says64-2.false,
    )

not_third : (c : Else-says64-3)
    → named_by c.args.s (item c.args.req.now c.args.at) ≡ by_fourth c.args.s (item c.args.req.now c.args.at)
not_third c =
    rw (
      named_by_keys c.args.s _ (search rules),
      ne_eqb _ _ c.if-s-eq0.false,
      sym c.says64.ensures ∙ c.if-says64.false,
      ne_eqb _ _ c.if-s-eq1.false,
      sym c.says64-2.ensures ∙ c.if-says64-2.false,
      ne_eqb _ _ c.if-s-eq2.false,
      sym c.says64-3.ensures ∙ c.if-says64-3.false,
    )

-- ---- the ways out
pub returns-then-s-eq0 : goal.returns-then-s-eq0
returns-then-s-eq0 c = rw (named_by_keys c.args.s _ (search rules), eq-eqb _ _ c.if-s-eq0.true)

pub returns-then-says64 : goal.returns-then-says64
returns-then-says64 c =
    rw (named_by_keys c.args.s _ (search rules), ne_eqb _ _ c.if-s-eq0.false, sym c.says64.ensures ∙ c.if-says64.true)

pub returns-then-s-eq1 : goal.returns-then-s-eq1
returns-then-s-eq1 c = sym (not_first (goal.at.returns-then-s-eq1 c).Else-says64 ∙ rw (eq-eqb _ _ c.if-s-eq1.true))

pub returns-then-says64-2 : goal.returns-then-says64-2
returns-then-says64-2 c =
    sym (not_first (goal.at.returns-then-says64-2 c).Else-says64 ∙ rw (ne_eqb _ _ c.if-s-eq1.false, sym c.says64-2.ensures ∙ c.if-says64-2.true))

pub returns-then-s-eq2 : goal.returns-then-s-eq2
returns-then-s-eq2 c = sym (not-second (goal.at.returns-then-s-eq2 c).Else-says64-2 ∙ rw (eq-eqb _ _ c.if-s-eq2.true))

pub returns-then-says64-3 : goal.returns-then-says64-3
returns-then-says64-3 c =
    sym (not-second (goal.at.returns-then-says64-3 c).Else-says64-2 ∙ rw (ne_eqb _ _ c.if-s-eq2.false, sym c.says64-3.ensures ∙ c.if-says64-3.true))

pub returns-then-s-eq3 : goal.returns-then-s-eq3
returns-then-s-eq3 c = sym (not_third (goal.at.returns-then-s-eq3 c).Else-says64-3 ∙ rw (eq-eqb _ _ c.if-s-eq3.true))

pub returns : goal.returns
returns c =
    c.says64-4.ensures ∙ sym (not_third (goal.at.returns c).Else-says64-3 ∙ rw (ne_eqb _ _ c.if-s-eq3.false))

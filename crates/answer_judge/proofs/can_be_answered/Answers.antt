-- `can_be_answered` says whether bytes can be the answer of an accepted Write-Replace or Cancel.
-- By `one_pass`: a right head, and rows that follow one another.
use mathlib.Core.Path.{◌≡◌, sym, ◌∙◌}
use mathlib.Core.Bool.{Bool, true, false}
use mathlib.Core.List.{List}
use Prim.Native.Nat.{ℕ}
use native.Mathlib.Omega.{arith}
use Rattle.rules.specs.Answer.{answer_of}
use Rattle.answer_judge.specs.OnePass.{right_head}
use Rattle.answer_judge.proofs.OnePassLaws.{right_head_lem, one_pass}
use Rattle.answer_judge.proofs.can_be_answered.Goals as goal

-- the head was judged, and found right
right : (b : List ℕ) {h : Bool} → h ≡ right_head b → h ≡ true → right_head b ≡ true
right b {h} e n = sym e ∙ n

pub returns-then-not-head_right : goal.returns-then-not-head_right
returns-then-not-head_right c =
    let b = c.args.answer.now in
    let wrong : right_head b ≡ false = sym c.head_right.ensures ∙ c.if-not-head_right.true in
    rw (one_pass b, wrong)

pub rows-requires : goal.rows-requires
rows-requires c =
    (right_head_lem _ (right _ c.head_right.ensures c.if-not-head_right.false)).long

pub kind-requires : goal.kind-requires
kind-requires c =
    (right_head_lem _ (right _ c.head_right.ensures c.if-not-head_right.false)).long

pub rows_follow-requires : goal.rows_follow-requires
rows_follow-requires c =
    let size = (right_head_lem _ (right _ c.head_right.ensures c.if-not-head_right.false)).size in
    omega (arith, size, c.rows.ensures)

pub returns : goal.returns
unfolding answer_of
returns c =
    let b = c.args.answer.now in
    rw (one_pass b, right b c.head_right.ensures c.if-not-head_right.false, c.rows_follow.ensures, c.kind.ensures, c.rows.ensures)

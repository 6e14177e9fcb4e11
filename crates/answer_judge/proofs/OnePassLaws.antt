-- The judge's tests say what `answerable` says: a right head, and rows that follow one another from NR CGI 0 on.
-- Rows follow if each is right and their NR CGIs ascend; a right row of a wired kind is a legal one with its kind's count.
use mathlib.Core.Path.{◌≡◌, refl, sym}
use mathlib.Core.Bool.{Bool, true, false, ◌&&◌, ◌||◌}
use mathlib.Core.List.{List, [], ◌∷◌}
use Prim.Native.Nat.{ℕ, ◌+◌, ◌*◌, ◌≤◌}
use native.Mathlib.Omega.{arith}
use lib.Dec.{eqb, ltb, leb}
use lib.ListN.{length}
use borrow.Author.Tests.{ltb-true, lt-ltb, leb-true, le-leb, eqb-true, eq-eqb}
use Rattle.octets.specs.Fields.{field_of}
use Rattle.rules.specs.Lists.{every, above, ascending, rising}
use Rattle.rules.specs.Layout.{current, mark_field, version_field, answer_fields, answer_size, row_size, answer_mark, answer_version, most_cells, cell_end}
use Rattle.rules.specs.Record.{cancel_or_kill, kind_of}
use Rattle.rules.specs.Reply.{Row, identities}
use Rattle.rules.specs.Answer.{row_count, answer_of, legal_row}
use Rattle.rules.proofs.TestLaws.{both, and-true}
use Rattle.rules.proofs.RowsLaws.{above-ascending}
use Rattle.rules.proofs.AllLaws.{All, none, more, all_imply, all_both}
use Rattle.answer_judge.specs.Answerable.{is_wired, counts_of, answerable}
use Rattle.answer_judge.specs.OnePass.{answer_marked, right_head, right_told, may_follow, follow}
use Rattle.answer_judge.proofs.AnswerableLaws.{Answerable, answerable_facts, facts_answerable, wired_by, wired-known, legal-row}

-- ---- rows

-- a row by itself
abbrev right_row : Bool → Row → Bool
right_row counted w = ltb w.identity cell_end && right_told counted w

-- the rows that follow one of this NR CGI
follow-above : (counted : Bool) (least x : ℕ) (ws : List Row) → least ≡ x + 1 → All (λ w. right_row counted w ≡ true) ws → above x (identities ws) ≡ true → follow counted least ws ≡ true
unfolding follow may_follow above
follow-above counted least x [] e none o = refl
follow-above counted least x (w ∷ ws) e (more p ps) o =
    let h = both (ltb x w.identity) (above w.identity (identities ws)) o in
    rw (le-leb least w.identity (omega (arith, e, ltb-true x w.identity h.0)), p, follow-above counted (w.identity + 1) w.identity ws refl ps h.1)

above-follow : (counted : Bool) (least x : ℕ) (ws : List Row) → least ≡ x + 1 → follow counted least ws ≡ true → All (λ w. right_row counted w ≡ true) ws × (above x (identities ws) ≡ true)
unfolding follow may_follow above
above-follow counted least x [] e f = (none, refl)
above-follow counted least x (w ∷ ws) e f =
    let h = both (leb least w.identity && right_row counted w) (follow counted (w.identity + 1) ws) f in
    let m = both (leb least w.identity) (right_row counted w) h.0 in
    let r = above-follow counted (w.identity + 1) w.identity ws refl h.1 in
    (more m.1 r.0, and-true (ltb x w.identity) (above w.identity (identities ws)) (lt-ltb x w.identity (omega (arith, e, leb-true least w.identity m.0))) r.1)

-- from NR CGI 0 on
follow_all : (counted : Bool) (ws : List Row) → All (λ w. right_row counted w ≡ true) ws → ascending (identities ws) ≡ true → follow counted 0 ws ≡ true
unfolding follow may_follow ascending
follow_all counted [] none o = refl
follow_all counted (w ∷ ws) (more p ps) o = rw (le-leb 0 w.identity (omega arith), p, follow-above counted (w.identity + 1) w.identity ws refl ps o)

all_follow : (counted : Bool) (ws : List Row) → follow counted 0 ws ≡ true → All (λ w. right_row counted w ≡ true) ws × (ascending (identities ws) ≡ true)
unfolding follow may_follow ascending
all_follow counted [] f = (none, refl)
all_follow counted (w ∷ ws) f =
    let h = both (leb 0 w.identity && right_row counted w) (follow counted (w.identity + 1) ws) f in
    let m = both (leb 0 w.identity) (right_row counted w) h.0 in
    let r = above-follow counted (w.identity + 1) w.identity ws refl h.1 in
    (more m.1 r.0, r.1)

-- what ascends strictly rises
above-least : (x y : ℕ) (l : List ℕ) → x ≤ y → above y l ≡ true → every (leb x) l ≡ true
unfolding above every
above-least x y [] h o = refl
above-least x y (z ∷ zs) h o =
    let p = both (ltb y z) (above z zs) o in
    let over = ltb-true y z p.0 in
    and-true (leb x z) (every (leb x) zs) (le-leb x z (omega (arith, h, over))) (above-least x z zs (omega (arith, h, over)) p.1)

pub ascending-rising : (l : List ℕ) → ascending l ≡ true → rising l ≡ true
unfolding ascending rising
ascending-rising [] o = refl
ascending-rising (x ∷ xs) o = and-true (every (leb x) xs) (rising xs) (above-least x x xs (omega arith) o) (ascending-rising xs (above-ascending x xs o))

-- ---- a row of a wired kind

-- of a Write-Replace and of a Cancel, the same tests
module _ (kind : ℕ) (wired : is_wired (kind_of kind) ≡ true) (w : Row) where
  row_right : legal_row kind w ≡ true → counts_of (kind_of kind) w ≡ true → right_row (eqb kind cancel_or_kill) w ≡ true
  unfolding right_told
  row_right l n = let r = legal-row kind wired w l in wired_by kind wired (λ k. rw (k, r.0, r.1) (rw k at n)) (λ k. rw (k, r.0, r.1))

  right_legal : right_row (eqb kind cancel_or_kill) w ≡ true → (legal_row kind w ≡ true) × (counts_of (kind_of kind) w ≡ true)
  unfolding legal_row right_told
  right_legal e =
      let r = both (ltb w.identity cell_end) _ e in
      let t = both (eqb w.content 0) (eqb kind cancel_or_kill || eqb w.count 0) r.1 in
      wired_by kind wired (λ k. rw (k, r.0, t.0) (refl, rw k at t.1)) (λ k. rw (k, r.0, t.0) (refl, refl))

-- ---- the head

pub record RightHead (b : List ℕ) : Type 0 where
  pub long : answer_size current ≤ length b
  pub few : row_count current b ≤ most_cells
  pub mark : field_of (answer_fields current) mark_field b ≡ answer_mark
  pub version : field_of (answer_fields current) version_field b ≡ answer_version current
  pub wired : is_wired (kind_of (answer_of current b).kind) ≡ true
  pub size : length b ≡ answer_size current + row_size current * row_count current b

pub right_head_lem : (b : List ℕ) → right_head b ≡ true → RightHead b
unfolding right_head answer_marked
right_head_lem b e =
    let a = both (leb (answer_size current) (length b) && leb (row_count current b) most_cells) _ e in
    let n = both (leb (answer_size current) (length b)) (leb (row_count current b) most_cells) a.0 in
    let s = both _ (eqb (length b) (answer_size current + row_size current * row_count current b)) a.1 in
    let k = both _ (is_wired (kind_of (answer_of current b).kind)) s.0 in
    let m = both (eqb (field_of (answer_fields current) mark_field b) answer_mark) _ k.0 in
    record {
      long = leb-true (answer_size current) (length b) n.0;
      few = leb-true (row_count current b) most_cells n.1;
      mark = eqb-true (field_of (answer_fields current) mark_field b) answer_mark m.0;
      version = eqb-true (field_of (answer_fields current) version_field b) (answer_version current) m.1;
      wired = k.1;
      size = eqb-true (length b) (answer_size current + row_size current * row_count current b) s.1;
    }

head_right_lem : (b : List ℕ) → Answerable b → right_head b ≡ true
unfolding right_head answer_marked
head_right_lem b a =
    rw (
      le-leb (answer_size current) (length b) a.legal.long,
      le-leb (row_count current b) most_cells a.few,
      eq-eqb (field_of (answer_fields current) mark_field b) answer_mark a.legal.mark,
      eq-eqb (field_of (answer_fields current) version_field b) (answer_version current) a.legal.version,
      a.wired,
      eq-eqb (length b) (answer_size current + row_size current * row_count current b) a.legal.size,
    )

-- ---- both

-- two tests that hold together or not at all
same_test : (a b : Bool) → (a ≡ true → b ≡ true) → (b ≡ true → a ≡ true) → a ≡ b
same_test true b f g = sym (f refl)
same_test false true f g = g refl
same_test false false f g = refl

-- the judge's tests of the rows
abbrev pub rows_follow_lem : List ℕ → Bool
rows_follow_lem b = follow (eqb (answer_of current b).kind cancel_or_kill) 0 (answer_of current b).reply.rows

module _ (b : List ℕ) where
  tests_hold : answerable b ≡ true → right_head b && rows_follow_lem b ≡ true
  tests_hold e =
      let a = answerable_facts b e in
      let kind = (answer_of current b).kind in
      let each = all_imply (λ w h. row_right kind a.wired w h.0 h.1) (all_both a.legal.each a.counts) in
      and-true (right_head b) (rows_follow_lem b) (head_right_lem b a) (follow_all (eqb kind cancel_or_kill) (answer_of current b).reply.rows each a.order)

  tests_suffice : right_head b && rows_follow_lem b ≡ true → answerable b ≡ true
  tests_suffice e =
      let h = both (right_head b) (rows_follow_lem b) e in
      let a = right_head_lem b h.0 in
      let kind = (answer_of current b).kind in
      let f = all_follow (eqb kind cancel_or_kill) (answer_of current b).reply.rows h.1 in
      facts_answerable b
      (record {
        legal =
            record {
              long = a.long;
              mark = a.mark;
              version = a.version;
              known = wired-known kind a.wired;
              size = a.size;
              each = all_imply (λ w r. (right_legal kind a.wired w r).0) f.0;
              order = ascending-rising (identities (answer_of current b).reply.rows) f.1;
            };
        wired = a.wired;
        few = a.few;
        counts = all_imply (λ w r. (right_legal kind a.wired w r).1) f.0;
        order = f.1;
      })

  pub one_pass : answerable b ≡ right_head b && rows_follow_lem b
  one_pass = same_test (answerable b) (right_head b && rows_follow_lem b) tests_hold tests_suffice

-- As long as the answer has one layout in every version: calls with the same buffers are the same calls, and get the very same results.
-- One decoded answer has the same bytes in every version, and needs the same room (rules, VersionsLaws).
use mathlib.Core.Path.{◌≡◌, refl, sym, ap, ◌∙◌}
use mathlib.Core.List.{List}
use Prim.Native.Nat.{ℕ}
use lib.Dec.{eqb}
use lib.ListN.{length}
use borrow.Author.Tests.{eqb-true, eqb-false}
use Rattle.rules.specs.Layout.{Version, current}
use Rattle.rules.specs.Record.{request_of}
use Rattle.rules.specs.Answer.{Answer}
use Rattle.rules.proofs.TestLaws.{by_test}
use Rattle.rules.proofs.AlikeLaws.{answer_stays, room_stays}
use Rattle.demands.specs.Demand3.{Call, Result}
use Rattle.demands.specs.Conversion.{Each, more, Tells, Silent, SameTold, EachTold, none_told, more-told, AnswerStays}

same_result : (x y : Result) → y.number ≡ x.number → y.length ≡ x.length → y.answer ≡ x.answer → y ≡ x
same_result x y n l a i = record { number = n i; length = l i; answer = a i }

module _ (v : Version) (w : Answer) (c d : Call) (b : d.answer ≡ c.answer) (x y : Result) where
  told_same : y.number ≡ x.number → Tells v w c.answer x → Tells current w d.answer y → y ≡ x
  told_same n p q =
      let long : y.length ≡ x.length = q.size ∙ ap length (sym (answer_stays v w)) ∙ sym p.size in
      same_result x y n long (q.whole ∙ rw (← answer_stays v w, long, b) (sym p.whole))

  silent_same : y.number ≡ x.number → Silent c.answer x → Silent d.answer y → y ≡ x
  silent_same n p q = same_result x y n (q.nothing ∙ sym p.nothing) (q.kept ∙ b ∙ sym p.kept)

  one_same : SameTold v w c d x y → y ≡ x
  one_same s =
      by_test (eqb x.number 0)
      (λ e. let a = s.accepted (eqb-true x.number 0 e) in told_same s.same_number a.0 a.1)
      (λ e. let r = s.refused (eqb-false x.number 0 e) in silent_same s.same_number r.0 r.1)

same_results : (v : Version) (t : List ℕ) (cs ds : List Call) (xs ys : List Result) → EachTold v t cs ds xs ys → Each (λ c d. d.answer ≡ c.answer) cs ds → ys ≡ xs
same_results v t cs ds xs ys none_told same = refl
same_results v t cs ds xs ys (more-told {c} {d} {x} {y} {cs = cs'} {ds = ds'} {xs = xs'} {ys = ys'} s rest) (more b bs) =
    rw (one_same v _ c d b x y s, same_results v _ cs' ds' xs' ys' rest bs)

pub answer_stays_holds : AnswerStays
answer_stays_holds =
    record {
      same-buffer = λ v cells c d sent b. record { req = sent; rooms = rw (b, room_stays v (request_of c.req).kind cells) };
      same_results = same_results;
    }

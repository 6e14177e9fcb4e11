-- The number of a call is that of its verdict.
-- By the cases of the verdict.
use Rattle.std.specs.Prelude.{Ok, Err}
use mathlib.Core.Path.{◌≡◌, refl, ap, ◌∙◌}
use mathlib.Core.List.{List}
use Prim.Native.Nat.{ℕ, zero, suc}
use lib.ListN.{length}
use Rattle.rules.specs.Layout.{Version}
use Rattle.rules.specs.Record.{request_of, items_of}
use Rattle.rules.specs.Refusals.{verdict_number, apply_verdict, Verdict}
use Rattle.rules.specs.Applied.{fill, reading, outcome, applied}
use Rattle.rules.specs.declared.Request.{Request}
use Rattle.segments.specs.Segments.{lying}

pub fill-number : (v : Verdict) (bs buffer : List ℕ) → (fill v bs buffer).number ≡ verdict_number v
unfolding fill
fill-number (Ok tt) bs buffer = refl
fill-number (Err x) bs buffer = refl

pub reading-number : (v : Verdict) (r : List ℕ) → (reading v r).number ≡ verdict_number v
unfolding reading
reading-number (Ok tt) r = refl
reading-number (Err x) r = refl

pub outcome-number : (w : Version) (v : Verdict) (q : Request) (items t a : List ℕ) → (outcome w v q items t a).number ≡ verdict_number v
unfolding outcome
outcome-number w (Ok tt) q items t a = refl
outcome-number w (Err x) q items t a = refl

-- so a call that is accepted gets 0
pub accepted-number : (v : Version) (t r a : List ℕ) → apply_verdict v t r (length a) ≡ Ok tt → (applied v t r a).number ≡ 0
unfolding applied
accepted-number v t r a e = outcome-number v (apply_verdict v t r (length a)) (request_of r) (items_of r) t a ∙ ap verdict_number e

pub lying-number : (v : Verdict) (first more : List ℕ) (k : ℕ) → (lying v first more k).number ≡ verdict_number v
unfolding lying
lying-number (Err x) first more k = refl
lying-number (Ok tt) first more zero = refl
lying-number (Ok tt) first more (suc j) = refl

-- What the judge is told of a request and its items makes its tests those of the rules.
-- Row by row of the table of kinds; the limits of items by their joined bits; the rest is computed.
use mathlib.Core.Path.{◌≡◌, refl}
use mathlib.Core.Bool.{Bool, ◌&&◌, and-true}
use mathlib.Core.List.{List, [], ◌∷◌}
use Prim.Native.Nat.{ℕ, suc}
use native.Mathlib.Omega.{arith}
use lib.Dec.{ltb}
use lib.ListN.{length}
use borrow.Author.Tests.{ne_eqb}
use Rattle.octets.specs.Joined.{joined}
use Rattle.rules.specs.Lists.{every, zeros}
use Rattle.rules.specs.Record.{Kind, a_write_replace, a_cancel, a_restart, a_failure, a_second, unknown_kind, kind_of, identifier_to_sib, cancel_zeros, allowed, allowed_by, kind_allows, area_fits, item_end, within_limits}
use Rattle.rules.specs.Refusals.{request_verdict}
use Rattle.rules.specs.declared.Seconds.{Seconds}
use Rattle.rules.specs.declared.Request.{Request}
use Rattle.record_judge.specs.Told.{kind_told, text_told, items_told, told_verdict}
use Rattle.record_judge.proofs.SmallLaws.{all_small}

kind-says : (k : Kind) (q : Request) → kind_told k q.flags q.area (zeros (identifier_to_sib q)) (zeros (cancel_zeros q)) ≡ allowed_by k q
unfolding allowed zeros every
kind-says a_write_replace q = simp and-true
kind-says a_cancel q = refl
kind-says a_restart q = refl
kind-says a_failure q = refl
kind-says a_second q = refl
kind-says unknown_kind q = refl

items_say : (area : ℕ) (items : List ℕ) → items_told area (length items) (joined 0 items) ≡ every (λ x. ltb x (item_end area)) items
unfolding every
items_say area [] = refl
items_say area (x ∷ xs) = rw (ne_eqb (suc (length xs)) 0 (λ e. omega arith)) (all_small area (x ∷ xs))

limits_say : (longest : Seconds) (q : Request) (items : List ℕ) → text_told q longest && items_told q.area (length items) (joined 0 items) ≡ within_limits longest q items
unfolding within_limits
limits_say longest q items = rw (items_say q.area items)

-- told the truth of a request and its items, the judge says what the rules say
pub told-verdict : (longest : Seconds) (q : Request) (items : List ℕ) {textless omitted : Bool} {n any : ℕ}
    → textless ≡ zeros (identifier_to_sib q) → omitted ≡ zeros (cancel_zeros q) → n ≡ length items → any ≡ joined 0 items
    → told_verdict q textless omitted n any longest ≡ request_verdict longest q items
unfolding told_verdict request_verdict kind_allows area_fits
told-verdict longest q items text left count bits =
    rw (text, left, count, bits, kind-says (kind_of q.kind) q, limits_say longest q items)

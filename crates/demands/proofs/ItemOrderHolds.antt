-- Item order and repeats change nothing.
-- Of the items only their members count for the verdict and for reach (rules, ItemsLaws); rows and cells follow from reach and the request.
use Rattle.std.specs.Prelude.{Ok, Err}
use mathlib.Core.Path.{◌≡◌, refl, ap}
use mathlib.Core.List.{List}
use Prim.Native.Nat.{ℕ}
use lib.Dec.{eqb}
use lib.ListN.{length, get_or}
use borrow.Author.Tests.{le-leb, eq-eqb}
use Rattle.octets.specs.Fields.{numbers, field_of}
use Rattle.rules.specs.Layout.{current}
use Rattle.rules.specs.Table.{Cell, cells_of}
use Rattle.rules.specs.Record.{request_of, items_of, version_in, zero_byte, longest_asked}
use Rattle.rules.specs.Refusals.{record_verdict, apply_verdict, Verdict}
use Rattle.rules.specs.Reply.{reply_of}
use Rattle.rules.specs.Applied.{outcome, applied}
use Rattle.rules.specs.declared.Request.{Request}
use Rattle.rules.proofs.VerdictLaws.{apply_chain}
use Rattle.rules.proofs.ItemsLaws.{SameMembers, judged_alike, reach_alike, steps_alike, rows_alike}
use Rattle.demands.specs.Demand2.{reached}
use Rattle.demands.specs.ItemOrder.{fields_of, SameButForItems, SameReply, ItemOrder}

module _ (r s : List ℕ) (e : SameButForItems r s) where
  -- ---- fields

  same-field : (k : ℕ) → get_or (fields_of s) k 0 ≡ get_or (fields_of r) k 0
  same-field k = ap (λ l. get_or l k 0) e.same_fields

  request-same : request_of s ≡ request_of r
  unfolding request_of field_of numbers
  request-same = rw (same-field 2, same-field 3, same-field 4, same-field 5, same-field 6, same-field 7, same-field 8, same-field 9, same-field 10)

  version-same : version_in s ≡ version_in r
  unfolding field_of numbers
  version-same = same-field 1

  zero_same : zero_byte s ≡ zero_byte r
  unfolding field_of numbers
  zero_same = same-field 11

  -- ---- verdicts

  reach-same : (c : Cell) → reached s c ≡ reached r c
  reach-same c = rw request-same (reach_alike (items_of s) (items_of r) e.same_members (request_of r).area c.head)

  record_same : record_verdict current s ≡ record_verdict current r
  unfolding record_verdict
  record_same =
      let w = e.first-whole in
      let x = e.second-whole in
      let judged = judged_alike (items_of s) (items_of r) e.same_members (eqb (zero_byte r) 0) (longest_asked r) (request_of r) in
      rw (w.marked, x.marked, le-leb _ _ w.few, le-leb _ _ x.few, eq-eqb _ _ w.size, eq-eqb _ _ x.size, zero_same, version-same, request-same, judged)

  verdict-same : (t : List ℕ) (room : ℕ) → apply_verdict current t s room ≡ apply_verdict current t r room
  verdict-same t room = rw (apply_chain current t s room, apply_chain current t r room, record_same, request-same)

-- ---- outcomes

outcome-same : (v : Verdict) (q : Request) (items others : List ℕ) → SameMembers others items → (t a : List ℕ)
    → SameReply (outcome current v q items t a) (outcome current v q others t a)
unfolding outcome reply_of
outcome-same (Err x) q items others same t a = record { number = refl; length = refl; table = refl; answer = refl }
outcome-same (Ok tt) q items others same t a =
    let steps = steps_alike others items same q (cells_of current t) in
    let rows = rows_alike others items same q (cells_of current t) in
    record { number = refl; length = rw rows; table = rw steps; answer = rw rows }

reply : (r s : List ℕ) → SameButForItems r s → (t a : List ℕ) → SameReply (applied current t r a) (applied current t s a)
unfolding applied
reply r s e t a =
    rw (verdict-same r s e t (length a), request-same r s e) (outcome-same (apply_verdict current t r (length a)) (request_of r) (items_of r) (items_of s) e.same_members t a)

pub item-order : ItemOrder
item-order =
    record {
      same-reach = reach-same;
      same-reply = reply;
      promised = λ r s e t a d f t₁ a₁ t₂ a₂ p q. rw (p, q) (reply r s e t a);
    }
